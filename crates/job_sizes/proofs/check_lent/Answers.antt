use native.Mathlib.Omega.{arith}
use Rattle.job_sizes.specs.SizeLaws.{lent_none, lent-short, lent-long}
use Rattle.job_sizes.proofs.check_lent.Goals as goal

pub returns-then-n-eq0 : goal.returns-then-n-eq0
returns-then-n-eq0 g c number = let a = c.args in lent_none a.least (number a.told) a.n c.if-n-eq0.true

pub returns-then-n-least : goal.returns-then-n-least
returns-then-n-least g c number = let a = c.args in lent-short a.least (number a.told) a.n c.if-n-eq0.false (omega (arith, c.if-n-least.true))

pub returns : goal.returns
returns g c number = let a = c.args in lent-long a.least (number a.told) a.n c.if-n-eq0.false (omega (arith, c.if-n-least.false))
