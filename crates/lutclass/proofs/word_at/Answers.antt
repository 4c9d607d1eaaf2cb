use mathlib.Core.Path.{refl}
use native.Mathlib.Omega.{arith}
use borrow.Author.Tests.{eq-eqb, ne_eqb}
use Rattle.lutclass.specs.Feeding.{word_at}
use Rattle.lutclass.proofs.FeedingLaws.{order_small}
use Rattle.lutclass.proofs.word_at.Goals as goal

pub overflow_sub-result : goal.overflow_sub-result
overflow_sub-result c = order_small c.args.n c.args.l (omega arith) (omega arith)

pub returns-then-n-l-eq1 : goal.returns-then-n-l-eq1
unfolding word_at
returns-then-n-l-eq1 c = rw (eq-eqb _ _ c.if-n-l-eq1.true) refl

pub returns-else-n-l-eq1 : goal.returns-else-n-l-eq1
unfolding word_at
returns-else-n-l-eq1 c = rw (ne_eqb _ _ c.if-n-l-eq1.false) refl
