use mathlib.Core.Path.{sym}
use Rattle.text_digits.specs.PutLaws.{wrote_as, excess-text}
use Rattle.text_digits.proofs.write_excess.Goals as goal

pub returns : goal.returns
returns c = wrote_as (sym (excess-text c.args.n)) c.write_said.ensures
