use mathlib.Core.Path.{sym}
use Rattle.text_digits.specs.PutLaws.{wrote_as, refusal-text}
use Rattle.text_digits.proofs.write_refusal.Goals as goal

pub returns : goal.returns
returns c = wrote_as (sym (refusal-text c.args.n)) c.write_said.ensures
