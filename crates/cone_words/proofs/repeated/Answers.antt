use mathlib.Core.Path.{sym, ◌∙◌}
use Rattle.cone_words.proofs.WholeWordLaws.{repeated-one}
use Rattle.cone_words.proofs.repeated.Goals as goal

pub returns-then-value_at-eq1 : goal.returns-then-value_at-eq1
returns-then-value_at-eq1 c = repeated-one c.args.table c.args.i (sym c.value_at.ensures ∙ c.if-value_at-eq1.true)
