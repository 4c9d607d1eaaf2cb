use mathlib.Core.Path.{◌∙◌}
use Rattle.std.proofs.Common.{rules}
use Rattle.cover_tally.specs.TallyLaws.{added_sum, added_all}
use Rattle.cover_tally.proofs.Tally.total.Goals as goal

pub returns : goal.returns
returns c ts t = c.added.ensures ∙ added_sum c.args.self.places (search rules) ∙ added_all c.args.self.places ts t
