use Rattle.std.proofs.Common.{ℕ, ◌/◌, ◌%◌, ◌<◌, get_or}
use Rattle.net_model.specs.Copies.{copy}
use Rattle.label_theory.specs.Labels.{Low}
use Rattle.signed.specs.Range.{label_in}
use Rattle.cut_kept.proofs.all_low.Given as goal

abbrev pub invariant-loop-y : goal.invariant-loop-y
invariant-loop-y l = (i : ℕ) → i < l.y-index → Low l.q.phi (label_in l.labels) l.q.height (copy (get_or l.copies i 0 / l.width) (get_or l.copies i 0 % l.width))
