use Rattle.std.proofs.Common.{◌≡◌, ◌-◌}
use Rattle.net_model.specs.Arrays.{copies_from}
use Rattle.cover_records.specs.CoverBytes.{rising_leaves}
use Rattle.cover_rows.proofs.rising.Given as goal

abbrev pub invariant-loop-i : goal.invariant-loop-i
invariant-loop-i l = rising_leaves (copies_from l.fn.leaves.nodes l.fn.leaves.backs 0 l.n) ≡ rising_leaves (copies_from l.fn.leaves.nodes l.fn.leaves.backs (l.i - 1) (l.n - (l.i - 1)))
