use Rattle.std.proofs.Common.{ℕ, ◌<◌}
use Rattle.net_model.specs.Copies.{copy}
use Rattle.net_model.specs.Arrays.{copy_at}
use Rattle.cone_leaves.proofs.LookupLaws.{Passed}
use Rattle.cone_leaves.proofs.seek.Given as goal

abbrev pub invariant-loop-j : goal.invariant-loop-j
invariant-loop-j l = (i : ℕ) → i < l.j → Passed (copy l.node l.back) (copy_at l.leaf_nodes l.leaf_backs i)
