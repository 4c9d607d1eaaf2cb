use Prim.Native.Nat.{◌*◌, ◌≤◌}
use Rattle.limits.specs.Limits.{most_pins}
use Rattle.cut_search.specs.SearchParts.{Sought}
use Rattle.cut_search.proofs.successor.Given as goal

abbrev pub invariant-loop-at : goal.invariant-loop-at
invariant-loop-at l =
    (l.at ≤ most_pins * l.s.gates) × Sought l.s.inputs l.s.width l.s.border l.sources l.counts l.heads l.nexts l.table l.y l.at

abbrev pub decreases-loop-at : goal.decreases-loop-at
decreases-loop-at l = l.at
