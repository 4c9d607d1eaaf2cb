use mathlib.Core.Path.{◌≡◌}
use Prim.Native.Nat.{◌-◌}
use Rattle.net_model.specs.Copies.{copy}
use Rattle.cone_descent.specs.Descent.{seat_mark, Missed}
use Rattle.cone_descent.proofs.seat.Given as goal

abbrev pub invariant-loop-p : goal.invariant-loop-p
invariant-loop-p l =
    (seat_mark l.p ≡ l.mark) × Missed l.nodes l.backs (copy l.node l.back) l.mark l.p

abbrev pub decreases-loop-p : goal.decreases-loop-p
decreases-loop-p l =
    l.len - l.p
