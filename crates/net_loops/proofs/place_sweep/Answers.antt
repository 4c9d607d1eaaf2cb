use Rattle.std.proofs.Common.{add-zero}
use Rattle.net_loops.specs.PlacingLaws.{place-sweep-next}
use Rattle.net_loops.proofs.place_sweep.Goals as goal
use Rattle.net_loops.proofs.place_sweep.Goals.{then-place_gate, else-place_gate}

pub loop-g-preserved : goal.loop-g-preserved
loop-g-preserved c =
    elim c.if-place_gate.branch [
      | then-place_gate w ↦ rw w.new-is (place-sweep-next c.loop-g.invariant (rw w.if-place_gate.true at c.place_gate.ensures))
      | else-place_gate w ↦ rw w.new-is (rw add-zero at (place-sweep-next c.loop-g.invariant (rw w.if-place_gate.false at c.place_gate.ensures)))
    ]
