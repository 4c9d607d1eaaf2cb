use Rattle.std.proofs.Common.{add-zero, arith}
use Rattle.net_marks.specs.MarkLaws.{unmarked-bound}
use Rattle.net_reached.specs.ReachingLaws.{sweep-next, sweep-at}
use Rattle.net_reached.proofs.reach_sweep.Goals as goal
use Rattle.net_reached.proofs.reach_sweep.Goals.{then-reach_gate, else-reach_gate}

pub overflow_add-new : goal.overflow_add-new
overflow_add-new c = omega (arith, c.loop-g.invariant.grown.new, unmarked-bound c.args.seen.now)

pub loop-g-preserved : goal.loop-g-preserved
loop-g-preserved c =
    elim c.if-reach_gate.branch [
      | then-reach_gate w ↦ rw w.new-is (sweep-next c.loop-g.invariant (rw w.if-reach_gate.true at c.reach_gate.ensures))
      | else-reach_gate w ↦ rw w.new-is (rw add-zero at (sweep-next c.loop-g.invariant (rw w.if-reach_gate.false at c.reach_gate.ensures)))
    ]

pub returns : goal.returns
returns c = sweep-at (omega arith) c.loop-g.invariant
