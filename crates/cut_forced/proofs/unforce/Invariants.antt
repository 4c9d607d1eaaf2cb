use Rattle.cut_forced.specs.Forcing.{Listed}
use Rattle.cut_forced.proofs.unforce.Given as goal

abbrev pub invariant-loop-x : goal.invariant-loop-x
invariant-loop-x l = Listed l.s.inputs l.s.gates l.s.width l.slots l.members l.x-index
