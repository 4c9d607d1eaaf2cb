use Rattle.std.proofs.Common.{[]}
use Rattle.cut_circuit.specs.Packed.{packed_of}
use Rattle.cut_question.specs.Separating.{AtRest}
use Rattle.label_aim.specs.Aims.{mode_of}
use Rattle.label_sweep.specs.Sweeps.{outs_in}
use Rattle.cover_roots.specs.RootMarks.{left}
use Rattle.cover_roots.specs.RootRounds.{Choosing}
use Rattle.cover_roots.proofs.choose.Given as goal

abbrev pub invariant-loop-g : goal.invariant-loop-g
invariant-loop-g l =
    AtRest (packed_of l.s l.net l.slots) l.table l.list l.stack l.counts l.members
    × Choosing (mode_of l.a.forward) (packed_of l.s l.net []) l.labels (outs_in l.s l.net) l.a.outputs l.a.phi l.a.k l.rows

abbrev pub decreases-loop-g : goal.decreases-loop-g
decreases-loop-g l = left l.rows l.s.gates
