use Prim.Native.Nat.{◌-◌}
use Rattle.cut_circuit.specs.Packed.{packed_of}
use Rattle.cut_question.specs.Separating.{AtRest}
use Rattle.label_aim.specs.Aims.{mode_of, rise_in}
use Rattle.label_visit.specs.LabelVisits.{wiring, tops_in}
use Rattle.label_pass.specs.Passes.{order_in, Sweep}
use Rattle.label_pass.proofs.sweep.Given as goal

abbrev pub invariant-loop-i : goal.invariant-loop-i
invariant-loop-i l =
    AtRest (packed_of l.s l.net l.slots) l.table l.list l.stack l.counts l.members × Sweep (mode_of l.a.forward) (rise_in l.s l.a) (wiring l.s l.net) l.a.k l.a.phi (tops_in l.s l.net l.a.cap) (order_in l.s l.net) l.initial.labels l.labels l.i l.end l.last

abbrev pub decreases-loop-i : goal.decreases-loop-i
decreases-loop-i l = l.s.gates - l.i
