use Rattle.std.proofs.Common.{◌+◌, min}
use Rattle.cut_circuit.specs.Packed.{packed_of}
use Rattle.cut_question.specs.Separating.{AtRest}
use Rattle.label_aim.specs.Aims.{mode_of, rise_in}
use Rattle.label_visit.specs.LabelVisits.{wiring, tops_in, left}
use Rattle.label_pass.specs.Passes.{order_in}
use Rattle.label_sweep.specs.Sweeps.{Swept}
use Rattle.label_sweep.proofs.sweep_all.Given as goal

abbrev pub invariant-loop-stop : goal.invariant-loop-stop
invariant-loop-stop l =
    AtRest (packed_of l.s l.net l.slots) l.table l.list l.stack l.counts l.members
    × Swept (mode_of l.a.forward) (rise_in l.s l.a) (wiring l.s l.net) l.a.k l.a.phi (tops_in l.s l.net l.a.cap) (order_in l.s l.net) l.fn.labels l.labels l.stop

abbrev pub decreases-loop-stop : goal.decreases-loop-stop
decreases-loop-stop l = left (wiring l.s l.net) l.a.phi (tops_in l.s l.net l.a.cap) l.labels l.s.gates + min l.stop 1
