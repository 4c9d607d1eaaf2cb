use Prim.Native.Nat.{◌-◌}
use Rattle.cut_circuit.specs.Packed.{packed_of}
use Rattle.cut_question.specs.Separating.{AtRest}
use Rattle.label_aim.specs.Aims.{mode_of}
use Rattle.label_visit.specs.LabelVisits.{wiring, tops_in}
use Rattle.label_sweep.specs.Sweeps.{outs_in, delays_in}
use Rattle.label_period.specs.PeriodSearch.{Halved}
use Rattle.label_period.proofs.halve.Given as goal

abbrev pub invariant-loop-low : goal.invariant-loop-low
invariant-loop-low l = Halved (mode_of l.a.forward) (wiring l.s l.net) l.a.k (tops_in l.s l.net l.a.cap) (outs_in l.s l.net) (delays_in l.s l.net l.a.outputs) l.a.outputs l.low l.high × AtRest (packed_of l.s l.net l.slots) l.table l.list l.stack l.counts l.members

abbrev pub decreases-loop-low : goal.decreases-loop-low
decreases-loop-low l = l.high - l.low
