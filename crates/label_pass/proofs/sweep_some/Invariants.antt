use Rattle.std.proofs.Common.{Ok}
use Rattle.cut_circuit.specs.Packed.{packed_of}
use Rattle.cut_question.specs.Separating.{AtRest}
use Rattle.label_aim.specs.Aims.{mode_of, rise_in}
use Rattle.label_visit.specs.LabelVisits.{wiring, tops_in}
use Rattle.label_pass.specs.Passes.{order_in, Progress}
use Rattle.label_pass.proofs.sweep_some.Given as goal

abbrev pub invariant-loop : goal.invariant-loop
invariant-loop l =
    AtRest (packed_of l.s l.net l.slots) l.table l.list l.stack l.counts l.members
    × Progress (mode_of l.a.forward) (rise_in l.s l.a) (wiring l.s l.net) l.a.k l.a.phi (tops_in l.s l.net l.a.cap) (order_in l.s l.net) l.fn.labels l.labels (Ok l.last)
