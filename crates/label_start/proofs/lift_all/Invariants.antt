use Rattle.label_visit.specs.LabelVisits.{wiring}
use Rattle.label_start.specs.Starts.{Floored}
use Rattle.label_start.proofs.lift_all.Given as goal

abbrev pub invariant-loop-i : goal.invariant-loop-i
invariant-loop-i l = Floored (wiring l.s l.net) l.a.k l.a.phi l.labels
