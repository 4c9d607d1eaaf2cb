use Rattle.label_visit.specs.LabelVisits.{wiring}
use Rattle.label_lines.specs.Lines.{Levelled}
use Rattle.label_lines.proofs.greatest.Given as goal

abbrev pub invariant-loop-g : goal.invariant-loop-g
invariant-loop-g l = Levelled (wiring l.s l.net) l.depths l.g l.least l.most
