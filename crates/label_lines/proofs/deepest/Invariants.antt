use Rattle.label_lines.specs.Lines.{Deepest}
use Rattle.label_lines.proofs.deepest.Given as goal

abbrev pub invariant-loop-j : goal.invariant-loop-j
invariant-loop-j l = Deepest l.pins.sources.now l.pins.counts.now l.depths l.at l.j l.d
