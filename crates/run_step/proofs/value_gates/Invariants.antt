use Rattle.run_values.specs.Sheets.{sheet}
use Rattle.run_step.specs.Stepping.{Ordering}
use Rattle.run_step.proofs.value_gates.Given as goal

abbrev pub invariant-loop-i : goal.invariant-loop-i
invariant-loop-i l = Ordering (sheet l.s.z l.s.net.now l.s.tables.now l.s.kept.now l.s.word) l.initial.known l.known l.i
