use Rattle.run_values.specs.Sheets.{sheet, More}
use Rattle.text_digits.specs.Put.{Put}
use Rattle.text_bench.specs.BenchAsked.{first_digits}
use Rattle.text_bench.proofs.put_outputs.Given as goal

abbrev pub invariant-loop-o : goal.invariant-loop-o
invariant-loop-o l =
    More (sheet l.s.z l.s.net.now l.s.tables.now l.s.kept.now l.s.word) l.initial.known l.known × Put l.o l.initial.at (first_digits (sheet l.s.z l.s.net.now l.s.tables.now l.s.kept.now l.s.word) l.o) l.initial.out l.out l.at
