use Prim.Native.Nat.{◌+◌, ◌*◌}
use Rattle.limits.specs.Limits.{most_outputs}
use Rattle.net_model.specs.Arrays.{net_in}
use Rattle.net_reader.specs.ReadAnswer.{arrays_of}
use Rattle.run_theory.specs.Bench.{value_at}
use Rattle.run_theory.specs.BenchBytes.{section_in, pairs_in}
use Rattle.run_step.specs.Stepping.{RunTo}
use Rattle.text_digits.specs.Put.{Put}
use Rattle.text_bench.specs.BenchText.{bench_lines}
use Rattle.text_bench.proofs.write_bench.Given as goal

abbrev pub invariant-loop-t : goal.invariant-loop-t
invariant-loop-t l =
    RunTo l.z l.net l.tables l.pairs l.initial.kept l.initial.known l.kept l.known l.t
    × Put ((most_outputs + 1) * l.t) 0 (bench_lines (net_in (arrays_of l.z l.net l.tables)) (section_in l.initial.kept) (value_at (net_in (arrays_of l.z l.net l.tables)) (section_in l.initial.kept) (pairs_in l.pairs)) l.t) l.initial.out l.out l.at
