use mathlib.Core.Path.{◌≡◌, sym, ap, ◌∙◌}
use mathlib.Core.List.{List, ◌++◌}
use Prim.Native.Nat.{ℕ, ◌+◌, ◌*◌}
use native.Mathlib.Omega.{arith}
use Rattle.limits.specs.Limits.{most_outputs}
use Rattle.net_model.specs.Arrays.{net_in}
use Rattle.net_reader.specs.ReadAnswer.{arrays_of}
use Rattle.run_theory.specs.Bench.{value_at}
use Rattle.run_theory.specs.BenchBytes.{section_in, pairs_in}
use Rattle.run_step.specs.SteppingLaws.{run_none, run_more}
use Rattle.text_digits.specs.PutLaws.{put-none, put_same, put_then, put-more, put-wrote}
use Rattle.text_bench.specs.BenchText.{bench_lines, steps_shown}
use Rattle.text_bench.specs.BenchTextLaws.{lines_none, lines_next, line_step, text-is}
use Rattle.text_bench.proofs.write_bench.Goals as goal

pub loop-t-init : goal.loop-t-init
loop-t-init c =
    (run_none c.args.pairs.now c.args.kept.now c.args.known.now, put_same (sym (lines_none (net_in (arrays_of c.args.z c.args.net.now c.args.tables.now)) (section_in c.args.kept.now) (value_at (net_in (arrays_of c.args.z c.args.net.now c.args.tables.now)) (section_in c.args.kept.now) (pairs_in c.args.pairs.now)))) (put-none 0 c.args.out.now))

pub loop-t-preserved : goal.loop-t-preserved
loop-t-preserved c =
    let loop = c.loop-t in
    let i = loop.invariant in
    let r = c.requires.step.runnable in
    let told = rw c.pair_at-word.ensures at c.put_step-at.ensures in
    let line = ap (λ (l : List ℕ). bench_lines (net_in (arrays_of c.args.z c.args.net.now c.args.tables.now)) (section_in c.args.kept.now) (value_at (net_in (arrays_of c.args.z c.args.net.now c.args.tables.now)) (section_in c.args.kept.now) (pairs_in c.args.pairs.now)) loop.t ++ l) (line_step r i.0) in (
      run_more c.args.pairs.now c.args.kept.now c.args.known.now r i.0 told.step,
      put-more ((most_outputs + 1) * (loop.t + 1)) (omega arith) (put_same (line ∙ lines_next (net_in (arrays_of c.args.z c.args.net.now c.args.tables.now)) (section_in c.args.kept.now) (value_at (net_in (arrays_of c.args.z c.args.net.now c.args.tables.now)) (section_in c.args.kept.now) (pairs_in c.args.pairs.now)) loop.t) (put_then i.1 told.line)),
    )

pub returns : goal.returns
returns c =
    let all : c.loop-t.t ≡ steps_shown c.args.pairs.now = omega (arith, c.steps_shown-n.ensures) in
    put-wrote (omega (arith, c.requires.room, c.steps_shown-n.ensures))
    (put_same (ap (bench_lines (net_in (arrays_of c.args.z c.args.net.now c.args.tables.now)) (section_in c.args.kept.now) (value_at (net_in (arrays_of c.args.z c.args.net.now c.args.tables.now)) (section_in c.args.kept.now) (pairs_in c.args.pairs.now))) all ∙ text-is (net_in (arrays_of c.args.z c.args.net.now c.args.tables.now)) c.args.kept.now c.args.pairs.now) c.loop-t.invariant.1)
