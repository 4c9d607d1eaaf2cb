use Rattle.std.specs.Prelude.{replicate}
use Rattle.std.proofs.Common.{arith, refl, sym, ℕ, ◌++◌, drop, length-append}
use Rattle.std.proofs.lemmas.Result.{err_from_is_err_and}
use lib.Seq.{length-take-le}
use Rattle.limits.specs.Limits.{most_gates}
use Rattle.refusals.specs.RefusalLaws.{number_positive}
use Rattle.text_digits.specs.PutLaws.{wrote_as}
use Rattle.job_bench.specs.BenchJobLaws.{text-refused, text-none, text-run, run-asks}
use Rattle.job_bench.proofs.bench_read.Goals as goal

pub returns-in_err-check_graph : goal.returns-in_err-check_graph
returns-in_err-check_graph c =
    let p = err_from_is_err_and c.from_residual.result c.from_residual.ensures.1 in
    rw (p.1, p.2) (sym (text-refused c.requires c.in_err-check_graph.ensures c.args.pairs.now (number_positive _)), refl)

pub returns-then-section-eq0 : goal.returns-then-section-eq0
returns-then-section-eq0 c = (sym (text-none c.requires c.in_ok-check_graph.ensures c.args.pairs.now refl c.if-section-eq0.true), refl)

pub write_bench-requires : goal.write_bench-requires
write_bench-requires c =
    let noted = c.check_graph.new.noted in
    let zeros = replicate {A = ℕ} most_gates 0 in
    let rest = drop c.args.z.gates zeros in
    let lent = length-take-le c.args.z.gates zeros (omega (arith, c.requires.facts.gates-high)) in
    run-asks c.requires c.in_ok-check_graph.ensures c.args.pairs.now refl c.if-section-eq0.false (length-take-le c.args.z.gates (noted ++ rest) (omega (arith, c.check_graph.auto.noted, lent, length-append noted rest)))

pub returns : goal.returns
returns c = wrote_as (sym (text-run c.requires c.in_ok-check_graph.ensures c.args.pairs.now refl c.if-section-eq0.false)) c.write_bench.ensures
