use Rattle.std.proofs.Common.{refl, ◌∙◌}
use Rattle.sequences.specs.Behind.{behind}
use Rattle.text_digits.specs.PutLaws.{wrote_as}
use Rattle.job_bench.specs.BenchInputs.{program_parts}
use Rattle.job_bench.proofs.bench.Goals as goal

pub returns-in-Ok : goal.returns-in-Ok
returns-in-Ok c =
    let l = c.args.input.now in
    let end = c.place_behind-end in
    wrote_as (program_parts l _ _ _ _ _ _ c.byte_at-k.ensures.value c.net_length-n.ensures c.place_behind-at.ensures end.ensures refl (behind l end.result)) c.in-Ok.ensures

pub returns-in-Err : goal.returns-in-Err
returns-in-Err c =
    let l = c.args.input.now in
    let end = c.place_behind-end in
    let e = program_parts l _ _ _ _ _ _ c.byte_at-k.ensures.value c.net_length-n.ensures c.place_behind-at.ensures end.ensures refl (behind l end.result) in
    let w = rw (c.from-in-Err.ensures, c.from.ensures, c.in-Err.ensures.1) at c.write_refusal.ensures in
    wrote_as (e ∙ c.in-Err.ensures.0) w
