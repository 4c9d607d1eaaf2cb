use mathlib.Core.Path.{refl, ◌∙◌}
use native.Mathlib.Omega.{arith}
use Rattle.job_settle.specs.SettlingLaws.{cover-settled}
use Rattle.job_plan.specs.Ready.{zero_room}
use Rattle.job_record.specs.MapOutcomeLaws.{net-refused_as, net-covered}
use Rattle.job_record.specs.Recording.{rows_long, cover-small, cover-writable}
use Rattle.job_record.specs.FillingLaws.{cover_filling, filled_is}
use Rattle.std.proofs.lemmas.Result.{err_from_is_err_and}
use Rattle.refusals.specs.RefusalLaws.{number_positive}
use Rattle.job_record.proofs.map_read.Goals as goal

pub settle-requires : goal.settle-requires
settle-requires c =
    let f = c.requires.settling.facts in
    record { settling = c.requires.settling; gates_in_bounds = (omega (arith, f.gates-high), omega (arith, f.gates-high)); most_table_in_bounds = (omega (arith, c.requires.space), omega (arith, f.gates-high, f.inputs-high), zero_room c.args.z.gates f.gates-high) }

pub returns-in_err-period : goal.returns-in_err-period
returns-in_err-period c =
    let p = err_from_is_err_and c.from_residual.result c.from_residual.ensures.1 in
    rw (p.1, p.2) (net-refused_as _ _ _ _ _ c.in_err-period.ensures.settled_as (number_positive c.in_err-period.field-0.0) refl)

pub write_cover-n-requires : goal.write_cover-n-requires
write_cover-n-requires c = let settle = c.in_ok-period in
    let k = c.settle.auto in
    let h = c.requires.settling.facts.gates-high in
    let u = cover-settled settle.ensures.settled_as in
    record { writable = cover-writable c.requires.settling refl refl (rows_long h k.labels k.rows k.luts) u.passed u.cover _ c.requires.room; gates_in_bounds = omega (arith, h, k.rows) }

pub fill_contents-requires : goal.fill_contents-requires
fill_contents-requires c =
    let settle = c.in_ok-period in
    let k = c.settle.auto in
    let f = c.requires.settling.facts in
    let u = cover-settled settle.ensures.settled_as in
    cover_filling c.requires settle.ensures.settled_net (omega arith) u (rows_long f.gates-high k.labels k.rows k.luts) (omega (arith, c.settle.auto.work, c.requires.space)) (omega (arith, c.settle.auto.noted, f.gates-high))

pub returns : goal.returns
returns c =
    let write-cover = c.write_cover-n in
    let settle = c.in_ok-period in
    let k = c.settle.auto in
    let u = cover-settled settle.ensures.settled_as in
    let l = rows_long c.requires.settling.facts.gates-high k.labels k.rows k.luts in
    net-covered _ _ _ _ _ u (cover-small c.requires.settling refl refl l u.passed u.cover) write-cover.ensures.length write-cover.ensures.bytes
    (c.write_image.ensures.image _ (record { gates_are = refl; marks_are = refl; luts_are = refl }) u.cover.whole)
    (c.fill_contents.ensures ∙ filled_is c.requires settle.ensures.settled_net (omega arith) u l c.args.pairs.now)
