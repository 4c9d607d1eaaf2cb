use Rattle.std.proofs.Common.{◌∙◌, drop}
use Rattle.std.proofs.lemmas.Result.{err_from_is_err_and}
use Rattle.cover_records.specs.CoverStages.{front}
use Rattle.job_find.specs.LookSteps.{front-stopped, front_looked}
use Rattle.job_find.proofs.look_under.Goals as goal

pub returns-in_err-front : goal.returns-in_err-front
returns-in_err-front c =
    let a = c.args in
    let p = err_from_is_err_and c.from_residual.result c.from_residual.ensures.1 in
    rw p.1 (front-stopped a.rules a.g a.bytes.now c.in_err-front.ensures)

pub returns : goal.returns
returns c =
    let a = c.args in
    let s = a.bytes.now in
    let f = c.in_ok-front in
    let v = f.front.value in
    c.look_luts.ensures ∙ front_looked a.rules a.g s (front v.period v.luts) (drop f.front.at s) f.ensures
