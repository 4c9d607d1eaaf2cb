use native.Mathlib.Omega.{arith}
use Rattle.job_judge.specs.MarkOutcomeLaws.{cut_as, linked_as, judged-cuts, judged_links, judged-right, no_less}
use mathlib.Core.Path.{refl}
use Rattle.std.proofs.lemmas.Result.{err_from_is_err_and}
use Rattle.refusals.specs.RefusalLaws.{number_positive}
use Rattle.job_judge.proofs.judge_read.Goals as goal

pub returns-in_err-check_luts : goal.returns-in_err-check_luts
returns-in_err-check_luts c =
    let j = c.requires.judging.0 in
    let a = c.args in
    let x = a.c in
    let rows = a.rows.now in
    let lags = a.lags.now in
    let luts = a.luts.now in
    let l = c.in_err-check_luts in
    let p = err_from_is_err_and c.from_residual.result c.from_residual.ensures.1 in
    rw (p.1, p.2) (record { marks_read = judged-cuts j x rows lags luts (cut_as j x rows lags luts l.ensures.cuts_told) (number_positive l.field-0.0) refl; clear = l.ensures.clear })

pub returns-in_err-judge_links : goal.returns-in_err-judge_links
returns-in_err-judge_links c =
    let j = c.requires.judging.0 in
    let a = c.args in
    let x = a.c in
    let rows = a.rows.now in
    let lags = a.lags.now in
    let luts = a.luts.now in
    let l = c.in_ok-check_luts in
    let q = c.in_err-judge_links in
    let p = err_from_is_err_and c.from_residual-in_err-judge_links.result c.from_residual-in_err-judge_links.ensures.1 in
    rw (p.1, p.2) (record {
      marks_read = judged_links j x rows lags luts (cut_as j x rows lags luts l.ensures.cuts_told) (omega arith) (linked_as j x rows lags luts q.ensures) (number_positive q.field-0.0) refl;
      clear = l.ensures.clear;
    })

pub overflow_sub-result : goal.overflow_sub-result
overflow_sub-result c =
    let j = c.requires.judging.0 in
    let a = c.args in
    let x = a.c in
    let rows = a.rows.now in
    let lags = a.lags.now in
    let luts = a.luts.now in
    no_less j x rows lags luts (cut_as j x rows lags luts c.in_ok-check_luts.ensures.cuts_told) (omega arith) (linked_as j x rows lags luts c.in_ok-judge_links.ensures) (omega arith) c.requires.judging.1.low

pub returns : goal.returns
returns c =
    let j = c.requires.judging.0 in
    let a = c.args in
    let x = a.c in
    let rows = a.rows.now in
    let lags = a.lags.now in
    let luts = a.luts.now in
    let l = c.in_ok-check_luts in
    record {
      marks_read = judged-right j x rows lags luts (cut_as j x rows lags luts l.ensures.cuts_told) (omega arith) (linked_as j x rows lags luts c.in_ok-judge_links.ensures) (omega arith) c.requires.judging.1.high;
      clear = l.ensures.clear;
    }
