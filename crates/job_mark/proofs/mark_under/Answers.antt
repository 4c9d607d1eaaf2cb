use mathlib.Core.Path.{sym, ◌∙◌}
use native.Mathlib.Omega.{arith}
use lib.ListN.{length, drop, length-append}
use lib.Seq.{length-take-le}
use Rattle.job_sizes.specs.SizeLaws.{fit}
use Rattle.job_mark.specs.MarkSizing.{mark-sizes, mark-rest}
use Rattle.std.proofs.lemmas.Result.{err_from_is_err_and}
use Rattle.refusals.specs.Refusals.{number_of}
use Rattle.refusals.specs.RefusalLaws.{number_positive, number_small}
use Rattle.job_mark.proofs.mark_under.Goals as goal

pub returns-in_err-check_sizes : goal.returns-in_err-check_sizes
returns-in_err-check_sizes c = let a = c.args in
    let r = c.in_err-check_sizes.field-0.0 in
    let p = err_from_is_err_and c.from_residual.result c.from_residual.ensures.1 in
    rw (p.1, p.2) (record {
      outcome = mark-sizes a.rules a.k a.scratch.now a.net.now a.cover.now (number_of r) c.in_err-check_sizes.ensures (number_positive r);
      small = let h = number_small r in omega arith;
    })

pub slice_bounds-mark_bytes-end : goal.slice_bounds-mark_bytes-end
slice_bounds-mark_bytes-end c =
    let a = c.args in
    let f = fit a.rules a.k 0 a.rules.area (length a.scratch.now) (sym c.in_ok-check_sizes.ensures) in f.space

pub slice_bounds-mark_bytes-end-2 : goal.slice_bounds-mark_bytes-end-2
slice_bounds-mark_bytes-end-2 c =
    let a = c.args in
    let f = fit a.rules a.k 0 a.rules.area (length a.scratch.now) (sym c.in_ok-check_sizes.ensures) in sym
    (length-take-le a.rules.scratch a.scratch.now f.space)

pub mark_bytes-answer-requires : goal.mark_bytes-answer-requires
mark_bytes-answer-requires c =
    let a = c.args in
    let f = fit a.rules a.k 0 a.rules.area (length a.scratch.now) (sym c.in_ok-check_sizes.ensures) in
    let e = length-take-le a.rules.scratch a.scratch.now f.space in
    record { offered = c.requires; fit = record { low = f.low; high = f.high; near = f.near; room = f.room; space = omega arith } }

pub clear_first-requires : goal.clear_first-requires
clear_first-requires c =
    let mark-bytes = c.mark_bytes-answer in
    let a = c.args in
    let f = fit a.rules a.k 0 a.rules.area (length a.scratch.now)
    (sym c.in_ok-check_sizes.ensures) in
    let e = mark-bytes.auto.work ∙ length-take-le a.rules.scratch a.scratch.now f.space in
    let b = length-append mark-bytes.new.work (drop a.rules.scratch a.scratch.now) in
    omega arith

pub returns : goal.returns
returns c = let mark-bytes = c.mark_bytes-answer in
    let a = c.args in
    let f = fit a.rules a.k 0 a.rules.area (length a.scratch.now) (sym c.in_ok-check_sizes.ensures) in
    let e = mark-bytes.auto.work ∙ length-take-le a.rules.scratch a.scratch.now f.space in
    record {
      outcome = mark-rest a.rules a.k a.scratch.now a.net.now a.cover.now mark-bytes.new.work _ _
          (sym c.in_ok-check_sizes.ensures) mark-bytes.ensures e c.clear_first.ensures;
      small = mark-bytes.ensures.small;
    }
