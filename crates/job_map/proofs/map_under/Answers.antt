use mathlib.Core.Path.{sym, ◌∙◌}
use native.Mathlib.Omega.{arith}
use lib.ListN.{length, drop, length-append}
use lib.Seq.{length-take-le}
use Rattle.limits.specs.Limits.{contents_area, loader_area}
use Rattle.label_aim.specs.Aims.{mode_of}
use Rattle.job_sizes.specs.SizeLaws.{fit, told-fits}
use Rattle.job_map.specs.MapSizing.{map-sizes, map-contents, map-short, map-rest}
use Rattle.std.proofs.lemmas.Result.{err_from_is_err_and}
use Rattle.refusals.specs.Refusals.{number_of}
use Rattle.refusals.specs.RefusalLaws.{number_positive, number_small}
use Rattle.job_map.proofs.map_under.Goals as goal

pub returns-in_err-check_sizes : goal.returns-in_err-check_sizes
returns-in_err-check_sizes c = let a = c.args in
    let r = c.in_err-check_sizes.field-0.0 in
    let p = err_from_is_err_and c.from_residual.result c.from_residual.ensures.1 in
    rw (p.1, p.2) (record { outcome = map-sizes (mode_of a.forward) a.rules a.k a.target a.pairs.now a.area.now a.scratch.now a.loader.now a.contents.now a.net.now (number_of r) c.in_err-check_sizes.ensures (number_positive r); small = let h = number_small r in omega arith })

pub returns-in_err-check_lent : goal.returns-in_err-check_lent
returns-in_err-check_lent c = let a = c.args in
    let r = c.in_err-check_lent.field-0.0 in
    let p = err_from_is_err_and c.from_residual-in_err-check_lent.result c.from_residual-in_err-check_lent.ensures.1 in
    rw (p.1, p.2) (record { outcome = map-contents (mode_of a.forward) a.rules a.k a.target a.pairs.now a.area.now a.scratch.now a.loader.now a.contents.now a.net.now (sym c.in_ok-check_sizes.ensures) (number_of r) (c.in_err-check_lent.ensures number_of) (number_positive r); small = let h = number_small r in omega arith })

pub clear_first-requires : goal.clear_first-requires
clear_first-requires c =
    let a = c.args in
    let z = sym c.in_ok-check_sizes.ensures in
    let f = fit a.rules a.k a.target (length a.area.now) (length a.scratch.now) z in
    f.space

pub returns-in-Err : goal.returns-in-Err
returns-in-Err c = let a = c.args in
    let r = c.in-Err.refusal in
    record { outcome = map-short (mode_of a.forward) a.rules a.k a.target a.pairs.now a.area.now a.scratch.now a.loader.now a.contents.now a.net.now (sym c.in_ok-check_sizes.ensures) (sym (c.in_ok-check_lent.ensures number_of)) (number_of r) _ (c.in-Err.ensures number_of) (number_positive r) c.clear_first.ensures; small = let h = number_small r in omega arith }

pub slice_bounds-map_bytes-end : goal.slice_bounds-map_bytes-end
slice_bounds-map_bytes-end c =
    let a = c.args in
    let z = sym c.in_ok-check_sizes.ensures in
    let f = fit a.rules a.k a.target (length a.area.now) (length a.scratch.now) z in
    f.space

pub slice_bounds-map_bytes-end-2 : goal.slice_bounds-map_bytes-end-2
slice_bounds-map_bytes-end-2 c =
    let a = c.args in
    let z = sym c.in_ok-check_sizes.ensures in
    let f = fit a.rules a.k a.target (length a.area.now) (length a.scratch.now) z in
    sym (length-take-le a.rules.scratch a.scratch.now f.space)

pub map_bytes-answer-requires : goal.map_bytes-answer-requires
map_bytes-answer-requires c = let a = c.args in
    let z = sym c.in_ok-check_sizes.ensures in
    let f = fit a.rules a.k a.target (length a.area.now) (length a.scratch.now) z in
    let e = length-take-le a.rules.scratch a.scratch.now f.space in
    let y = sym (c.in_ok-check_lent.ensures number_of) in
    let x = sym (c.in_default.ensures number_of) in
    record {
      offered = c.requires.0;
      fit = (
        record { low = f.low; high = f.high; near = f.near; room = f.room; space = omega arith },
        (told-fits loader_area 20 (length a.loader.now) (omega arith) x).1,
        (told-fits contents_area 3 (length a.contents.now) (omega arith) y).1,
        c.requires.1,
      );
    }

pub clear_first-requires-2 : goal.clear_first-requires-2
clear_first-requires-2 c =
    let a = c.args in
    let z = sym c.in_ok-check_sizes.ensures in
    let f = fit a.rules a.k a.target (length a.area.now) (length a.scratch.now) z in
    let map-bytes = c.map_bytes-answer in
    let e = map-bytes.auto.work ∙ length-take-le a.rules.scratch a.scratch.now f.space in
    let b = length-append map-bytes.new.work (drop a.rules.scratch a.scratch.now) in
    omega arith

pub returns : goal.returns
returns c = let a = c.args in
    let z = sym c.in_ok-check_sizes.ensures in
    let f = fit a.rules a.k a.target (length a.area.now) (length a.scratch.now) z in
    let map-bytes = c.map_bytes-answer in
    let y = sym (c.in_ok-check_lent.ensures number_of) in
    let x = sym (c.in_default.ensures number_of) in
    let e = map-bytes.auto.work ∙ length-take-le a.rules.scratch a.scratch.now f.space in
    record { outcome = map-rest (mode_of a.forward) a.rules a.k a.target a.pairs.now a.area.now a.scratch.now a.loader.now a.contents.now a.net.now z y _ _ _ map-bytes.new.work _ _ x map-bytes.ensures e c.clear_first-2.ensures; small = map-bytes.ensures.small }
