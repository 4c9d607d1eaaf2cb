use mathlib.Core.Path.{refl, sym, ap, subst, ◌∙◌}
use Prim.Native.Nat.{◌<◌}
use native.Mathlib.Omega.{arith}
use lib.ListN.{length}
use Rattle.limits.specs.Courses.{long, Offered, is-long}
use Rattle.limits.specs.declared.Rules.{Rules}
use Rattle.label_theory.specs.Labels.{forward}
use Rattle.cover_records.specs.ChangeLaws.{change-lent}
use Rattle.job_sizes.specs.Sizes.{sizes_of}
use Rattle.job_map.specs.Areas.{areas_outcome}
use Rattle.job_map.specs.MapSizing.{unlent-early, unlent-three}
use Rattle.std.proofs.lemmas.Result.{err_from_is_err_and}
use Rattle.refusals.specs.Refusals.{number_of}
use Rattle.refusals.specs.RefusalLaws.{number_positive, number_small}
use Rattle.job_map.proofs.change_over.Goals as goal

pub returns-in_err-check_sizes : goal.returns-in_err-check_sizes
returns-in_err-check_sizes c = let a = c.args in
    let r = c.in_err-check_sizes.field-0.0 in
    let e = c.in_err-check_sizes.ensures ∙ ap (λ (R : Rules). sizes_of R a.k a.target (length a.area.now) (length a.scratch.now)) c.long_course.ensures in
    let p = err_from_is_err_and c.from_residual.result c.from_residual.ensures.1 in
    rw (p.1, p.2) (record { outcome = unlent-early long a.net.now a.k a.target a.pairs.now a.area.now a.scratch.now a.loader.now a.contents.now c.if-contents-eq0.true (number_of r) e (number_positive r); small = let h = number_small r in omega arith })

pub returns-then-contents-eq0 : goal.returns-then-contents-eq0
returns-then-contents-eq0 c = let a = c.args in
    let e = c.in_ok-check_sizes.ensures ∙ ap (λ (R : Rules). sizes_of R a.k a.target (length a.area.now) (length a.scratch.now)) c.long_course.ensures in
    record { outcome = unlent-three long a.net.now a.k a.target a.pairs.now a.area.now a.scratch.now a.loader.now a.contents.now c.if-contents-eq0.true 0 e refl; small = omega arith }

pub map_under-requires : goal.map_under-requires
map_under-requires c = (subst Offered (sym c.long_course-2.ensures) is-long, λ n. refl)

pub returns : goal.returns
returns c = let a = c.args in
    let m = c.map_under.ensures in
    let h : 0 < length a.contents.now = omega (arith, c.if-contents-eq0.false) in
    record {
      outcome = change-lent long a.net.now a.k a.target a.pairs.now a.area.now a.scratch.now a.loader.now a.contents.now h
          ∙ ap (λ (R : Rules). areas_outcome forward R a.net.now a.k a.target a.pairs.now a.area.now a.scratch.now a.loader.now a.contents.now) (sym c.long_course-2.ensures) ∙ m.outcome;
      small = m.small;
    }
