use mathlib.Core.Path.{refl, sym, ap, subst, ◌∙◌}
use mathlib.Core.List.{[]}
use Rattle.limits.specs.Courses.{Offered, is-short}
use Rattle.limits.specs.declared.Rules.{Rules}
use Rattle.cover_records.specs.Outcomes.{map_outcome}
use Rattle.job_map.specs.MapSizing.{map-alone}
use Rattle.job_map.proofs.short_map.Goals as goal

pub map_under-requires : goal.map_under-requires
map_under-requires c = (subst Offered (sym c.short_course.ensures) is-short, λ n. absurd (n refl))

pub returns : goal.returns
returns c = let a = c.args in
    let m = c.map_under.ensures in
    record {
      outcome = ap (λ (R : Rules). map_outcome R a.net.now a.k a.target a.area.now a.scratch.now) (sym c.short_course.ensures)
          ∙ map-alone _ a.net.now a.k a.target [] a.area.now a.scratch.now [] [] refl m.outcome refl;
      small = m.small;
    }
