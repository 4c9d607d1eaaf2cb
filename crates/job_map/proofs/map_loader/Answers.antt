use mathlib.Core.Path.{refl, sym, ap, subst, ◌∙◌}
use mathlib.Core.List.{[]}
use Rattle.limits.specs.Courses.{Offered, is-long}
use Rattle.limits.specs.declared.Rules.{Rules}
use Rattle.cover_records.specs.LoaderOutcome.{loader_outcome}
use Rattle.job_map.specs.MapSizing.{map-loaded}
use Rattle.job_map.proofs.map_loader.Goals as goal

pub map_under-requires : goal.map_under-requires
map_under-requires c = (subst Offered (sym c.long_course.ensures) is-long, λ n. absurd (n refl))

pub returns : goal.returns
returns c = let a = c.args in
    let m = c.map_under.ensures in
    record {
      outcome = ap (λ (R : Rules). loader_outcome R a.net.now a.k a.target a.area.now a.scratch.now a.loader.now) (sym c.long_course.ensures)
          ∙ map-loaded _ a.net.now a.k a.target [] a.area.now a.scratch.now a.loader.now [] refl m.outcome;
      small = m.small;
    }
