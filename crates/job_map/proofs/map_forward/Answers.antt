use mathlib.Core.Path.{refl, sym, ap, subst, ◌∙◌}
use Rattle.limits.specs.Courses.{Offered, is-long}
use Rattle.limits.specs.declared.Rules.{Rules}
use Rattle.run_theory.specs.Bench.{ago}
use Rattle.cover_records.specs.ForwardOutcome.{forward_outcome}
use Rattle.job_map.proofs.map_forward.Goals as goal

pub map_under-requires : goal.map_under-requires
map_under-requires c = (subst Offered (sym c.long_course.ensures) is-long, λ n. refl)

pub returns : goal.returns
unfolding forward_outcome ago
returns c = let a = c.args in
    let m = c.map_under.ensures in
    record { outcome = ap (λ (R : Rules). forward_outcome R a.net.now a.k a.target a.area.now a.scratch.now a.loader.now a.contents.now) (sym c.long_course.ensures) ∙ m.outcome; small = m.small }
