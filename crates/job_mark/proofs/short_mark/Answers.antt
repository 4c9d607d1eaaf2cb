use mathlib.Core.Path.{sym, subst}
use Rattle.limits.specs.Courses.{Offered, is-short}
use Rattle.job_mark.proofs.short_mark.Goals as goal

pub mark_under-requires : goal.mark_under-requires
mark_under-requires c = subst Offered (sym c.short_course.ensures) is-short
