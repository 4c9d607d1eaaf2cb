use mathlib.Core.Path.{sym, subst}
use Rattle.limits.specs.Courses.{Offered, is-long}
use Rattle.job_mark.proofs.mark.Goals as goal

pub mark_under-requires : goal.mark_under-requires
mark_under-requires c = subst Offered (sym c.long_course.ensures) is-long
