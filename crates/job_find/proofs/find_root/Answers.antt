use mathlib.Core.Path.{sym, subst}
use Rattle.limits.specs.Courses.{Offered, is-long}
use Rattle.job_find.proofs.find_root.Goals as goal

pub look_under-requires : goal.look_under-requires
look_under-requires c = subst Offered (sym c.long_course.ensures) is-long
