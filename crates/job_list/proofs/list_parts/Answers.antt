use mathlib.Core.Path.{sym, ◌∙◌}
use native.Mathlib.Omega.{arith}
use Rattle.limits.specs.Limits.{cover_area, scratch_area}
use Rattle.limits.specs.Courses.{long}
use Rattle.job_sizes.specs.SizeLaws.{fit, list-refused, list-passed}
use Rattle.text_digits.specs.PutLaws.{wrote_as}
use Rattle.refusals.specs.RefusalLaws.{number_positive}
use Rattle.job_list.proofs.list_parts.Goals as goal

pub list_net-requires : goal.list_net-requires
list_net-requires c =
    let a = c.args in
    let sizes = rw c.long_course.ensures at c.in-Ok.ensures in
    (fit long a.k a.target cover_area scratch_area (sym sizes), c.requires)

pub returns-in-Ok : goal.returns-in-Ok
returns-in-Ok c =
    let a = c.args in
    let sizes = rw c.long_course.ensures at c.in-Ok.ensures in
    wrote_as (list-passed a.k a.target a.net.now 0 sizes (omega arith)) c.list_net.ensures

pub returns-in-Err : goal.returns-in-Err
returns-in-Err c =
    let a = c.args in
    let sizes = rw c.long_course.ensures at c.in-Err.ensures in
    let d = c.from-in-Err.ensures ∙ c.from.ensures in
    wrote_as (list-refused a.k a.target a.net.now c.from-in-Err.result (d ∙ sizes) (let h = number_positive c.in-Err.refusal in omega (arith, d))) c.write_refusal.ensures
