use mathlib.Core.Path.{◌≡◌, refl, sym, ap, ◌∙◌}
use Rattle.cover_records.specs.Outcomes.{turned_back}
use Rattle.job_judge.specs.MarkAnswers.{answer_of}
use Rattle.text_digits.specs.PutLaws.{wrote_as}
use Rattle.job_grade.specs.GraderInputs.{marking-excess, marking-refused}
use Rattle.job_grade.proofs.grade_parts.Goals as goal

pub returns-in-Ok : goal.returns-in-Ok
returns-in-Ok c = let a = c.args in wrote_as (marking-excess a.net.now a.cover.now a.k c.in-Ok.ensures.outcome refl) c.write_excess.ensures

pub returns-in-Err : goal.returns-in-Err
returns-in-Err c =
    let a = c.args in
    wrote_as (marking-refused a.net.now a.cover.now a.k c.in-Err.ensures.outcome (ap turned_back (sym (c.from-in-Err.ensures ∙ c.from.ensures)))) c.write_refusal.ensures
