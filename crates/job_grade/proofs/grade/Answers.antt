use mathlib.Core.Path.{◌≡◌, refl, ◌∙◌}
use Rattle.text_digits.specs.PutLaws.{wrote_as}
use Rattle.sequences.specs.Behind.{behind}
use Rattle.job_grade.specs.GraderInputs.{graded_parts}
use Rattle.std.proofs.Common.{rules}
use Rattle.job_grade.proofs.grade.Goals as goal

pub returns : goal.returns
returns c =
    let l = c.args.input.now in
    let end = c.place_behind-end in
    wrote_as
    (graded_parts l _ _ _ _ _ _ c.byte_at-k.ensures.value
    c.net_length-n.ensures c.place_behind-at.ensures end.ensures refl
    (behind l end.result)) c.grade_parts.ensures
