use mathlib.Core.Path.{◌∙◌}
use Rattle.sequences.specs.Behind.{behind}
use Rattle.text_digits.specs.PutLaws.{wrote_as}
use Rattle.job_list.specs.ListerInputs.{listed-parts}
use Rattle.std.proofs.Common.{rules}
use Rattle.job_list.proofs.list.Goals as goal

pub returns : goal.returns
returns c =
    let l = c.args.input.now in
    let place = c.net_place-at in
    wrote_as (listed-parts l _ _ _ c.byte_at-k.ensures.value c.byte_at-target.ensures.value
    (behind l place.result ∙ place.ensures.1)) c.list_parts.ensures
