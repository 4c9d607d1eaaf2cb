use mathlib.Core.Path.{◌∙◌}
use native.Mathlib.Omega.{arith}
use Rattle.net_leading.specs.HeadingLaws.{heading-zeros, heads-all}
use Rattle.net_leading.proofs.check_leading.Goals as goal

pub push_outputs-requires : goal.push_outputs-requires
push_outputs-requires c =
    let start = c in
    let z = c.zero.ensures in
    let l = c.requires.2 in
    (c.requires.0, c.requires.1, heading-zeros _ (z.0 ∙ l) (λ g h. z.1 g (omega arith)))

pub returns : goal.returns
returns c =
    let a = c.head_all.ensures in heads-all a.heading
    (λ i h. a.kept _ _ (c.push_outputs.ensures.low i h)) a.pushed c.all_marked.ensures
