use mathlib.Core.Path.{◌∙◌}
use native.Mathlib.Omega.{arith}
use Rattle.net_loops.specs.PlacingLaws.{place-zeros, place-all}
use Rattle.net_loops.proofs.check_loops.Goals as goal

pub place_all-requires : goal.place_all-requires
place_all-requires c =
    let start = c in
    let z = c.zero.ensures in
    let l = c.requires.1 in
    (c.requires.0, place-zeros _ _ (z.0 ∙ l) c.requires.2 (λ g h. z.1 g (omega arith)))

pub returns : goal.returns
returns c =
    let a = c.place_all.ensures in place-all
    c.requires.0 a.placing
    a.stuck c.all_marked.ensures
