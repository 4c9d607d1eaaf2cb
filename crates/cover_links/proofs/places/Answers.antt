use Rattle.std.proofs.Common.{◌≡◌, ℕ, ◌+◌, ◌-◌, refl, subst, ◌∙◌, arith, get_or, length-set}
use Rattle.limits.specs.Limits.{most_nodes}
use Rattle.cover_links.specs.LinkPlaceLaws.{Filled, filled_none, filled_next}
use Rattle.cover_links.proofs.places.Goals as goal

pub loop-i-init : goal.loop-i-init
loop-i-init c = let a = c.args in (refl, filled_none a.roots.now a.n most_nodes)

pub loop-i-preserved : goal.loop-i-preserved
loop-i-preserved c =
    let a = c.args in
    let loop = c.loop-i in
    let x = get_or a.roots.now (loop.i - 1) 0 in
    let one : loop.i ≡ loop.i - 1 + 1 = omega arith in (
      length-set loop.spots x (loop.i - 1) ∙ loop.invariant.0,
      filled_next a.roots.now a.n (loop.i - 1) loop.spots (omega arith) (subst (λ (k : ℕ). Filled a.roots.now a.n k loop.spots) one loop.invariant.1),
    )
