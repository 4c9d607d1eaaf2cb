-- Laws of counters set to 0 one after the other: none, one more, and all of them.
use Rattle.std.specs.Prelude.{◌≡◌, List, ℕ, ◌+◌, ◌≤◌, ◌<◌, length, get_or, set}
use Rattle.std.proofs.Common.{ap, ◌∙◌, not-suc-le-zero, arith, get_or-set_same, get_or-set_other}
use Rattle.std.proofs.Math.Decide.{ℕ_discrete}
use Rattle.cut_search.specs.SearchParts.{Zeroed}

-- counters set to 0
pub zeroed-none : (cnt : List ℕ) → Zeroed cnt 0
zeroed-none cnt v h = absurd (not-suc-le-zero h)

pub zeroed-more : (cnt : List ℕ) (u : ℕ) → u < length cnt → Zeroed cnt u → Zeroed (set cnt u 0) (u + 1)
zeroed-more cnt u h z v k = go (ℕ_discrete v u)
  where
    go : Dec (v ≡ u) → get_or (set cnt u 0) v 0 ≡ 0
    go (yes e) = ap (λ (q : ℕ). get_or (set cnt u 0) q 0) e ∙ get_or-set_same cnt u 0 0 h
    go (no n) = get_or-set_other cnt u v 0 0 n ∙ z v (omega (arith, k, n))

pub zeroed-all : (cnt : List ℕ) (u : ℕ) → length cnt ≤ u → Zeroed cnt u → Zeroed cnt (length cnt)
zeroed-all cnt u h z v k = z v (omega (arith, k, h))
