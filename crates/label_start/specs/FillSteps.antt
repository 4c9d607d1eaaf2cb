-- Laws of labels written one after the other: none, one more, and all of them.
use Rattle.std.specs.Prelude.{◌≡◌, refl, List, ℕ, ◌+◌, ◌≤◌, ◌<◌, ℤ, pos, length, set}
use Rattle.std.proofs.Common.{◌∙◌, subst, arith, length-set, get_or-set_same, get_or-set_other}
use Rattle.std.proofs.Math.Decide.{ℕ_discrete}
use Rattle.signed.specs.Range.{label_in}
use Rattle.label_start.specs.Starts.{Filled}

pub filled_none : (ls : List ℤ) (from : ℕ) (z : ℤ) → Filled ls ls from from z
filled_none ls from z = record { size = refl; between = λ u h l. absurd (omega (arith, h, l)); before = λ u h. refl; behind = λ u h. refl }

pub filled_next : {ls ls' : List ℤ} {from i : ℕ} {z y : ℤ} → y ≡ z → from ≤ i → i < length ls → Filled ls ls' from i z → Filled ls (set ls' i y) from (i + 1) z
filled_next {ls} {ls'} {from} {i} {z} {y} e h l f = record {
  size = length-set ls' i y ∙ f.size;
  between = λ u a b. go u a b (ℕ_discrete u i);
  before = λ u a. get_or-set_other ls' i u y (pos 0) (λ q. omega (arith, q, a, h)) ∙ f.before u a;
  behind = λ u a. get_or-set_other ls' i u y (pos 0) (λ q. omega (arith, q, a)) ∙ f.behind u (omega arith);
}
  where
    go : (u : ℕ) → from ≤ u → u < i + 1 → Dec (u ≡ i) → label_in (set ls' i y) u ≡ z
    go u a b (yes q) = rw q (get_or-set_same ls' i y (pos 0) (let s = f.size in omega arith) ∙ e)
    go u a b (no q) = get_or-set_other ls' i u y (pos 0) q ∙ f.between u a (omega arith)

pub filled_at : {ls ls' : List ℤ} {from i j : ℕ} {z : ℤ} → i ≡ j → Filled ls ls' from i z → Filled ls ls' from j z
filled_at {ls} {ls'} {from} {z = z} e f = subst (λ (x : ℕ). Filled ls ls' from x z) e f

pub filled_of : {ls ls' : List ℤ} {from to : ℕ} {y z : ℤ} → y ≡ z → Filled ls ls' from to y → Filled ls ls' from to z
filled_of {ls} {ls'} {from} {to} e f = subst (Filled ls ls' from to) e f
