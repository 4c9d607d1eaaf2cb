-- Laws of specs/Lag.
use Rattle.std.specs.Prelude.{◌≡◌, refl, ℕ, suc, ◌+◌, ◌*◌, ◌-◌, ◌/◌, ◌≤◌, ◌<◌, ℤ, pos, negsuc, neg_ℤ, ◌+ℤ◌, ◌-ℤ◌, ◌*ℤ◌, ◌≤ℤ◌, ◌<ℤ◌}
use Rattle.std.proofs.Math.Nat.{div-add-mod, lt_of_mul-lt-mul_left}
use Rattle.std.proofs.Common.{mod-lt, arith}
use Rattle.std.specs.Int.Signed.{≤ℤ_refl}
use Rattle.integers.specs.Parts.{up, dn, ints, +-parts, sub_parts, neg_parts, *-parts, scale, pos-up}
use Rattle.integers.specs.Order.{≤ℤ_antisym}
use Rattle.integers.specs.Lag.{Lag, ceil_div, lag, place}

-- the labels −2, 0, 2, 3
pub lag_examples : (lag 2 (negsuc 1) ≡ negsuc 1) × (lag 2 (pos 0) ≡ negsuc 0) × (lag 2 (pos 2) ≡ pos 0) × (lag 2 (pos 3) ≡ pos 1)
unfolding lag ceil_div
lag_examples = (refl, refl, refl, refl)

pub place_examples : (place 2 (negsuc 1) ≡ 2) × (place 2 (pos 0) ≡ 2) × (place 2 (pos 3) ≡ 1)
unfolding place lag ceil_div
place_examples = (refl, refl, refl)

pub lag-is : (φ : ℕ) → 1 ≤ φ → (z : ℤ) → Lag φ z (lag φ z)
unfolding lag ceil_div
lag-is φ f (pos n) =
    let q = (n + (φ - 1)) / φ in
    omega (arith, ints, div-add-mod (n + (φ - 1)) φ, mod-lt (n + (φ - 1)) f, *-parts φ (pos q -ℤ pos 1), +-parts (pos φ *ℤ (pos q -ℤ pos 1)) (pos φ), scale φ (sub_parts (pos q) (pos 1)))
lag-is φ f (negsuc n) =
    let q = neg_ℤ (pos (suc n / φ)) in
    omega (arith, ints, div-add-mod (suc n) φ, mod-lt (suc n) f, *-parts φ (q -ℤ pos 1), +-parts (pos φ *ℤ (q -ℤ pos 1)) (pos φ), scale φ (sub_parts q (pos 1)), scale φ (neg_parts (pos (suc n / φ))))

-- what Lag says, over naturals: facts for omega
pub Lag-parts : {φ : ℕ} {z q : ℤ} → Lag φ z q → (φ * up q + dn z < up z + φ * dn q) × (up z + φ * dn q ≤ φ * up q + φ + dn z)
Lag-parts {φ} {z} {q} g = omega (arith, ints, *-parts φ q, +-parts (pos φ *ℤ q) (pos φ))

pub lag-parts : (φ : ℕ) → 1 ≤ φ → (z : ℤ) → (φ * up (lag φ z) + dn z < up z + φ * dn (lag φ z)) × (up z + φ * dn (lag φ z) ≤ φ * up (lag φ z) + φ + dn z)
lag-parts φ f z = Lag-parts (lag-is φ f z)

-- φ·q < φ·r + φ gives q ≤ r
pub lag-step : (φ : ℕ) (q r : ℤ) → φ * up q + φ * dn r < φ * up r + φ * dn q + φ → q ≤ℤ r
lag-step φ q r h = omega (arith, ints, lt_of_mul-lt-mul_left φ {m = up q + dn r} {n = up r + dn q + 1} (omega arith))

pub Lag-mono : (φ : ℕ) {z z' q q' : ℤ} → z ≤ℤ z' → Lag φ z q → Lag φ z' q' → q ≤ℤ q'
Lag-mono φ {q} {q'} h a b = lag-step φ q q' (omega (arith, ints, Lag-parts a, Lag-parts b))

pub lag_unique : (φ : ℕ) {z q q' : ℤ} → Lag φ z q → Lag φ z q' → q ≡ q'
lag_unique φ {z} a b = ≤ℤ_antisym (Lag-mono φ (≤ℤ_refl z) a b) (Lag-mono φ (≤ℤ_refl z) b a)

pub lag_mono : (φ : ℕ) → 1 ≤ φ → {z z' : ℤ} → z ≤ℤ z' → lag φ z ≤ℤ lag φ z'
lag_mono φ f {z} {z'} h = Lag-mono φ h (lag-is φ f z) (lag-is φ f z')

-- ---- the place
pub place_is : (φ : ℕ) → 1 ≤ φ → (z : ℤ) → pos (place φ z) ≡ (z -ℤ (pos φ *ℤ lag φ z))
unfolding place
place_is φ f z = pos-up (z -ℤ (pos φ *ℤ lag φ z)) (omega (arith, ints, lag-parts φ f z, *-parts φ (lag φ z), sub_parts z (pos φ *ℤ lag φ z)))

pub place-parts : (φ : ℕ) → 1 ≤ φ → (z : ℤ) → place φ z + (φ * up (lag φ z) + dn z) ≡ up z + φ * dn (lag φ z)
place-parts φ f z = let e = place_is φ f z in omega (arith, ints, *-parts φ (lag φ z), sub_parts z (pos φ *ℤ lag φ z))

pub place-pos : (φ : ℕ) → 1 ≤ φ → (z : ℤ) → 1 ≤ place φ z
place-pos φ f z = omega (arith, place-parts φ f z, lag-parts φ f z)

pub place_le : (φ : ℕ) → 1 ≤ φ → (z : ℤ) → place φ z ≤ φ
place_le φ f z = omega (arith, place-parts φ f z, lag-parts φ f z)
