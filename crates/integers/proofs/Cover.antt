-- What labels say of lags and places, connection by connection, and back: lags and depths that fit give labels.
use Rattle.std.specs.Prelude.{◌≡◌, ◌⊎◌, ℕ, ◌+◌, ◌*◌, ◌≤◌, ◌<◌, ℤ, pos, neg_ℤ, ◌+ℤ◌, ◌-ℤ◌, ◌*ℤ◌, ◌≤ℤ◌, ◌<ℤ◌}
use Rattle.std.proofs.Common.{inl, inr, ⊎_elim, mul-le-mul_left, mul-le-mul_right, arith}
use Rattle.integers.specs.Parts.{up, dn, ints, ≤-parts, +-parts, sub_parts, neg_parts, *-parts, scale}
use Rattle.integers.specs.Order.{≤ℤ_antisym, ≤ℤ_total}
use Rattle.integers.specs.Height.{height}
use Rattle.integers.proofs.Height.{height-parts}
use Rattle.integers.specs.Lag.{lag, place}
use Rattle.integers.proofs.Lag.{lag-parts, lag-step, place-parts}

-- ---- labels to lags
module _ (φ : ℕ) (f : 1 ≤ φ) where
  pub lag-leaf : (d : ℕ) (l h : ℤ) → height φ l d ≤ℤ h → lag φ l ≤ℤ (lag φ h +ℤ pos d)
  lag-leaf d l h k = lag-step φ (lag φ l) (lag φ h +ℤ pos d)
      (omega (arith, ints, lag-parts φ f l, lag-parts φ f h, height-parts φ l d, scale φ (+-parts (lag φ h) (pos d))))

  pub place-leaf : (d : ℕ) (l h : ℤ) → height φ l d ≤ℤ h → lag φ l ≡ (lag φ h +ℤ pos d) → place φ l < place φ h
  place-leaf d l h k e =
      let g : up (lag φ l) + dn (lag φ h) ≡ up (lag φ h) + dn (lag φ l) + d = omega (arith, ints, +-parts (lag φ h) (pos d)) in
      omega (arith, ≤-parts (height φ l d) h k, place-parts φ f l, place-parts φ f h, height-parts φ l d, scale φ g)

  pub lag-input : (d : ℕ) (h : ℤ) → height φ (pos 0) d ≤ℤ h → neg_ℤ (pos d) ≤ℤ lag φ h
  lag-input d h k = lag-step φ (neg_ℤ (pos d)) (lag φ h)
      (omega (arith, ints, lag-parts φ f h, height-parts φ (pos 0) d, scale φ (neg_parts (pos d))))

  pub lag-output : (w : ℕ) (l : ℤ) → (l -ℤ pos (φ * w)) ≤ℤ pos φ → lag φ l ≤ℤ pos w
  lag-output w l k = lag-step φ (lag φ l) (pos w) (omega (arith, ints, lag-parts φ f l, sub_parts l (pos (φ * w))))

  pub lag-lower : (m : ℕ) (z : ℤ) → (pos 1 -ℤ pos (φ * m)) ≤ℤ z → neg_ℤ (pos m) ≤ℤ lag φ z
  lag-lower m z k = lag-step φ (neg_ℤ (pos m)) (lag φ z)
      (omega (arith, ints, lag-parts φ f z, sub_parts (pos 1) (pos (φ * m)), scale φ (neg_parts (pos m))))

  pub lag_upper : (g : ℕ) (z : ℤ) → z ≤ℤ pos g → lag φ z <ℤ pos g
  lag_upper g z k = ⊎_elim big (λ h. h) (≤ℤ_total (pos g) (lag φ z))
    where
      big : pos g ≤ℤ lag φ z → lag φ z <ℤ pos g
      big h =
          let m : g + dn (lag φ z) ≤ up (lag φ z) = omega (arith, ints) in
          omega (arith, ints, lag-parts φ f z, mul-le-mul_left φ m, mul-le-mul_right g f)

-- ---- lags and depths to labels: e and e' are depths, d + r − q the registers of a connection
pub depth-leaf : (φ d e e' : ℕ) (r q : ℤ) → pos 0 ≤ℤ ((pos d +ℤ r) -ℤ q) → e' ≤ φ → 1 ≤ e → (((pos d +ℤ r) -ℤ q) ≡ pos 0 → e' < e) → height φ ((pos φ *ℤ q) +ℤ pos e') d ≤ℤ ((pos φ *ℤ r) +ℤ pos e)
depth-leaf φ d e e' r q h a b c = go (≤ℤ_total ((pos d +ℤ r) -ℤ q) (pos 0))
  where
    regs : up ((pos d +ℤ r) -ℤ q) + (dn r + up q) ≡ dn ((pos d +ℤ r) -ℤ q) + (d + up r + dn q)
    regs = omega (arith, sub_parts (pos d +ℤ r) q, +-parts (pos d) r)

    less : φ * (dn r + up q) + e' < φ * (d + up r + dn q) + e → height φ ((pos φ *ℤ q) +ℤ pos e') d ≤ℤ ((pos φ *ℤ r) +ℤ pos e)
    less k = omega (arith, ints, height-parts φ ((pos φ *ℤ q) +ℤ pos e') d, +-parts (pos φ *ℤ q) (pos e'), +-parts (pos φ *ℤ r) (pos e), *-parts φ q, *-parts φ r)

    go : (((pos d +ℤ r) -ℤ q) ≤ℤ pos 0) ⊎ (pos 0 <ℤ ((pos d +ℤ r) -ℤ q)) → height φ ((pos φ *ℤ q) +ℤ pos e') d ≤ℤ ((pos φ *ℤ r) +ℤ pos e)
    go (inl k) =
        let g : dn r + up q ≡ d + up r + dn q = omega (arith, ints, regs) in
        less (omega (arith, scale φ g, c (≤ℤ_antisym k h)))
    go (inr k) =
        let g : dn r + up q + 1 ≤ d + up r + dn q = omega (arith, ints, regs) in
        less (omega (arith, mul-le-mul_left φ g))

pub depth-input : (φ d e : ℕ) (r : ℤ) → pos 0 ≤ℤ (pos d +ℤ r) → 1 ≤ e → height φ (pos 0) d ≤ℤ ((pos φ *ℤ r) +ℤ pos e)
depth-input φ d e r h a =
    let g : dn r ≤ d + up r = omega (arith, ints, +-parts (pos d) r) in
    omega (arith, ints, mul-le-mul_left φ g, height-parts φ (pos 0) d, +-parts (pos φ *ℤ r) (pos e), *-parts φ r)

pub depth-output : (φ w e : ℕ) (q : ℤ) → e ≤ φ → pos 0 ≤ℤ (pos w -ℤ q) → (((pos φ *ℤ q) +ℤ pos e) -ℤ pos (φ * w)) ≤ℤ pos φ
depth-output φ w e q a h =
    let g : up q ≤ w + dn q = omega (arith, ints, sub_parts (pos w) q) in
    omega (arith, ints, mul-le-mul_left φ g, sub_parts ((pos φ *ℤ q) +ℤ pos e) (pos (φ * w)), +-parts (pos φ *ℤ q) (pos e), *-parts φ q)
