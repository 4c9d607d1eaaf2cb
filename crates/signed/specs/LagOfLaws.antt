-- The lag from the quotient towards zero and its remainder.
use Rattle.std.specs.Prelude.{◌≡◌, refl, ℕ, zero, suc, ◌+◌, ◌*◌, ◌/◌, ◌%◌, ◌≤◌, ◌<◌, ℤ, pos, negsuc, neg_ℤ, ◌-ℤ◌, ◌*ℤ◌, ◌+ℤ◌, ◌<ℤ◌, ◌≤ℤ◌}
use Rattle.std.proofs.Common.{sym, ap, ◌∙◌, mod-lt, div-le_self, arith}
use Rattle.std.proofs.Math.Nat.{div-add-mod}
use Rattle.std.specs.Int.Signed.{quot_z, rem_z, mag, mag_rem}
use Rattle.integers.specs.Parts.{ints, +-parts, sub_parts, neg_parts, *-parts, scale}
use Rattle.integers.specs.Lag.{lag, Lag}
use Rattle.integers.proofs.Lag.{lag-is, lag_unique}

-- a positive remainder: the quotient
pub lag_quot : (φ : ℕ) → 1 ≤ φ → (z : ℤ) → pos 0 <ℤ rem_z z (pos φ) → quot_z z (pos φ) ≡ lag φ z
lag_quot φ p (pos n) h =
    lag_unique φ (record {
      over = let a = div-add-mod n φ in omega (arith, ints, *-parts φ (pos (n / φ)));
      under = let a = div-add-mod n φ in let b = mod-lt n {m = φ} p in omega (arith, ints, *-parts φ (pos (n / φ)), +-parts (pos φ *ℤ pos (n / φ)) (pos φ));
    }) (lag-is φ p (pos n))
lag_quot φ p (negsuc n) h = absurd (none h)
  where
    none : pos 0 <ℤ neg_ℤ (pos (suc n % φ)) → ⊥
    none k = omega (arith, ints, neg_parts (pos (suc n % φ)))

-- none: one less
pub lag_quot-less : (φ : ℕ) → 1 ≤ φ → (z : ℤ) → rem_z z (pos φ) ≤ℤ pos 0 → (quot_z z (pos φ) -ℤ pos 1) ≡ lag φ z
lag_quot-less φ p (pos n) h =
    lag_unique φ (record {
      over = let a = div-add-mod n φ in
          omega (arith, ints, *-parts φ (pos (n / φ) -ℤ pos 1), sub_parts (pos (n / φ)) (pos 1), scale φ (sub_parts (pos (n / φ)) (pos 1)));
      under = let a = div-add-mod n φ in
          omega (arith, ints, *-parts φ (pos (n / φ) -ℤ pos 1), scale φ (sub_parts (pos (n / φ)) (pos 1)), +-parts (pos φ *ℤ (pos (n / φ) -ℤ pos 1)) (pos φ));
    }) (lag-is φ p (pos n))
lag_quot-less φ p (negsuc n) h =
    let q = suc n / φ in
    let z = neg_ℤ (pos q) in
    lag_unique φ (record {
      over = let a = div-add-mod (suc n) φ in let b = mod-lt (suc n) {m = φ} p in
          omega (arith, ints, *-parts φ (z -ℤ pos 1), scale φ (sub_parts z (pos 1)), scale φ (neg_parts (pos q)));
      under = let a = div-add-mod (suc n) φ in
          omega (arith, ints, *-parts φ (z -ℤ pos 1), scale φ (sub_parts z (pos 1)), scale φ (neg_parts (pos q)), +-parts (pos φ *ℤ (z -ℤ pos 1)) (pos φ));
    }) (lag-is φ p (negsuc n))

-- a quotient is no larger than what is divided
pub mag_quot : (z : ℤ) (φ : ℕ) → 1 ≤ φ → mag (quot_z z (pos φ)) ≤ suc (mag z)
mag_quot (pos n) φ p = let a = div-le_self n φ in omega arith
mag_quot (negsuc n) φ p = go (suc n / φ) (div-le_self (suc n) φ)
  where
    go : (q : ℕ) → q ≤ suc n → mag (neg_ℤ (pos q)) ≤ suc n
    go zero h = omega arith
    go (suc q) h = omega arith
