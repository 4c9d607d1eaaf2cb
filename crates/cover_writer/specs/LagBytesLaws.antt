-- A lag as a signed byte.
use Rattle.std.specs.Prelude.{◌≡◌, refl, Bool, true, false, cond, [], ◌∷◌, zero, suc, ◌≤◌, ◌<◌, ℤ, pos, negsuc, ◌+ℤ◌, ◌≤ℤ◌, ◌<ℤ◌}
use Rattle.std.proofs.Common.{sym, ap, ◌∙◌, arith, SFits, to_z, of_z}
use Rattle.std.specs.Int.{w8, w64}
use Rattle.std.proofs.lemmas.Int.{to_z-of_z}
use Rattle.integers.specs.Parts.{ints, +-parts}
use Rattle.cover_records.specs.CoverBytes.{is_zero, signed_number, lag_bytes}
use Rattle.cover_records.specs.RoundTrip.{SmallLag, up, down}
use Rattle.signed.specs.RangeLaws.{back, fits-of}

-- the test of the bits
pub zero_bits : (z : ℤ) → SFits w64 z → of_z w64 z ≡ 0 → is_zero z ≡ true
zero_bits z f e = ap is_zero (sym (back z f) ∙ ap (to_z w64) e)

pub other-bits : (z : ℤ) → (of_z w64 z ≡ 0 → ⊥) → is_zero z ≡ false
other-bits (pos zero) n = absurd (n refl)
other-bits (pos (suc m)) n = refl
other-bits (negsuc m) n = refl

pub no_lag : (z : ℤ) → is_zero z ≡ true → lag_bytes false z ≡ []
no_lag z e = rw e refl

pub some-lag : (z : ℤ) → is_zero z ≡ false → lag_bytes false z ≡ signed_number false z ∷ []
some-lag z e = rw e refl

pub flag_small : (z : ℤ) → cond (is_zero z) 0 64 ≤ 64
flag_small z = go (is_zero z)
  where
    go : (t : Bool) → cond t 0 64 ≤ 64
    go true = omega arith
    go false = omega arith

pub signed-small : {z : ℤ} → SmallLag false z → signed_number false z < 256
signed-small (up h) = omega arith
signed-small (down h) = omega arith

pub lag-fits : {z : ℤ} → SmallLag false z → SFits w64 z
lag-fits (up {n = n} h) = fits-of (pos n) 128 (omega arith) (omega arith)
lag-fits (down {n = n} h) = fits-of (negsuc n) 128 (omega arith) (omega arith)

pub byte_fits : {z : ℤ} → SmallLag false z → SFits w64 (pos (signed_number false z))
byte_fits {z} s = let h = signed-small s in fits-of (pos (signed_number false z)) 256 (omega arith) (omega arith)

pub below-zero : {z : ℤ} → SmallLag false z → z <ℤ pos 0 → (z +ℤ pos 256) ≡ pos (signed_number false z)
below-zero (up {n = n} h) l = absurd (omega (arith, ints))
below-zero (down {n = n} h) l = let p = +-parts (negsuc n) (pos 256) in omega (arith, ints)

pub from_zero : {z : ℤ} → SmallLag false z → pos 0 ≤ℤ z → z ≡ pos (signed_number false z)
from_zero (up h) l = refl
from_zero (down {n = n} h) l = absurd (omega (arith, ints))

-- in eight bits
pub lag-fits-byte : {z : ℤ} → SmallLag false z → SFits w8 z
lag-fits-byte (up h) = record { sfits = omega arith }
lag-fits-byte (down h) = record { sfits = omega arith }

pub byte_bits : {z : ℤ} → SmallLag false z → of_z w8 z ≡ signed_number false z
byte_bits (up h) = omega arith
byte_bits (down h) = omega arith

pub byte_back : {z : ℤ} → SmallLag false z → to_z w8 (of_z w8 (to_z w64 (of_z w64 z))) ≡ z
byte_back {z} s = ap (λ (x : ℤ). to_z w8 (of_z w8 x)) (back z (lag-fits s)) ∙ to_z-of_z w8 z (lag-fits-byte s)
