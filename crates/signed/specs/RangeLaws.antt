-- Small numbers fit 64 signed bits, and so do their sums and differences.
use Rattle.std.specs.Prelude.{◌≡◌, refl, ℕ, zero, suc, ◌+◌, ◌^◌, ◌≤◌, ◌<◌, ℤ, pos, negsuc, ◌+ℤ◌, ◌-ℤ◌, ◌≤ℤ◌, ◌<ℤ◌, T}
use Rattle.std.proofs.Common.{sym, ap, ap₂, ◌∙◌, subst, arith, ltb-true, ltb-false, SFits, to_z, of_z}
use mathlib.Core.Bool.{Bool, true, false}
use Rattle.std.specs.Int.Signed.{mag, lt_z, lt_z_yes, lt_z_no}
use Rattle.std.specs.Int.{w64}
use Rattle.std.proofs.lemmas.Int.{to_z-of_z}
use Rattle.integers.specs.Parts.{up, dn, ints, +-parts, sub_parts}
use Rattle.integers.specs.Order.{≤ℤ_antisym}
use Rattle.signed.specs.Range.{Small, room}

-- the size of a number, by its parts
pub mag-parts : (z : ℤ) (m : ℕ) → mag z ≤ m → (up z ≤ m) × (dn z ≤ suc m)
mag-parts (pos n) m h = (h, omega arith)
mag-parts (negsuc n) m h = (omega arith, omega arith)

pub parts-mag : (z : ℤ) (m : ℕ) → up z ≤ m → dn z ≤ suc m → mag z ≤ m
parts-mag (pos n) m h k = h
parts-mag (negsuc n) m h k = omega arith

-- one of the parts is 0
pub one-zero : (z : ℤ) (m : ℕ) → up z ≤ m + dn z → up z ≤ m
one-zero (pos n) m h = omega arith
one-zero (negsuc n) m h = omega arith

pub other-zero : (z : ℤ) (m : ℕ) → dn z ≤ m + up z → dn z ≤ m
other-zero (pos n) m h = omega arith
other-zero (negsuc n) m h = omega arith

pub fits-of : (z : ℤ) (m : ℕ) → m < 2 ^ 63 → mag z ≤ m → SFits w64 z
fits-of z m a h = record { sfits = omega arith }

pub small-fits : (z : ℤ) → Small z → SFits w64 z
small-fits z s = fits-of z room (omega arith) s.size

-- numbers between small ones are small
pub small-between : (a b z : ℤ) → Small a → Small b → a ≤ℤ z → z ≤ℤ b → Small z
small-between a b z s t h l =
    let p = mag-parts a room s.size in
    let q = mag-parts b room t.size in
    record { size = go z h l p.1 q.0 }
  where
    go : (z : ℤ) → a ≤ℤ z → z ≤ℤ b → dn a ≤ suc room → up b ≤ room → mag z ≤ room
    go (pos n) h l x y = omega (arith, ints, h, l, x, y)
    go (negsuc n) h l x y = omega (arith, ints, h, l, x, y)

pub minus_mag : (z : ℤ) (n m k : ℕ) → mag z ≤ m → n ≤ k → mag (z -ℤ pos n) ≤ m + k
minus_mag z n m k h l =
    let p = mag-parts z m h in
    let q = sub_parts z (pos n) in
    parts-mag (z -ℤ pos n) (m + k) (one-zero (z -ℤ pos n) (m + k) (omega (arith, p.0, p.1))) (other-zero (z -ℤ pos n) (suc (m + k)) (omega (arith, p.0, p.1)))

pub plus_mag : (z : ℤ) (n m k : ℕ) → mag z ≤ m → n ≤ k → mag (z +ℤ pos n) ≤ m + k
plus_mag z n m k h l =
    let p = mag-parts z m h in
    let q = +-parts z (pos n) in
    parts-mag (z +ℤ pos n) (m + k) (one-zero (z +ℤ pos n) (m + k) (omega (arith, p.0, p.1))) (other-zero (z +ℤ pos n) (suc (m + k)) (omega (arith, p.0, p.1)))

-- a stored number reads back
pub back : (z : ℤ) → SFits w64 z → to_z w64 (of_z w64 z) ≡ z
back z f = to_z-of_z w64 z f

pub lt_z_true : (a b : ℤ) → lt_z a b ≡ true → a <ℤ b
lt_z_true a b e = lt_z_yes (subst T (sym e) tt)

pub lt_z_false : (a b : ℤ) → lt_z a b ≡ false → b ≤ℤ a
lt_z_false a b e = lt_z_no (subst (λ (t : Bool). T (mathlib.Core.Bool.not t)) (sym e) tt)

pub less_none : (z : ℤ) → (z -ℤ pos 0) ≡ z
less_none z = ≤ℤ_antisym (omega (arith, ints, sub_parts z (pos 0))) (omega (arith, ints, sub_parts z (pos 0)))

-- what a test told, of equal numbers
pub told_of : {b : Bool} {x x' y y' : ℤ} → x ≡ x' → y ≡ y' → (b ≡ true → x <ℤ y) × (b ≡ false → y ≤ℤ x) → (b ≡ true → x' <ℤ y') × (b ≡ false → y' ≤ℤ x')
told_of e f t = (λ h. rw (sym e, sym f) (t.0 h), λ h. rw (sym e, sym f) (t.1 h))
