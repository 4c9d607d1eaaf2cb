-- The highest pin, pin by pin, and heights that do not overflow.
use Rattle.std.specs.Prelude.{◌≡◌, List, ℕ, zero, suc, ◌+◌, ◌*◌, ◌<◌, ℤ, pos, ◌-ℤ◌, get_or, ◌≤ℤ◌, ◌<ℤ◌}
use Rattle.std.proofs.Common.{subst, arith, to_z, of_z}
use Rattle.std.proofs.Math.Decide.{ℕ_discrete}
use Rattle.std.specs.Int.{w64}
use Rattle.std.specs.Int.Signed.{≤ℤ_refl}
use Rattle.integers.specs.Parts.{ints, sub_parts}
use Rattle.signed.specs.Range.{Small, room, label_in}
use Rattle.signed.specs.RangeLaws.{back, fits-of, minus_mag, small-between}
use Rattle.label_pins.specs.PinHeights.{height_at, PinFits, Best}

module _ (sources counts : List ℕ) (ls : List ℤ) (φ at : ℕ) where
  pub best-one : Best sources counts ls φ at 1 0
  best-one = record { bound = omega arith; above = above }
    where
      above : (j : ℕ) → j < 1 → height_at sources counts ls φ (at + j) ≤ℤ height_at sources counts ls φ (at + 0)
      above zero h = ≤ℤ_refl (height_at sources counts ls φ (at + 0))
      above (suc j) h = absurd (omega (arith, h))

  -- a further pin, higher than all or not
  further : {j : ℕ} (r : ℕ) → ((i : ℕ) → i < j → height_at sources counts ls φ (at + i) ≤ℤ height_at sources counts ls φ (at + r))
      → height_at sources counts ls φ (at + j) ≤ℤ height_at sources counts ls φ (at + r)
      → (i : ℕ) → i < suc j → height_at sources counts ls φ (at + i) ≤ℤ height_at sources counts ls φ (at + r)
  further {j} r f h i l = go (ℕ_discrete i j)
    where
      go : Dec (i ≡ j) → height_at sources counts ls φ (at + i) ≤ℤ height_at sources counts ls φ (at + r)
      go (yes e) = rw e h
      go (no n) = f i (omega arith)

  pub best-more : {j b : ℕ} → Best sources counts ls φ at j b → height_at sources counts ls φ (at + b) <ℤ height_at sources counts ls φ (at + j) → Best sources counts ls φ at (j + 1) j
  best-more {j} {b} B h = record {
    bound = omega arith;
    above = λ i l. further j (λ i' l'. let a = B.above i' l' in omega (arith, ints)) (≤ℤ_refl (height_at sources counts ls φ (at + j))) i (omega arith);
  }

  pub best-kept : {j b : ℕ} → Best sources counts ls φ at j b → height_at sources counts ls φ (at + j) ≤ℤ height_at sources counts ls φ (at + b) → Best sources counts ls φ at (j + 1) b
  best-kept {j} {b} B h = record { bound = let a = B.bound in omega arith; above = λ i l. further b B.above h i (omega arith) }

  pub best-at : {m n b : ℕ} → m ≡ n → Best sources counts ls φ at m b → Best sources counts ls φ at n b
  best-at {b = b} e B = subst (λ (x : ℕ). Best sources counts ls φ at x b) e B

pub height-back : (so co : List ℕ) (ls : List ℤ) (φ i : ℕ) → PinFits so co ls φ i → to_z w64 (of_z w64 (height_at so co ls φ i)) ≡ height_at so co ls φ i
height-back so co ls φ i f =
    let z = label_in ls (get_or so i 0) in
    let n = φ * get_or co i 0 in
    back (z -ℤ pos n) (fits-of (z -ℤ pos n) (room + room) (omega arith) (minus_mag z n room room f.small.size f.shift))

pub small-height : (so co : List ℕ) (ls : List ℤ) (φ i : ℕ) (x : ℤ) → PinFits so co ls φ i → Small x → x ≤ℤ height_at so co ls φ i → Small (height_at so co ls φ i)
small-height so co ls φ i x f s h =
    small-between x (label_in ls (get_or so i 0)) (height_at so co ls φ i) s f.small h (omega (arith, ints, sub_parts (label_in ls (get_or so i 0)) (pos (φ * get_or co i 0))))
