-- Laws of specs/Height.
use Rattle.std.specs.Prelude.{◌≡◌, ℕ, ◌+◌, ◌*◌, ℤ, pos, ◌+ℤ◌, ◌-ℤ◌, ◌≤ℤ◌, ◌<ℤ◌}
use Rattle.std.proofs.Common.{arith}
use Rattle.integers.specs.Parts.{up, dn, ints, +-parts, sub_parts}
use Rattle.integers.specs.Height.{height}

-- its parts, to hand to omega
pub height-parts : (φ : ℕ) (l : ℤ) (d : ℕ) → up (height φ l d) + (dn l + φ * d) ≡ dn (height φ l d) + (up l + 1)
height-parts φ l d = omega (arith, +-parts (l -ℤ pos (φ * d)) (pos 1), sub_parts l (pos (φ * d)))

pub height_mono : (φ d : ℕ) {l l' : ℤ} → l ≤ℤ l' → height φ l d ≤ℤ height φ l' d
height_mono φ d {l} {l'} h = omega (arith, ints, height-parts φ l d, height-parts φ l' d)

pub height-shift : (φ d e : ℕ) (l h : ℤ) → height φ l (e + d) ≤ℤ h → height φ l d ≤ℤ (h +ℤ pos (φ * e))
height-shift φ d e l h k = omega (arith, ints, height-parts φ l d, height-parts φ l (e + d), +-parts h (pos (φ * e)))

pub height_unshift : (φ d e : ℕ) (l h : ℤ) → height φ l d ≤ℤ (h +ℤ pos (φ * e)) → height φ l (e + d) ≤ℤ h
height_unshift φ d e l h k = omega (arith, ints, height-parts φ l d, height-parts φ l (e + d), +-parts h (pos (φ * e)))

pub height_lt : (φ d : ℕ) (l h : ℤ) → height φ l d ≤ℤ h → l <ℤ (h +ℤ pos (φ * d))
height_lt φ d l h k = omega (arith, ints, height-parts φ l d, +-parts h (pos (φ * d)))

pub lt_height : (φ d : ℕ) (l h : ℤ) → l <ℤ (h +ℤ pos (φ * d)) → height φ l d ≤ℤ h
lt_height φ d l h k = omega (arith, ints, height-parts φ l d, +-parts h (pos (φ * d)))
