-- Laws of a choice between two numbers and of what halving leaves.
use Rattle.std.specs.Prelude.{◌≡◌, Bool, true, false, ℕ, ◌≤◌, ◌<◌, refl, ◌+◌, ◌-◌}
use Rattle.std.proofs.Common.{arith}

-- x if b, else y
abbrev pub Either : Bool → ℕ → ℕ → ℕ → Type 0
Either b x y r = (b ≡ true → r ≡ x) × (b ≡ false → r ≡ y)

-- a period up to the number of gates
pub record Few (gates r : ℕ) : Type 0 where
  pub positive : 1 ≤ r
  pub most : r ≤ gates

-- what is left falls
pub halves-less : {b : Bool} {low high φ low' high' : ℕ} → low ≤ φ → φ < high → Either b low (φ + 1) low' → Either b φ high high' → high' - low' < high - low
halves-less {b} {low} {high} {φ} {low'} {high'} le lt x y = go b refl
  where
    go : (t : Bool) → b ≡ t → high' - low' < high - low
    go true e = let p = x.0 e in let q = y.0 e in omega arith
    go false e = let p = x.1 e in let q = y.1 e in omega arith
