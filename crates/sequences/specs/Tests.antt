-- Definitions: what a test tells, and a search over places.
use Rattle.std.specs.Prelude.{◌≡◌, Bool, true, false, ℕ, ◌≤◌, ◌<◌}

-- a test tells whether P holds
pub record Tells (r : Bool) (P : Type 0) : Type 0 where
  pub holds : r ≡ true → P
  pub fails : r ≡ false → ¬ P

-- the first j below n with P j, or n
pub record First (P : ℕ → Type 0) (n r : ℕ) : Type 0 where
  pub bound : r ≤ n
  pub found : r < n → P r
  pub before : (j : ℕ) → j < r → ¬ P j
