-- Definitions: pins from 1 on become pins from 0 on.
use Rattle.std.specs.Prelude.{◌≡◌, List, ℕ, ◌-◌, ◌≤◌, ◌<◌, length, get_or}

-- all are at least 1
pub record Counting (m : List ℕ) : Type 0 where
  pub low : (g : ℕ) → g < length m → 1 ≤ get_or m g 0

-- the first n are one less
pub record Lowered (m m' : List ℕ) (n : ℕ) : Type 0 where
  pub size : length m' ≡ length m
  pub less : (g : ℕ) → g < n → get_or m' g 0 ≡ get_or m g 0 - 1
  pub rest : (g : ℕ) → n ≤ g → get_or m' g 0 ≡ get_or m g 0
