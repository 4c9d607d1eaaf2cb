-- Definitions: what a tally of registers holds.
use Rattle.std.specs.Prelude.{◌≡◌, List, ◌++◌, ℕ, ◌<◌, get_or}
use Rattle.limits.specs.Limits.{most_nodes}
use Rattle.cover_theory.specs.SharedRegisters.{Tap, longest}

-- each place holds the largest number among the taps with that source
pub record Tallied (ts : List Tap) (places : List ℕ) : Type 0 where
  pub each : (u : ℕ) → u < most_nodes → get_or places u 0 ≡ longest u ts

-- ts were taken: whatever was tallied before, that and ts are tallied after
pub record Took (ts : List Tap) (before after : List ℕ) : Type 0 where
  pub on : (xs : List Tap) → Tallied xs before → Tallied (xs ++ ts) after
