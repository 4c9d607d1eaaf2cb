-- Definitions: numbers stored in a list, one after the other from a place on.
use Rattle.std.specs.Prelude.{◌≡◌, List, ℕ, ◌+◌, ◌≤◌, ◌<◌, length, get_or}

-- the first j numbers of `given` stand in `new` from place `at` on, and below and behind them `new` is as `old`
pub record Stored (old : List ℕ) (at : ℕ) (given : List ℕ) (j : ℕ) (new : List ℕ) : Type 0 where
  pub here : (m : ℕ) → m < j → get_or new (at + m) 0 ≡ get_or given m 0
  pub below : (m : ℕ) → m < at → get_or new m 0 ≡ get_or old m 0
  pub above : (m : ℕ) → at + j ≤ m → get_or new m 0 ≡ get_or old m 0
  pub long : length new ≡ length old
