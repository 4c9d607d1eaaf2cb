-- Definitions: the height label(u) − φ·w of a pin, and the highest of a gate's pins.
use Rattle.std.specs.Prelude.{List, ℕ, ◌+◌, ◌*◌, ◌≤◌, ◌<◌, ℤ, pos, ◌-ℤ◌, length, get_or, ◌≤ℤ◌}
use Rattle.signed.specs.Range.{Small, room, label_in}

-- label(u) − φ·w for the pin at place i
abbrev pub height_at : List ℕ → List ℕ → List ℤ → ℕ → ℕ → ℤ
height_at sources counts ls φ i = label_in ls (get_or sources i 0) -ℤ pos (φ * get_or counts i 0)

-- the pin at place i can be read, and its number does not overflow
pub record PinFits (sources counts : List ℕ) (ls : List ℤ) (φ i : ℕ) : Type 0 where
  pub source : i < length sources
  pub count : i < length counts
  pub node : get_or sources i 0 < length ls
  pub small : Small (label_in ls (get_or sources i 0))
  pub shift : φ * get_or counts i 0 ≤ room

-- r is one of n pins from place `at` on, and none of them is higher
pub record Best (sources counts : List ℕ) (ls : List ℤ) (φ at n r : ℕ) : Type 0 where
  pub bound : r < n
  pub above : (j : ℕ) → j < n → height_at sources counts ls φ (at + j) ≤ℤ height_at sources counts ls φ (at + r)
