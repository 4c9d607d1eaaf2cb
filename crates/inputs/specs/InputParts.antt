-- Definitions: the parts of a program's input.
use Rattle.std.specs.Prelude.{◌≡◌, List, ℕ, ◌-◌, ◌≤◌, length, take, drop}

-- r is the place n bytes behind place `at` of s, or its end
pub record Behind (s : List ℕ) (at n r : ℕ) : Type 0 where
  pub low : at ≤ r
  pub high : r ≤ length s
  pub before : take (r - at) (drop at s) ≡ take n (drop at s)
  pub behind : drop r s ≡ drop n (drop at s)
