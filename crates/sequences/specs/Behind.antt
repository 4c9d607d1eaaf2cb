-- Laws of what is behind a place of a list.
use Rattle.std.specs.Prelude.{◌≡◌, List, ℕ, ◌+◌, ◌-◌, ◌≤◌, length, take, drop}
use Rattle.std.proofs.Common.{ap, arith, length-drop, take_all}

pub behind : (l : List ℕ) (at : ℕ) → take (length l - at) (drop at l) ≡ drop at l
behind l at = take_all (length l - at) (drop at l) (omega (arith, length-drop at l))

pub length-behind : (l : List ℕ) (at n : ℕ) → at + n ≤ length l → n ≤ length (take (length l - at) (drop at l))
length-behind l at n h = omega (arith, ap length (behind l at), length-drop at l)
