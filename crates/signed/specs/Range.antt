-- Definitions: labels kept in an array, and the whole numbers that labels and their differences stay within. Far from the ends of 64 bits.
use Rattle.std.specs.Prelude.{List, ℕ, ◌^◌, ◌≤◌, ℤ, pos, get_or}
use Rattle.std.specs.Int.Signed.{mag}

abbrev pub label_in : List ℤ → ℕ → ℤ
label_in ls u = get_or ls u (pos 0)

-- 2 to the 40th
abbrev pub room : ℕ
room = 1099511627776

pub record Small (z : ℤ) : Type 0 where
  pub size : mag z ≤ room
