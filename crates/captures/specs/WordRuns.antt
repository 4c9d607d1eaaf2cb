-- Definitions: what the functions that compare words tell.
use Rattle.std.specs.Prelude.{◌≡◌, List, ℕ, ◌+◌, ◌≤◌, ◌<◌, get_or}

-- the words of the second from place i up to place e are those of the first, s on
pub record Same (first second : List ℕ) (s i e : ℕ) : Type 0 where
  pub words : (j : ℕ) → i ≤ j → j < e → get_or second j 0 ≡ get_or first (j + s) 0
