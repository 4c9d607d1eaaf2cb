-- The first bytes by their places; a missing byte reads as 0.
use Rattle.std.specs.Prelude.{◌≡◌, refl, List, [], ◌∷◌, ℕ, get_or}
use Rattle.net_bytes.specs.Walk.{first, rest}

pub place-first : (l : List ℕ) → get_or l 0 0 ≡ first l
place-first [] = refl
place-first (a ∷ l) = refl

pub place-second : (l : List ℕ) → get_or l 1 0 ≡ first (rest l)
place-second [] = refl
place-second (a ∷ []) = refl
place-second (a ∷ b ∷ l) = refl
