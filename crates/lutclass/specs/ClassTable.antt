-- Definitions: the table of classes that the library has, and what document 02 (E12) says of it.
use Rattle.std.specs.Prelude.{◌≡◌, List, [], ◌∷◌, ℕ, ◌<◌, length, get_or}
use Rattle.sequences.specs.Distinct.{Dedup}
use Rattle.lutclass.specs.Classes.{TurnsInto, IsClass}
use Rattle.lutclass.specs.Turnings.{generated}

-- "the constant table of 256 numbers", as the library has it
unfoldable pub shipped : List ℕ
shipped =
    0 ∷ 1 ∷ 1 ∷ 3 ∷ 1 ∷ 3 ∷ 6 ∷ 7 ∷ 1 ∷ 6 ∷ 3 ∷ 7 ∷ 3 ∷ 7 ∷ 7 ∷ 15
    ∷ 1 ∷ 3 ∷ 6 ∷ 7 ∷ 6 ∷ 7 ∷ 22 ∷ 23 ∷ 24 ∷ 25 ∷ 25 ∷ 27 ∷ 25 ∷ 27 ∷ 30 ∷ 7
    ∷ 1 ∷ 6 ∷ 3 ∷ 7 ∷ 24 ∷ 25 ∷ 25 ∷ 27 ∷ 6 ∷ 22 ∷ 7 ∷ 23 ∷ 25 ∷ 30 ∷ 27 ∷ 7
    ∷ 3 ∷ 7 ∷ 7 ∷ 15 ∷ 25 ∷ 27 ∷ 30 ∷ 7 ∷ 25 ∷ 30 ∷ 27 ∷ 7 ∷ 60 ∷ 25 ∷ 25 ∷ 3
    ∷ 1 ∷ 6 ∷ 24 ∷ 25 ∷ 3 ∷ 7 ∷ 25 ∷ 27 ∷ 6 ∷ 22 ∷ 25 ∷ 30 ∷ 7 ∷ 23 ∷ 27 ∷ 7
    ∷ 3 ∷ 7 ∷ 25 ∷ 27 ∷ 7 ∷ 15 ∷ 30 ∷ 7 ∷ 25 ∷ 30 ∷ 60 ∷ 25 ∷ 27 ∷ 7 ∷ 25 ∷ 3
    ∷ 6 ∷ 22 ∷ 25 ∷ 30 ∷ 25 ∷ 30 ∷ 60 ∷ 25 ∷ 22 ∷ 105 ∷ 30 ∷ 22 ∷ 30 ∷ 22 ∷ 25 ∷ 6
    ∷ 7 ∷ 23 ∷ 27 ∷ 7 ∷ 27 ∷ 7 ∷ 25 ∷ 3 ∷ 30 ∷ 22 ∷ 25 ∷ 6 ∷ 25 ∷ 6 ∷ 24 ∷ 1
    ∷ 1 ∷ 24 ∷ 6 ∷ 25 ∷ 6 ∷ 25 ∷ 22 ∷ 30 ∷ 3 ∷ 25 ∷ 7 ∷ 27 ∷ 7 ∷ 27 ∷ 23 ∷ 7
    ∷ 6 ∷ 25 ∷ 22 ∷ 30 ∷ 22 ∷ 30 ∷ 105 ∷ 22 ∷ 25 ∷ 60 ∷ 30 ∷ 25 ∷ 30 ∷ 25 ∷ 22 ∷ 6
    ∷ 3 ∷ 25 ∷ 7 ∷ 27 ∷ 25 ∷ 60 ∷ 30 ∷ 25 ∷ 7 ∷ 30 ∷ 15 ∷ 7 ∷ 27 ∷ 25 ∷ 7 ∷ 3
    ∷ 7 ∷ 27 ∷ 23 ∷ 7 ∷ 30 ∷ 25 ∷ 22 ∷ 6 ∷ 27 ∷ 25 ∷ 7 ∷ 3 ∷ 25 ∷ 24 ∷ 6 ∷ 1
    ∷ 3 ∷ 25 ∷ 25 ∷ 60 ∷ 7 ∷ 27 ∷ 30 ∷ 25 ∷ 7 ∷ 30 ∷ 27 ∷ 25 ∷ 15 ∷ 7 ∷ 7 ∷ 3
    ∷ 7 ∷ 27 ∷ 30 ∷ 25 ∷ 23 ∷ 7 ∷ 22 ∷ 6 ∷ 27 ∷ 25 ∷ 25 ∷ 24 ∷ 7 ∷ 3 ∷ 6 ∷ 1
    ∷ 7 ∷ 30 ∷ 27 ∷ 25 ∷ 27 ∷ 25 ∷ 25 ∷ 24 ∷ 23 ∷ 22 ∷ 7 ∷ 6 ∷ 7 ∷ 6 ∷ 3 ∷ 1
    ∷ 15 ∷ 7 ∷ 7 ∷ 3 ∷ 7 ∷ 3 ∷ 6 ∷ 1 ∷ 7 ∷ 6 ∷ 3 ∷ 1 ∷ 3 ∷ 1 ∷ 1 ∷ 0
    ∷ []

pub record ClassTable (table : List ℕ) : Type 0 where
  -- "256 numbers"
  pub size : length table ≡ 256
  -- "entry f being the smallest table that f can be turned into. Every entry must be reachable and none smaller"
  pub entry : (f : ℕ) → f < 256 → IsClass f (get_or table f 0)
  -- "two functions share an entry exactly when one can be turned into the other"
  pub shared : (f g : ℕ) → f < 256 → g < 256 → get_or table f 0 ≡ get_or table g 0 → TurnsInto f g
  pub together : (f g : ℕ) → f < 256 → g < 256 → TurnsInto f g → get_or table f 0 ≡ get_or table g 0
  -- "There are 14 different entries."
  pub different : (each : Dedup table) × (length each.list ≡ 14)
  -- "The shipped table equals the generator's output."
  pub printed : table ≡ generated
