-- Definitions: what document 02, E10, asks of the answer for two captures, without saying how it is found.
use Rattle.std.specs.Prelude.{◌≡◌, ◌⊎◌, ◌↔◌, List, ℕ, ◌+◌, ◌≤◌, ◌<◌, length}
use Rattle.captures.specs.Captures.{most_words, most_shift, overlap, Agrees}
use Rattle.captures.specs.AlignOutcome.{shifted, none, refused, align_outcome}

-- "a capture has over 4,096 words"
abbrev pub Long : List ℕ → List ℕ → Type 0
Long first second = (most_words < length first) ⊎ (most_words < length second)

-- "the smallest shift of the second from 0 to 255 at which at least 16 steps overlap and all overlapping words agree"
pub record Smallest (first second : List ℕ) (s : ℕ) : Type 0 where
  pub allowed : ¬ Long first second
  pub bound : s ≤ most_shift
  pub agrees : Agrees first second s
  pub least : (j : ℕ) → j < s → ¬ Agrees first second j

-- "no shift does it"
pub record NoneAgrees (first second : List ℕ) : Type 0 where
  pub allowed : ¬ Long first second
  pub never : (s : ℕ) → s ≤ most_shift → ¬ Agrees first second s

pub record AlignTold (first second : List ℕ) : Type 0 where
  -- "We want the smallest shift of the second from 0 to 255 at which at least 16 steps overlap and all overlapping words agree."
  pub found : (s : ℕ) → (align_outcome first second ≡ shifted s) ↔ Smallest first second s
  -- "If no shift does it, and only then, the reply is none."
  pub nothing : (align_outcome first second ≡ none) ↔ NoneAgrees first second
  -- "Word i of the second is held against word i plus shift of the first." The steps counted are those where both have a word.
  pub counted : (s i : ℕ) → (i < overlap first second s) ↔ ((i < length second) × (i + s < length first))
  -- "Answers: 23, a capture has over 4,096 words." No other number is told.
  pub long : (align_outcome first second ≡ refused 23) ↔ Long first second
  pub only : (n : ℕ) → align_outcome first second ≡ refused n → n ≡ 23
