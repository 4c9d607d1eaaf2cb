-- Definitions: the answer for two captures (document 02, E10).
use Rattle.std.specs.Prelude.{cond, ◌||◌, List, ℕ, ◌≤◌, ltb, length}
use Rattle.sequences.specs.Decide.{least}
use Rattle.captures.specs.Captures.{most_words, most_shift, Agrees}
use Rattle.captures.specs.AgreesLaws.{agrees?, some-agrees?}

-- a shift, none, or the number of a refusal
pub data Aligned : Type 0 where
  shifted : ℕ → Aligned
  none : Aligned
  refused : ℕ → Aligned

-- "the smallest shift of the second from 0 to 255 at which at least 16 steps overlap and all overlapping words agree. If no shift does it, and only then, the reply is none."
unfoldable pub smallest : {first second : List ℕ} → Dec ((s : ℕ) × (s ≤ most_shift) × Agrees first second s) → Aligned
smallest {first} {second} (yes r) = shifted (least (Agrees first second) (agrees? first second) r.0 r.2).value
smallest (no n) = none

-- "Answers: 23, a capture has over 4,096 words."
unfoldable pub align_outcome : List ℕ → List ℕ → Aligned
align_outcome first second =
    cond (ltb most_words (length first) || ltb most_words (length second)) (refused 23) (smallest (some-agrees? first second))
