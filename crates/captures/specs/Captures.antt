-- Definitions: two captures of one unit (document 02, E10): which words meet at a shift, and which shifts agree. A capture is its words in order.
use Rattle.std.specs.Prelude.{◌≡◌, List, ℕ, suc, ◌+◌, ◌≤◌, ◌<◌, length, get_or}
use Rattle.std.proofs.Math.Decide.{dec_lt}
use Rattle.sequences.specs.Decide.{up_to}
use Rattle.sequences.specs.Keep.{keep}

-- "Two analysers each record a unit's outputs, one 16-bit word per step, each begun at its own moment, up to 4,096 words."
abbrev pub most_words : ℕ
most_words = 4096

-- "the smallest shift of the second from 0 to 255"
abbrev pub most_shift : ℕ
most_shift = 255

-- what follows: the first number that is no shift, which stands for none where one number is the answer
abbrev pub no_shift : ℕ
no_shift = suc most_shift

-- "at which at least 16 steps overlap"
abbrev pub least_overlap : ℕ
least_overlap = 16

-- "Word i of the second is held against word i plus shift of the first." How many words of the second have such a word.
unfoldable pub overlap : List ℕ → List ℕ → ℕ → ℕ
overlap first second s = length (keep (λ i. dec_lt (i + s) (length first)) (up_to (length second)))

-- "at least 16 steps overlap and all overlapping words agree"
pub record Agrees (first second : List ℕ) (s : ℕ) : Type 0 where
  pub enough : least_overlap ≤ overlap first second s
  pub same : (i : ℕ) → i < length second → i + s < length first → get_or second i 0 ≡ get_or first (i + s) 0
