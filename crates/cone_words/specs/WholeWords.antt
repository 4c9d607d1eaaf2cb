-- Definitions: a table composed by whole words, pin by pin. At first there is a word for each bit of the table, 64 times that bit; each pin then halves their number, its word choosing between neighbours.
use Rattle.std.specs.Prelude.{◌≡◌, cond, List, [], ◌∷◌, ℕ, ◌+◌, ◌*◌, ◌^◌, ◌≤◌, ◌<◌, length, get_or}
use Rattle.net_model.specs.Tables.{bit, index}
use Rattle.cone_words.specs.LeafWords.{values_at}

-- r has a's bit where s has a 1, else b's
abbrev pub Muxed : ℕ → ℕ → ℕ → ℕ → Type 0
Muxed s a b r = (x : ℕ) → bit r x ≡ cond (bit s x) (bit a x) (bit b x)

-- each bit of r is bit i of the table
abbrev pub Repeated : ℕ → ℕ → ℕ → Type 0
Repeated table i r = (x : ℕ) → x < 64 → bit r x ≡ bit table i

-- the first n words are the bits of the table, each 64 times
pub record Spread (table : ℕ) (ws : List ℕ) (n : ℕ) : Type 0 where
  pub each : (i : ℕ) → i < n → Repeated table i (get_or ws i 0)

-- After j pins word i is the table's value where the first j pins have their words' values and the others make i.
pub record Folded (table : ℕ) (words : List ℕ) (j n : ℕ) (ws : List ℕ) : Type 0 where
  pub each : (i : ℕ) → i < n → (x : ℕ) → x < 64 → bit (get_or ws i 0) x ≡ bit table (index (values_at words j x) + 2 ^ j * i)

-- each of the first n words chosen by s from two neighbours
pub record Halved (s n : ℕ) (ws ws' : List ℕ) : Type 0 where
  pub each : (i : ℕ) → i < n → Muxed s (get_or ws (2 * i + 1) 0) (get_or ws (2 * i) 0) (get_or ws' i 0)

-- the same for the first i of them, the words behind as they were
pub record Halving (s : ℕ) (ws ws' : List ℕ) (i : ℕ) : Type 0 where
  pub done : Halved s i ws ws'
  pub rest : (k : ℕ) → i ≤ k → get_or ws' k 0 ≡ get_or ws k 0
  pub size : length ws' ≡ length ws

-- the lowest 2^n bits, for n up to six, as the program has them
abbrev pub masks : List ℕ
masks = 0x1 ∷ 0x3 ∷ 0xf ∷ 0xff ∷ 0xffff ∷ 0xffffffff ∷ 0xffffffffffffffff ∷ []
