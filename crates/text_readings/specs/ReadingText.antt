-- Definitions: the reader's answer as a line.
use Rattle.std.specs.Prelude.{List, [], ◌∷◌, ◌++◌, ℕ, length}
use Rattle.net_model.specs.Net.{Net}
use Rattle.net_bytes.specs.Reading.{Result, got, refused}
use Rattle.cover_records.specs.Listing.{decimal, newline, refusal_text}

-- "read "
abbrev pub read_word : List ℕ
read_word = 114 ∷ 101 ∷ 97 ∷ 100 ∷ 32 ∷ []

abbrev pub gap : List ℕ
gap = 32 ∷ []

-- the numbers of inputs, gates and outputs
unfoldable pub sizes_text : ℕ → ℕ → ℕ → List ℕ
sizes_text inputs gates outputs = read_word ++ decimal inputs ++ gap ++ decimal gates ++ gap ++ decimal outputs ++ newline

-- what the reader gave
unfoldable pub reading_text : Result Net → List ℕ
unfolding sizes_text
reading_text (got N behind) = sizes_text N.inputs (length N.gates) (length N.outputs)
reading_text (refused n) = refusal_text n
