-- Definitions: truth tables as words of 64 bits, one bit for each choice of the leaves' values.
use Rattle.std.specs.Prelude.{◌≡◌, Bool, List, [], ◌∷◌, map, ℕ, ◌^◌, ◌<◌, take}
use Rattle.net_model.specs.Tables.{bit, apply}

-- w is the word of leaf j: bit i is the leaf's value in choice i, "leaf j being bit j".
abbrev pub LeafWord : ℕ → ℕ → Type 0
LeafWord j w = (i : ℕ) → i < 64 → bit w i ≡ bit i j

-- the words of the six leaves, as the program has them
abbrev pub leaf_table : List ℕ
leaf_table = 0xaaaaaaaaaaaaaaaa ∷ 0xcccccccccccccccc ∷ 0xf0f0f0f0f0f0f0f0 ∷ 0xff00ff00ff00ff00 ∷ 0xffff0000ffff0000 ∷ 0xffffffff00000000 ∷ []

-- the values of the first m words in choice i
abbrev pub values_at : List ℕ → ℕ → ℕ → List Bool
values_at words m i = map (λ (w : ℕ). bit w i) (take m words)

-- r is the table applied to the first m words, in each of n choices.
pub record Composed (table : ℕ) (words : List ℕ) (m n r : ℕ) : Type 0 where
  pub bits : (i : ℕ) → i < n → bit r i ≡ apply table (values_at words m i)
  pub small : r < 2 ^ n
