-- Definitions: the words that feed the leaves of a table in a turning, as the generator has them.
use Rattle.std.specs.Prelude.{cond, List, [], ◌∷◌, ℕ, ◌+◌, ◌-◌, ◌*◌, ◌/◌, get_or}
use Rattle.net_model.specs.Tables.{bit}

-- for each of the six orders the words of the leaves that feed leaf 0, 1 and 2: bit i is the leaf's value in choice i
abbrev pub order_words : List ℕ
order_words = 0xaa ∷ 0xcc ∷ 0xf0 ∷ 0xaa ∷ 0xf0 ∷ 0xcc ∷ 0xcc ∷ 0xaa ∷ 0xf0 ∷ 0xcc ∷ 0xf0 ∷ 0xaa ∷ 0xf0 ∷ 0xaa ∷ 0xcc ∷ 0xf0 ∷ 0xcc ∷ 0xaa ∷ []

abbrev pub order_word : ℕ → ℕ → ℕ
order_word n l = get_or order_words (n / 16 * 3 + l) 0

-- the word that reaches leaf l in turning n
unfoldable pub word_at : ℕ → ℕ → ℕ
word_at n l = cond (bit n (l + 1)) (255 - order_word n l) (order_word n l)
