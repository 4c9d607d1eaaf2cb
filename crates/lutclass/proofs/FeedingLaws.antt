-- The words that feed the leaves, by one test over all turnings; the table that they compose is the turned one.
use Rattle.std.specs.Prelude.{◌≡◌, refl, Bool, true, false, not, [], ◌∷◌, ℕ, zero, suc, ◌+◌, ◌-◌, ◌*◌, ◌/◌, ◌^◌, ◌≤◌, ◌<◌, T, get_or}
use Rattle.std.proofs.Common.{sym, ◌∙◌, pow-suc, arith}
use Rattle.std.proofs.Math.Bool.{Bool-discrete}
use Rattle.std.proofs.Math.Decide.{dec_le}
use Rattle.sequences.specs.Decide.{dec-×, below?, below_step}
use Rattle.net_model.specs.Tables.{bit, as_number, pack}
use Rattle.cone_values.specs.Words.{pack-same, pack-bits}
use Rattle.cone_words.specs.LeafWords.{Composed}
use Rattle.lutclass.specs.Classes.{LutLeaf, leaf0, leaf1, leaf2, choice, value_for, reaching, turn}
use Rattle.lutclass.specs.Turnings.{orders, turning_at}
use Rattle.lutclass.specs.TurningLaws.{value_same}
use Rattle.lutclass.specs.Feeding.{order_words, order_word, word_at}

abbrev place : LutLeaf → ℕ
place leaf0 = 0
place leaf1 = 1
place leaf2 = 2

-- ---- the words

is_yes : {X : Type 0} → Dec X → Bool
is_yes (yes x) = true
is_yes (no n) = false

given : {X : Type 0} (d : Dec X) → T (is_yes d) → X
unfolding is_yes
given (yes x) t = x
given (no n) t = absurd t

abbrev Reaches : ℕ → LutLeaf → Type 0
Reaches n l = (i : ℕ) → i < 8 → bit (word_at n (place l)) i ≡ reaching (turning_at n) (choice i) l

reaches? : (n : ℕ) (l : LutLeaf) → Dec (Reaches n l)
reaches? n l = below? 8 (λ i h. Bool-discrete (bit (word_at n (place l)) i) (reaching (turning_at n) (choice i) l))

all-reach? : Dec ((n : ℕ) → n < 96 → Reaches n leaf0 × (Reaches n leaf1 × Reaches n leaf2))
all-reach? = below? 96 (λ n h. dec-× (reaches? n leaf0) (dec-× (reaches? n leaf1) (reaches? n leaf2)))

-- one test over all turnings: the word of leaf l is that of the values that reach it
word_test : T (is_yes all-reach?)
unfolding is_yes all-reach? reaches? below? below_step dec-× word_at turning_at orders
word_test = tt

word_reaches : (n : ℕ) → n < 96 → (l : LutLeaf) → Reaches n l
word_reaches n h leaf0 = (given all-reach? word_test n h).0
word_reaches n h leaf1 = (given all-reach? word_test n h).1.0
word_reaches n h leaf2 = (given all-reach? word_test n h).1.1

-- an order's word is a byte
bytes? : Dec ((i : ℕ) → i < 18 → get_or order_words i 0 ≤ 255)
bytes? = below? 18 (λ i h. dec_le (get_or order_words i 0) 255)

bytes-test : T (is_yes bytes?)
unfolding is_yes bytes? below? below_step dec_le
bytes-test = tt

pub order_small : (n l : ℕ) → n < 96 → l < 3 → order_word n l ≤ 255
order_small n l h k = given bytes? bytes-test (n / 16 * 3 + l) (omega arith)

-- ---- the table that they compose

-- the inverted values
pack-not : (g : ℕ → Bool) (n : ℕ) → suc (pack g n + pack (λ i. not (g i)) n) ≡ 2 ^ n
unfolding pack
pack-not g zero = refl
pack-not g (suc n) =
    let a = pack-not (λ i. g (suc i)) n in
    let b = go (g 0) in
    let p = pow-suc 2 n in
    omega arith
  where
    go : (b : Bool) → as_number b + as_number (not b) ≡ 1
    go true = refl
    go false = refl

module _ (f n w : ℕ) (h : n < 96) (made : Composed f (word_at n 0 ∷ word_at n 1 ∷ word_at n 2 ∷ 0 ∷ 0 ∷ 0 ∷ []) 3 8 w) where
  abbrev values : ℕ → Bool
  values i = value_for f (reaching (turning_at n) (choice i))

  made-pack : w ≡ pack values 8
  made-pack =
      sym (pack-bits 8 w made.small)
      ∙ pack-same (bit w) values 8 (λ i k. made.bits i k ∙ value_same f (λ l. bit (word_at n (place l)) i) (reaching (turning_at n) (choice i)) (λ l. word_reaches n h l i k))

  -- **The composed table is the turned one: inverted where the output is, else as it is.**
  pub made_inverted : bit n 0 ≡ true → 255 - w ≡ turn (turning_at n) f
  unfolding turn turning_at
  made_inverted e = let p = pack-not values 8 in let q = made-pack in rw e (omega arith)

  pub made_as_is : bit n 0 ≡ false → w ≡ turn (turning_at n) f
  unfolding turn turning_at
  made_as_is e = rw e made-pack
