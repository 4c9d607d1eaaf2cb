-- Laws of words: the leaves' words by one test over their table, the word of ones by another, and a bit as a number.
use Rattle.std.specs.Prelude.{◌≡◌, refl, Bool, true, false, ℕ, zero, suc, ◌/◌, ◌%◌, ◌^◌, ◌<◌, T, eqb, get_or}
use Rattle.std.proofs.Common.{sym, subst, not-suc-le-zero, le_of_suc-le-suc, arith}
use Rattle.std.proofs.Math.Decide.{ℕ_discrete}
use Rattle.limits.specs.Limits.{most_pins}
use Rattle.net_model.specs.Tables.{bit, as_number}
use Rattle.cone_words.specs.LeafWords.{LeafWord, leaf_table}

-- ---- a test at each number below n

abbrev both : Bool → Bool → Bool
both true b = b
both false b = false

abbrev agree : Bool → Bool → Bool
agree true b = b
agree false true = false
agree false false = true

abbrev all_below : (ℕ → Bool) → ℕ → Bool
all_below f zero = true
all_below f (suc n) = both (f n) (all_below f n)

both-parts : (a b : Bool) → T (both a b) → T a × T b
both-parts true b t = (tt, t)
both-parts false b t = absurd t

agree_same : (a b : Bool) → T (agree a b) → a ≡ b
agree_same true true t = refl
agree_same true false t = absurd t
agree_same false true t = absurd t
agree_same false false t = refl

at-below : (f : ℕ → Bool) (n i : ℕ) → T (all_below f n) → i < n → T (f i)
at-below f zero i t h = absurd (not-suc-le-zero h)
at-below f (suc n) i t h = let p = both-parts (f n) (all_below f n) t in go p.0 (at-below f n i p.1) (ℕ_discrete i n)
  where
    go : T (f n) → (i < n → T (f i)) → Dec (i ≡ n) → T (f i)
    go p rest (yes e) = subst (λ (k : ℕ). T (f k)) (sym e) p
    go p rest (no m) = rest (omega arith)

-- One test over the whole table: bit i of word j is bit j of i.
leaf-test : T (all_below (λ j. all_below (λ i. agree (bit (get_or leaf_table j 0) i) (bit i j)) 64) most_pins)
leaf-test = tt

pub leaf-words : (j : ℕ) → j < most_pins → LeafWord j (get_or leaf_table j 0)
leaf-words j h i k =
    agree_same (bit (get_or leaf_table j 0) i) (bit i j)
    (at-below (λ b. agree (bit (get_or leaf_table j 0) b) (bit b j)) 64 i (at-below (λ a. all_below (λ b. agree (bit (get_or leaf_table a 0) b) (bit b a)) 64) most_pins j leaf-test h) k)

-- ---- a bit as a number

-- the word of ones
ones-test : T (all_below (λ i. agree (bit 0xffffffffffffffff i) true) 64)
ones-test = tt

pub ones-bits : (i : ℕ) → i < 64 → bit 0xffffffffffffffff i ≡ true
ones-bits i h = agree_same (bit 0xffffffffffffffff i) true (at-below (λ i. agree (bit 0xffffffffffffffff i) true) 64 i ones-test h)

pub bit-number : (w i : ℕ) → as_number (bit w i) ≡ w / 2 ^ i % 2
bit-number w i = go (w / 2 ^ i % 2) (omega arith)
  where
    go : (n : ℕ) → n < 2 → as_number (eqb n 1) ≡ n
    go zero h = refl
    go (suc zero) h = refl
    go (suc (suc n)) h = absurd (not-suc-le-zero (le_of_suc-le-suc (le_of_suc-le-suc h)))
