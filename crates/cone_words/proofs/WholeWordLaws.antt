-- Laws of tables composed by whole words: bits of the operations on words, and the halving pin by pin.
use Rattle.std.specs.Prelude.{◌≡◌, refl, Bool, true, false, cond, List, [], ◌∷◌, ℕ, zero, suc, ◌+◌, ◌-◌, ◌*◌, ◌/◌, ◌%◌, ◌^◌, ◌≤◌, ◌<◌, eqb, length, get_or, set}
use Rattle.std.proofs.Common.{sym, ap, ap₂, subst, ◌∙◌, not-suc-le-zero, le_of_suc-le-suc, pow-suc, mul_assoc, mul_comm, arith, length-set, get_or-set_same, get_or-set_other}
use Rattle.std.proofs.Math.Decide.{ℕ_discrete}
use Rattle.std.proofs.Math.Nat.{zero-div, pow-le-pow_right}
use Rattle.std.specs.Int.Bits.{bit_and, bit_xor}
use Rattle.std.proofs.lemmas.Nat.{and_mask, and_shr, and_mod, xor_shr, xor_mod}
use Rattle.limits.specs.Limits.{most_pins}
use Rattle.net_model.specs.Tables.{bit, as_number, index}
use Rattle.cone_values.specs.Words.{bit_mod, pack-low, pack-small}
use Rattle.cone_words.specs.LeafWords.{values_at, Composed}
use Rattle.cone_words.proofs.LeafWordLaws.{ones-bits}
use Rattle.cone_words.specs.WholeWords.{Muxed, Repeated, Spread, Folded, Halved, Halving, masks}

-- ---- bits of an operation that works digit by digit
module _ (op : ℕ → ℕ → ℕ) (f : Bool → Bool → Bool) (shr : (a b k : ℕ) → op a b / 2 ^ k ≡ op (a / 2 ^ k) (b / 2 ^ k)) (low : (a b k : ℕ) → op a b % 2 ^ k ≡ op (a % 2 ^ k) (b % 2 ^ k))
    (none : eqb (op 0 0) 1 ≡ f false false) (right : eqb (op 0 1) 1 ≡ f false true) (left : eqb (op 1 0) 1 ≡ f true false) (both : eqb (op 1 1) 1 ≡ f true true) where
  digits : (p q : ℕ) → p < 2 → q < 2 → eqb (op p q) 1 ≡ f (eqb p 1) (eqb q 1)
  digits zero zero h k = none
  digits zero (suc zero) h k = right
  digits (suc zero) zero h k = left
  digits (suc zero) (suc zero) h k = both
  digits zero (suc (suc q)) h k = absurd (not-suc-le-zero (le_of_suc-le-suc (le_of_suc-le-suc k)))
  digits (suc zero) (suc (suc q)) h k = absurd (not-suc-le-zero (le_of_suc-le-suc (le_of_suc-le-suc k)))
  digits (suc (suc p)) q h k = absurd (not-suc-le-zero (le_of_suc-le-suc (le_of_suc-le-suc h)))

  digitwise : (a b x : ℕ) → bit (op a b) x ≡ f (bit a x) (bit b x)
  digitwise a b x =
      ap (λ (n : ℕ). eqb (n % 2) 1) (shr a b x)
      ∙ (ap (λ (n : ℕ). eqb n 1) (low (a / 2 ^ x) (b / 2 ^ x) 1) ∙ digits (a / 2 ^ x % 2) (b / 2 ^ x % 2) (omega arith) (omega arith))

abbrev and : Bool → Bool → Bool
and a b = cond a b false

abbrev xor : Bool → Bool → Bool
xor a b = cond a (cond b false true) b

and-bit : (a b x : ℕ) → bit (bit_and a b) x ≡ and (bit a x) (bit b x)
and-bit = digitwise bit_and and and_shr and_mod refl refl refl refl

xor-bit : (a b x : ℕ) → bit (bit_xor a b) x ≡ xor (bit a x) (bit b x)
xor-bit = digitwise bit_xor xor xor_shr xor_mod refl refl refl refl

chosen : (s a b : Bool) → xor b (and (xor a b) s) ≡ cond s a b
chosen true true true = refl
chosen true true false = refl
chosen true false true = refl
chosen true false false = refl
chosen false true true = refl
chosen false true false = refl
chosen false false true = refl
chosen false false false = refl

-- **b ^ ((a ^ b) & s) has a's bits where s has a 1, else b's**
pub mux_bits : (s a b : ℕ) → Muxed s a b (bit_xor b (bit_and (bit_xor a b) s))
mux_bits s a b x =
    xor-bit b (bit_and (bit_xor a b) s) x
    ∙ (ap (xor (bit b x)) (and-bit (bit_xor a b) s x ∙ ap (λ (c : Bool). and c (bit s x)) (xor-bit a b x)) ∙ chosen (bit s x) (bit a x) (bit b x))

-- ---- a bit 64 times
pub repeated-one : (table i : ℕ) → as_number (bit table i) ≡ 1 → Repeated table i 0xffffffffffffffff
repeated-one table i e x h = ones-bits x h ∙ sym (go (bit table i) e)
  where
    go : (b : Bool) → as_number b ≡ 1 → b ≡ true
    go true q = refl
    go false q = absurd (omega (arith, q))

pub repeated-zero : (table i : ℕ) → ¬ (as_number (bit table i) ≡ 1) → Repeated table i 0
repeated-zero table i e x h = let z : 0 / 2 ^ x % 2 ≡ 0 = ap (λ (n : ℕ). n % 2) (zero-div (2 ^ x)) in ap (λ (n : ℕ). eqb n 1) z ∙ sym (go (bit table i) e)
  where
    go : (b : Bool) → ¬ (as_number b ≡ 1) → b ≡ false
    go true q = absurd (q refl)
    go false q = refl

pub spread_none : (table : ℕ) (ws : List ℕ) → Spread table ws 0
spread_none table ws = record { each = λ i h. absurd (not-suc-le-zero h) }

pub spread_more : {table : ℕ} {ws : List ℕ} {n : ℕ} (w : ℕ) → Spread table ws n → n < length ws → Repeated table n w → Spread table (set ws n w) (n + 1)
spread_more {table} {ws} {n} w s room r = record { each = λ i h. go i h (ℕ_discrete i n) }
  where
    go : (i : ℕ) → i < n + 1 → Dec (i ≡ n) → Repeated table i (get_or (set ws n w) i 0)
    go i h (yes e) x k =
        ap (λ (z : ℕ). bit z x) (ap (λ (j : ℕ). get_or (set ws n w) j 0) e ∙ get_or-set_same ws n w 0 room) ∙ (r x k ∙ ap (bit table) (sym e))
    go i h (no e) x k = ap (λ (z : ℕ). bit z x) (get_or-set_other ws n i w 0 e) ∙ s.each i (omega (arith, h, e)) x k

-- ---- halving in place
pub halving_none : (s : ℕ) (ws : List ℕ) → Halving s ws ws 0
halving_none s ws = record { done = record { each = λ i h. absurd (not-suc-le-zero h) }; rest = λ k h. refl; size = refl }

pub halving_more : {s : ℕ} {ws ws' : List ℕ} {i : ℕ} (w : ℕ) → Halving s ws ws' i → i < length ws → Muxed s (get_or ws' (2 * i + 1) 0) (get_or ws' (2 * i) 0) w → Halving s ws (set ws' i w) (i + 1)
halving_more {s} {ws} {ws'} {i} w g room m = record {
  done = record { each = λ k h. go k h (ℕ_discrete k i) };
  rest = λ k h. get_or-set_other ws' i k w 0 (λ q. omega (arith, q, h)) ∙ g.rest k (omega (arith, h));
  size = length-set ws' i w ∙ g.size;
}
  where
    go : (k : ℕ) → k < i + 1 → Dec (k ≡ i) → Muxed s (get_or ws (2 * k + 1) 0) (get_or ws (2 * k) 0) (get_or (set ws' i w) k 0)
    go k h (yes e) x =
        ap (λ (z : ℕ). bit z x) (ap (λ (j : ℕ). get_or (set ws' i w) j 0) e ∙ get_or-set_same ws' i w 0 (omega (arith, room, g.size)))
        ∙ (m x ∙ ap₂ (cond (bit s x)) (ap (λ (z : ℕ). bit z x) (g.rest (2 * i + 1) (omega arith) ∙ ap (λ (j : ℕ). get_or ws (2 * j + 1) 0) (sym e)))
        (ap (λ (z : ℕ). bit z x) (g.rest (2 * i) (omega arith) ∙ ap (λ (j : ℕ). get_or ws (2 * j) 0) (sym e))))
    go k h (no e) x = ap (λ (z : ℕ). bit z x) (get_or-set_other ws' i k w 0 e) ∙ g.done.each k (omega (arith, h, e)) x

-- ---- pin by pin
-- one word more makes one bit more of the index
index-more : (words : List ℕ) (j x : ℕ) → j < length words → index (values_at words (suc j) x) ≡ index (values_at words j x) + 2 ^ j * as_number (bit (get_or words j 0) x)
index-more [] j x h = absurd (not-suc-le-zero h)
index-more (w ∷ words) zero x h = omega arith
index-more (w ∷ words) (suc j) x h =
    let e = index-more words j x (le_of_suc-le-suc h) in
    let b = as_number (bit (get_or words j 0) x) in
    let p : 2 ^ suc j * b ≡ 2 * (2 ^ j * b) = ap (λ (n : ℕ). n * b) (pow-suc 2 j ∙ mul_comm (2 ^ j) 2) ∙ mul_assoc 2 (2 ^ j) b in
    omega (arith, e, p)

pub fold_start : {table : ℕ} (words : List ℕ) {n : ℕ} {ws : List ℕ} → Spread table ws n → Folded table words 0 n ws
fold_start {table} words s = record { each = λ i h x k. s.each i h x k ∙ ap (bit table) (omega arith) }

pub fold_step : {table : ℕ} {words : List ℕ} {j n : ℕ} {ws ws' : List ℕ} → j < length words → Folded table words j (2 * n) ws → Halved (get_or words j 0) n ws ws' → Folded table words (suc j) n ws'
fold_step {table} {words} {j} {n} {ws} {ws'} b f g = record { each = at }
  where
    at : (i : ℕ) → i < n → (x : ℕ) → x < 64 → bit (get_or ws' i 0) x ≡ bit table (index (values_at words (suc j) x) + 2 ^ suc j * i)
    at i h x k = g.each i h x ∙ go (bit (get_or words j 0) x) (index-more words j x b)
      where
        e : 2 ^ suc j * i ≡ 2 * (2 ^ j * i)
        e = ap (λ (m : ℕ). m * i) (pow-suc 2 j ∙ mul_comm (2 ^ j) 2) ∙ mul_assoc 2 (2 ^ j) i

        odd : 2 ^ j * (2 * i + 1) ≡ 2 * (2 ^ j * i) + 2 ^ j
        odd = omega arith

        even : 2 ^ j * (2 * i) ≡ 2 * (2 ^ j * i)
        even = omega arith

        go : (c : Bool) → index (values_at words (suc j) x) ≡ index (values_at words j x) + 2 ^ j * as_number c
            → cond c (bit (get_or ws (2 * i + 1) 0) x) (bit (get_or ws (2 * i) 0) x) ≡ bit table (index (values_at words (suc j) x) + 2 ^ suc j * i)
        go true q = f.each (2 * i + 1) (omega (arith, h)) x k ∙ ap (bit table) (omega (arith, q, e, odd))
        go false q = f.each (2 * i) (omega (arith, h)) x k ∙ ap (bit table) (omega (arith, q, e, even))

pub fold_end : {table : ℕ} {words : List ℕ} {m : ℕ} {ws : List ℕ} {r : ℕ} → Folded table words m 1 ws → r ≡ get_or ws 0 0 → r < 2 ^ 64 → Composed table words m 64 r
fold_end {table} {words} {m} {ws} {r} f e h = record {
  bits = λ i k. ap (λ (z : ℕ). bit z i) e ∙ (f.each 0 (omega arith) i k ∙ ap (bit table) (omega arith));
  small = h;
}

-- ---- the number of words left
pub few_choices : (m : ℕ) → m ≤ most_pins → 2 ^ m ≤ 64
few_choices m h = pow-le-pow_right {n = 2} (omega arith) h

pub one_shifted : (m : ℕ) → m ≤ most_pins → 1 * 2 ^ m % 2 ^ 64 ≡ 2 ^ m
one_shifted m h = let a = few_choices m h in omega arith

pub half-left : (m j : ℕ) → j < m → 2 ^ (m - j) ≡ 2 * 2 ^ (m - suc j)
half-left m j h = let e : m - j ≡ suc (m - suc j) = omega (arith, h) in ap (λ (k : ℕ). 2 ^ k) e ∙ (pow-suc 2 (m - suc j) ∙ mul_comm (2 ^ (m - suc j)) 2)

-- ---- the lowest bits of a word
pub composed_low : {table : ℕ} {words : List ℕ} {m r : ℕ} (n : ℕ) → n ≤ 64 → Composed table words m 64 r → Composed table words m n (r % 2 ^ n)
composed_low {table} {words} {m} {r} n h c = record {
  bits = λ i k. bit_mod n r i k ∙ c.bits i (omega (arith, h, k));
  small = subst (λ (w : ℕ). w < 2 ^ n) (pack-low n r) (pack-small (bit r) n);
}

-- each mask has ones at its lowest places: a test at each of them
mask_test : (n : ℕ) → n < suc most_pins → get_or masks n 0 ≡ 2 ^ (2 ^ n) - 1
mask_test zero h = refl
mask_test (suc zero) h = refl
mask_test (suc (suc zero)) h = refl
mask_test (suc (suc (suc zero))) h = refl
mask_test (suc (suc (suc (suc zero)))) h = refl
mask_test (suc (suc (suc (suc (suc zero))))) h = refl
mask_test (suc (suc (suc (suc (suc (suc zero)))))) h = refl
mask_test (suc (suc (suc (suc (suc (suc (suc n))))))) h = absurd (omega (arith, h))

pub masked : (word n : ℕ) → n ≤ most_pins → bit_and word (get_or masks n 0) ≡ word % 2 ^ (2 ^ n)
masked word n h = ap (bit_and word) (mask_test n (omega (arith, h))) ∙ and_mask word (2 ^ n)
