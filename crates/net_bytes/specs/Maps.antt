-- Laws of maps and of numbers made of bytes.
use Rattle.std.specs.Prelude.{◌≡◌, refl, ◌⊎◌, Bool, true, false, cond, not, ◌||◌, ◌&&◌, List, [], ◌∷◌, ℕ, zero, suc, ◌+◌, ◌-◌, ◌*◌, ◌/◌, ◌%◌, ◌^◌, min, ◌≤◌, ◌<◌, leb, ltb, eqb, length}
use Rattle.std.proofs.Common.{sym, ap, ap₂, ◌∙◌, inl, inr, zero-add, not-suc-le-zero, mod-lt, pow-suc, div-one, div-add-mod', eq-zero-or-pos, add-one, one-add, arith, lit<, shr_lt, pow-add, pow_mono, ltb-true, ltb-false, eq-eqb, ne_eqb, eqb-true}
use Rattle.std.proofs.Math.Nat.{div-div-eq-div-mul, pow-succ'}
use Rattle.std.proofs.Math.Arith.{lt-one}
use Rattle.std.specs.Int.Bits.{bit_and, and_step, and_zero_l}
use Rattle.std.proofs.lemmas.Nat.{and_le_l}
use Rattle.std.specs.Int.Count.{ones, ones_in, ones_step}
use Rattle.std.proofs.lemmas.Bool.{eqb-false}
use Rattle.sequences.specs.Member.{◌∈◌, here, there}
use Rattle.net_model.specs.Net.{Pin}
use Rattle.net_model.specs.Tables.{bit}
use Rattle.net_bytes.specs.Walk.{pins_from, first, rest, from_bytes, table_bytes, table_byte, only_bits}
use Rattle.net_bytes.specs.Readers.{Each, each_nil, each_cons}

-- the ones of a number of d digits
pub ones_in_lem : (d n : ℕ) → n < 2 ^ d → ones n ≡ ones_in d n
unfolding ones ones_in
ones_in_lem zero n h = ap ones (lt-one h)
ones_in_lem (suc d) n h =
    ones_step n ∙ ap (λ (x : ℕ). n % 2 + x) (ones_in_lem d (n / 2) (shr_lt d 1 (rw add-one h)))

-- a number that is not 0 has a digit that is set
pub some_one : (d n : ℕ) → n < 2 ^ d → 1 ≤ n → 1 ≤ ones_in d n
unfolding ones_in
some_one zero n h p = absurd (omega (arith, lt-one h))
some_one (suc d) n h p = go (some_one d (n / 2) (shr_lt d 1 (rw add-one h))) (eq-zero-or-pos (n / 2))
  where
    go : (1 ≤ n / 2 → 1 ≤ ones_in d (n / 2)) → (n / 2 ≡ 0) ⊎ (0 < n / 2) → 1 ≤ n % 2 + ones_in d (n / 2)
    go more (inl z) = omega arith
    go more (inr q) = omega (arith, more q)

pub half_pow : (p j : ℕ) → p / 2 ^ j / 2 ≡ p / 2 ^ suc j
half_pow p j = div-div-eq-div-mul p (2 ^ j) 2 ∙ ap (λ (x : ℕ). p / x) (sym (pow-suc 2 j))

-- as many pins as the map has ones among the n places from place j on
pub length-pins_from : (n j p r : ℕ) (s c : List ℕ) → length (pins_from n j p r s c) ≡ ones_in n (p / 2 ^ j)
unfolding pins_from ones_in
length-pins_from zero j p r s c = refl
length-pins_from (suc n) j p r s c =
    go (p / 2 ^ j % 2) (mod-lt (p / 2 ^ j) (lit< tt)) (length-pins_from n (suc j) p r)
    ∙ ap (λ (x : ℕ). p / 2 ^ j % 2 + ones_in n x) (sym (half_pow p j))
  where
    registered : (b : Bool) → ((s c : List ℕ) → length (pins_from n (suc j) p r s c) ≡ ones_in n (p / 2 ^ suc j))
        → length (cond b (record { src = first s; count = first c } ∷ pins_from n (suc j) p r (rest s) (rest c))
        (record { src = first s; count = 0 } ∷ pins_from n (suc j) p r (rest s) c)) ≡ 1 + ones_in n (p / 2 ^ suc j)
    registered true more = ap suc (more (rest s) (rest c)) ∙ sym (one-add (ones_in n (p / 2 ^ suc j)))
    registered false more = ap suc (more (rest s) c) ∙ sym (one-add (ones_in n (p / 2 ^ suc j)))

    go : (x : ℕ) → x < 2 → ((s c : List ℕ) → length (pins_from n (suc j) p r s c) ≡ ones_in n (p / 2 ^ suc j))
        → length (cond (eqb x 1) (cond (bit r j) (record { src = first s; count = first c } ∷ pins_from n (suc j) p r (rest s) (rest c))
        (record { src = first s; count = 0 } ∷ pins_from n (suc j) p r (rest s) c)) (pins_from n (suc j) p r s c)) ≡ x + ones_in n (p / 2 ^ suc j)
    go zero h more = more s c ∙ sym (zero-add (ones_in n (p / 2 ^ suc j)))
    go (suc zero) h more = registered (bit r j) more
    go (suc (suc x)) h more = absurd (omega arith)

pub first-each : (P : ℕ → Type 0) (l : List ℕ) → P 0 → Each P l → P (first l)
first-each P [] z e = z
first-each P (a ∷ l) z e = e a (here refl)

pub rest-each : (P : ℕ → Type 0) (l : List ℕ) → Each P l → Each P (rest l)
rest-each P [] e = e
rest-each P (a ∷ l) e = λ b h. e b (there h)

-- what holds of each source holds of each pin's, and the same for counts
pub each-pins_from : (P Q : ℕ → Type 0) → P 0 → Q 0 → (n j p r : ℕ) (s c : List ℕ) → Each P s → Each Q c
    → Each (λ (q : Pin). P q.src × Q q.count) (pins_from n j p r s c)
unfolding pins_from
each-pins_from P Q p0 q0 zero j p r s c ps qs = each_nil (λ (q : Pin). P q.src × Q q.count)
each-pins_from P Q p0 q0 (suc n) j p r s c ps qs = go (bit p j) (bit r j) (each-pins_from P Q p0 q0 n (suc j) p r)
  where
    PQ : Pin → Type 0
    PQ q = P q.src × Q q.count

    go : (a b : Bool) → ((s c : List ℕ) → Each P s → Each Q c → Each (λ (q : Pin). P q.src × Q q.count) (pins_from n (suc j) p r s c))
        → Each (λ (q : Pin). P q.src × Q q.count)
        (cond a (cond b (record { src = first s; count = first c } ∷ pins_from n (suc j) p r (rest s) (rest c))
        (record { src = first s; count = 0 } ∷ pins_from n (suc j) p r (rest s) c)) (pins_from n (suc j) p r s c))
    go true true more =
        each_cons (λ (q : Pin). P q.src × Q q.count) (first-each P s p0 ps, first-each Q c q0 qs)
        (more (rest s) (rest c) (rest-each P s ps) (rest-each Q c qs))
    go true false more =
        each_cons (λ (q : Pin). P q.src × Q q.count) (first-each P s p0 ps, q0)
        (more (rest s) c (rest-each P s ps) qs)
    go false b more = more s c ps qs

-- n bytes make a number below 256 ^ n
pub from_bytes_lt : (n : ℕ) (l : List ℕ) → Each (λ (b : ℕ). b < 256) l → length l ≤ n → from_bytes l < 256 ^ n
unfolding from_bytes
from_bytes_lt zero [] e h = lit< tt
from_bytes_lt (suc n) [] e h = omega (arith, pow-suc 256 n, from_bytes_lt n [] e (omega arith))
from_bytes_lt zero (b ∷ l) e h = absurd (not-suc-le-zero h)
from_bytes_lt (suc n) (b ∷ l) e h =
    omega (arith, pow-suc 256 n, e b (here refl), from_bytes_lt n l (λ c m. e c (there m)) (omega arith))

one_byte : (n : ℕ) (l : List ℕ) → length l ≡ 1 → Each (λ (b : ℕ). b < n) l → from_bytes l < n
unfolding from_bytes
one_byte n [] h e = absurd (omega arith)
one_byte n (b ∷ []) h e = omega (arith, e b (here refl))
one_byte n (b ∷ (c ∷ l)) h e = absurd (omega arith)

-- 8 bits a byte
pub pow_bytes : (q : ℕ) → 2 ^ (8 * q) ≡ 256 ^ q
pow_bytes zero = refl
pow_bytes (suc q) = ap (λ (n : ℕ). 2 ^ n) (omega arith) ∙ pow-add 2 (8 * q) 8 ∙ ap (λ (n : ℕ). n * 256) (pow_bytes q) ∙ sym (pow-suc 256 q)

-- the bits of up to three pins fit one byte; those of three or more fill their bytes
pub one-table-byte : (m : ℕ) → m ≤ 3 → 1 ≡ table_bytes m
one-table-byte m h = omega (arith, pow_mono {i = m} {j = 3} h, pow_mono {i = 0} {j = m} (omega arith))

full-table-bytes : (m : ℕ) → 3 ≤ m → 2 ^ m ≡ 8 * table_bytes m
full-table-bytes m h =
    let split : 2 ^ m ≡ 8 * 2 ^ (m - 3) = ap (λ (n : ℕ). 2 ^ n) (omega arith) ∙ pow-add 2 3 (m - 3) in
    omega arith

-- "With m pins the table has 2^m bits": what the bytes of a table allow
pub table_lt : (m : ℕ) (l : List ℕ) → length l ≡ table_bytes m → Each (λ (b : ℕ). table_byte m b ≡ true) l → from_bytes l < 2 ^ (2 ^ m)
table_lt m l n e = go (ltb m 3) refl e
  where
    go : (t : Bool) → ltb m 3 ≡ t → Each (λ (b : ℕ). ltb b (cond t (2 ^ (2 ^ m)) 256) ≡ true) l → from_bytes l < 2 ^ (2 ^ m)
    go true q e = one_byte (2 ^ (2 ^ m)) l (n ∙ sym (one-table-byte m (omega (arith, ltb-true m 3 q)))) (λ b i. ltb-true b (2 ^ (2 ^ m)) (e b i))
    go false q e =
        rw (full-table-bytes m (ltb-false m 3 q), pow_bytes (table_bytes m)) (from_bytes_lt (table_bytes m) l (λ b i. ltb-true b 256 (e b i)) (omega (arith, n)))

bit-half : (r n : ℕ) → bit r (suc n) ≡ bit (r / 2) n
bit-half r n = ap (λ (x : ℕ). eqb (x % 2) 1) (ap (λ (x : ℕ). r / x) (pow-succ' 2 n) ∙ sym (div-div-eq-div-mul r 2 (2 ^ n)))

and-swap : (a b c : Bool) → a && (b && c) ≡ b && (a && c)
and-swap true b c = refl
and-swap false true c = refl
and-swap false false c = refl

-- only bits of the map: the lowest, and the others
only-low : (n p r : ℕ) → only_bits (suc n) p r ≡ (not (bit r 0) || bit p 0) && only_bits n (p / 2) (r / 2)
only-low zero p r = refl
only-low (suc n) p r =
    ap₂ (λ (x y : Bool). x && y) (ap₂ (λ (x y : Bool). not x || y) (bit-half r n) (bit-half p n)) (only-low n p r)
    ∙ and-swap (not (bit (r / 2) n) || bit (p / 2) n) (not (bit r 0) || bit p 0) (only_bits n (p / 2) (r / 2))

eqb_same : (a b c d : ℕ) → (a ≡ b → c ≡ d) → (c ≡ d → a ≡ b) → eqb a b ≡ eqb c d
eqb_same a b c d f g = go (eqb a b) refl
  where
    go : (t : Bool) → eqb a b ≡ t → t ≡ eqb c d
    go true e = sym (eq-eqb c d (f (eqb-true a b e)))
    go false e = sym (ne_eqb c d (λ h. eqb-false a b e (g h)))

low_digit : (x y a h : ℕ) → x < 2 → y < 2 → a ≤ h → (not (eqb x 1) || eqb y 1) && eqb a h ≡ eqb (a * 2 + min x y) (h * 2 + x)
low_digit zero zero a h p q l = eqb_same a h (a * 2 + 0) (h * 2 + 0) (λ e. omega arith) (λ e. omega arith)
low_digit zero (suc zero) a h p q l = eqb_same a h (a * 2 + 0) (h * 2 + 0) (λ e. omega arith) (λ e. omega arith)
low_digit (suc zero) zero a h p q l = sym (ne_eqb (a * 2 + 0) (h * 2 + 1) (λ e. omega arith))
low_digit (suc zero) (suc zero) a h p q l = eqb_same a h (a * 2 + 1) (h * 2 + 1) (λ e. omega arith) (λ e. omega arith)
low_digit zero (suc (suc y)) a h p q l = absurd (omega arith)
low_digit (suc zero) (suc (suc y)) a h p q l = absurd (omega arith)
low_digit (suc (suc x)) y a h p q l = absurd (omega arith)

-- r has only bits of p where the mask p keeps it
pub only_mask : (n p r : ℕ) → r < 2 ^ n → only_bits n p r ≡ eqb (bit_and r p) r
only_mask zero p r h = sym (eq-eqb (bit_and r p) r (rw (lt-one h) (and_zero_l p)))
only_mask (suc n) p r h =
    only-low n p r
    ∙ ap₂ (λ (x y : ℕ). (not (eqb (x % 2) 1) || eqb (y % 2) 1) && only_bits n (p / 2) (r / 2)) (div-one r) (div-one p)
    ∙ ap (λ (t : Bool). (not (eqb (r % 2) 1) || eqb (p % 2) 1) && t) (only_mask n (p / 2) (r / 2) (shr_lt n 1 (rw add-one h)))
    ∙ low_digit (r % 2) (p % 2) (bit_and (r / 2) (p / 2)) (r / 2) (mod-lt r (lit< tt)) (mod-lt p (lit< tt)) (and_le_l (r / 2) (p / 2))
    ∙ ap₂ eqb (sym (and_step r p)) (div-add-mod' r 2)
