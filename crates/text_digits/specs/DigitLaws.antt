-- Numbers as text: the last digit stands behind the others.
use Rattle.std.specs.Prelude.{◌≡◌, refl, Bool, true, false, cond, List, [], ◌∷◌, ◌++◌, ℕ, zero, suc, ◌+◌, ◌-◌, ◌*◌, ◌/◌, ◌%◌, ◌^◌, ◌≤◌, ◌<◌, ltb, ℤ, pos, negsuc, nat_abs, ◌-ℤ◌, length, ◌≤ℤ◌, ◌<ℤ◌}
use Rattle.std.proofs.Common.{sym, ap, ◌∙◌, append_assoc, pow-suc, arith, lt-ltb, le-ltb}
use Rattle.std.proofs.Math.Nat.{div-div-eq-div-mul}
use Rattle.integers.specs.Parts.{ints, sub_parts}
use Rattle.cover_records.specs.Listing.{digits_low, reversed, digit, digit_text, decimal, signed, hex_low, table_text}
use Rattle.signed.specs.Range.{Small, room}
use Rattle.text_digits.specs.Put.{hex_text}

-- ---- the text of digits

text_append : (a b : List ℕ) → digit_text (a ++ b) ≡ digit_text a ++ digit_text b
unfolding digit_text
text_append [] b = refl
text_append (d ∷ a) b = ap (λ (l : List ℕ). digit d ∷ l) (text_append a b)

reversed_append : (ds done : List ℕ) → reversed ds done ≡ reversed ds [] ++ done
unfolding reversed
reversed_append [] done = refl
reversed_append (d ∷ ds) done =
    reversed_append ds (d ∷ done) ∙ sym (append_assoc (reversed ds []) (d ∷ []) done) ∙ ap (λ (l : List ℕ). l ++ done) (sym (reversed_append ds (d ∷ [])))

-- the lowest digit comes last
text-last : (d : ℕ) (ds : List ℕ) → digit_text (reversed (d ∷ ds) []) ≡ digit_text (reversed ds []) ++ (digit d ∷ [])
unfolding reversed digit_text
text-last d ds = ap digit_text (reversed_append ds (d ∷ [])) ∙ text_append (reversed ds []) (d ∷ [])

length-reversed : (ds done : List ℕ) → length (reversed ds done) ≡ length ds + length done
unfolding reversed
length-reversed [] done = omega arith
length-reversed (d ∷ ds) done = let h = length-reversed ds (d ∷ done) in omega arith

length-text : (ds : List ℕ) → length (digit_text ds) ≡ length ds
unfolding digit_text
length-text [] = refl
length-text (d ∷ ds) = ap suc (length-text ds)

-- ---- decimal

digits-few : (b most n : ℕ) → length (digits_low b most n) ≤ most
unfolding digits_low
digits-few b zero n = omega arith
digits-few b (suc most) n = go (ltb n b) (digits-few b most (n / b))
  where
    go : (t : Bool) → length (digits_low b most (n / b)) ≤ most → length (cond t (n ∷ []) (n % b ∷ digits_low b most (n / b))) ≤ suc most
    go true h = omega arith
    go false h = omega arith

pub decimal-few : (n : ℕ) → length (decimal n) ≤ 20
unfolding decimal
decimal-few n = let a = length-text (reversed (digits_low 10 20 n) []) in let b = length-reversed (digits_low 10 20 n) [] in let c = digits-few 10 20 n in omega arith

-- more places than a number has digits
digits-enough : (m n : ℕ) → n < 10 ^ suc m → digits_low 10 (suc m) n ≡ digits_low 10 (suc (suc m)) n
unfolding digits_low
digits-enough zero n h = let l : n < 10 = h in rw (lt-ltb n 10 l) refl
digits-enough (suc m) n h =
    let p = pow-suc 10 (suc m) in
    let e = digits-enough m (n / 10) (omega arith) in
    ap (λ (l : List ℕ). cond (ltb n 10) (n ∷ []) (n % 10 ∷ l)) e

digits-one : (n m : ℕ) → n < 10 → digits_low 10 (suc m) n ≡ n ∷ []
unfolding digits_low
digits-one n m h = rw (lt-ltb n 10 h) refl

pub decimal-one : (n : ℕ) → n < 10 → decimal n ≡ digit n ∷ []
unfolding decimal reversed digit_text
decimal-one n h = ap (λ (ds : List ℕ). digit_text (reversed ds [])) (digits-one n 19 h)

digits_more : (n m : ℕ) → 10 ≤ n → digits_low 10 (suc m) n ≡ n % 10 ∷ digits_low 10 m (n / 10)
unfolding digits_low
digits_more n m h = rw (le-ltb n 10 h) refl

pub decimal-more : (n : ℕ) → 10 ≤ n → n < 2 ^ 64 → decimal n ≡ decimal (n / 10) ++ (digit (n % 10) ∷ [])
unfolding decimal
decimal-more n h l =
    ap (λ (ds : List ℕ). digit_text (reversed ds [])) (digits_more n 19 h)
    ∙ text-last (n % 10) (digits_low 10 19 (n / 10))
    ∙ ap (λ (ds : List ℕ). digit_text (reversed ds []) ++ (digit (n % 10) ∷ [])) (digits-enough 18 (n / 10) (omega arith))

-- ---- signed

pub signed_low : (z : ℤ) → z <ℤ pos 0 → signed z ≡ (45 ∷ []) ++ decimal (nat_abs z)
unfolding signed
signed_low (pos n) h = absurd (omega (arith, ints))
signed_low (negsuc n) h = refl

pub signed_high : (z : ℤ) → pos 0 ≤ℤ z → signed z ≡ decimal (nat_abs z)
unfolding signed
signed_high (pos n) h = refl
signed_high (negsuc n) h = absurd h.le

pub negated : (z : ℤ) → z <ℤ pos 0 → (pos 0 -ℤ z) ≡ pos (nat_abs z)
negated (pos n) h = absurd (omega (arith, ints))
negated (negsuc n) h = let p = sub_parts (pos 0) (negsuc n) in omega (arith, ints)

pub not-negated : (z : ℤ) → pos 0 ≤ℤ z → z ≡ pos (nat_abs z)
not-negated (pos n) h = refl
not-negated (negsuc n) h = absurd h.le

pub size_small : (z : ℤ) → Small z → nat_abs z ≤ suc room
size_small (pos n) s = let h = s.size in omega arith
size_small (negsuc n) s = let h = s.size in omega arith

-- ---- hexadecimal

pub hex_none : (w : ℕ) → hex_text 0 w ≡ []
unfolding hex_text hex_low reversed digit_text
hex_none w = refl

pub hex_more : (n w : ℕ) → (n ≡ 0 → ⊥) → hex_text n w ≡ hex_text (n - 1) (w / 16) ++ (digit (w % 16) ∷ [])
unfolding hex_text hex_low
hex_more zero w h = absurd (h refl)
hex_more (suc n) w h = let e : suc n - 1 ≡ n = omega arith in rw e (text-last (w % 16) (hex_low n (w / 16)))

-- the highest digit stands in front
pub hex_front : (j w : ℕ) → hex_text (suc j) w ≡ digit (w / 16 ^ j % 16) ∷ hex_text j w
hex_front zero w =
    let e : w ≡ w / 1 = omega arith in
    hex_more 1 w one_zero ∙ ap (λ (l : List ℕ). l ++ (digit (w % 16) ∷ [])) (hex_none (w / 16)) ∙ ap (λ (x : ℕ). digit (x % 16) ∷ []) e
    ∙ ap (λ (l : List ℕ). digit (w / 1 % 16) ∷ l) (sym (hex_none w))
  where
    one_zero : ◌≡◌ {A = ℕ} 1 0 → ⊥
    one_zero e = omega arith
hex_front (suc j) w =
    let p : 16 * 16 ^ j ≡ 16 ^ suc j = let q = pow-suc 16 j in omega arith in
    let d : w / 16 / 16 ^ j ≡ w / 16 ^ suc j = div-div-eq-div-mul w 16 (16 ^ j) ∙ ap (λ (x : ℕ). w / x) p in
    behind (suc j) ∙ ap (λ (l : List ℕ). l ++ (digit (w % 16) ∷ [])) (hex_front j (w / 16)) ∙ ap (λ (x : ℕ). digit (x % 16) ∷ (hex_text j (w / 16) ++ (digit (w % 16) ∷ []))) d
    ∙ ap (λ (l : List ℕ). digit (w / 16 ^ suc j % 16) ∷ l) (sym (behind j))
  where
    none : (i : ℕ) → suc i ≡ 0 → ⊥
    none i e = omega arith

    behind : (i : ℕ) → hex_text (suc i) w ≡ hex_text i (w / 16) ++ (digit (w % 16) ∷ [])
    behind i = let e : suc i - 1 ≡ i = omega arith in rw e at (hex_more (suc i) w (none i))

pub hex-length : (j w : ℕ) → length (hex_text j w) ≡ j
hex-length zero w = ap length (hex_none w)
hex-length (suc j) w = ap length (hex_front j w) ∙ ap suc (hex-length j w)

pub table-text : (n w : ℕ) → table_text n w ≡ hex_text ((2 ^ n + 3) / 4) w
unfolding table_text hex_text
table-text n w = refl
