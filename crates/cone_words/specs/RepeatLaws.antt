-- Laws of a short table repeated by words: a word of 2^j bits, twice, is one of 2^(j + 1).
use Rattle.std.specs.Prelude.{◌≡◌, Bool, ℕ, zero, suc, ◌+◌, ◌-◌, ◌*◌, ◌%◌, ◌^◌, ◌≤◌, ◌<◌}
use Rattle.std.proofs.Common.{sym, ap, ◌∙◌, mod-eq_of_lt, mul_assoc, mul_comm, mul-le-mul_right, suc-mul, pow-suc, zero-add, suc-add, arith, pow-add, pow_mono}
use Rattle.std.proofs.Math.Nat.{mul-add-mod_self_right}
use Rattle.limits.specs.Limits.{most_pins}
use Rattle.net_model.specs.Tables.{bit, pack}
use Rattle.net_model.specs.FullTables.{repeated_table}
use Rattle.cone_values.specs.Words.{pack-same, pack-small, pack-low}

-- the first 2^j bits of a table of 2^n bits that is repeated
unfoldable pub repeated_to : ℕ → ℕ → ℕ → ℕ
repeated_to n t j = pack (λ x. bit t (x % 2 ^ n)) (2 ^ j)

pub repeated-start : (n t : ℕ) → repeated_to n t n ≡ t % 2 ^ (2 ^ n)
unfolding repeated_to
repeated-start n t = pack-same (λ x. bit t (x % 2 ^ n)) (bit t) (2 ^ n) (λ i h. ap (bit t) (mod-eq_of_lt h)) ∙ pack-low (2 ^ n) t

pub repeated_end : (n t j : ℕ) → j ≡ most_pins → repeated_to n t j ≡ repeated_table n t
unfolding repeated_to repeated_table
repeated_end n t j e = ap (λ (i : ℕ). pack (λ x. bit t (x % 2 ^ n)) (2 ^ i)) e

pub repeated-below : (n t j : ℕ) → repeated_to n t j < 2 ^ (2 ^ j)
unfolding repeated_to
repeated-below n t j = pack-small (λ x. bit t (x % 2 ^ n)) (2 ^ j)

-- values of a + b places: those of a, and behind them those of b
pack_append : (f : ℕ → Bool) (a b : ℕ) → pack f (a + b) ≡ pack f a + pack (λ i. f (a + i)) b * 2 ^ a
unfolding pack
pack_append f zero b =
    let p = pack-same f (λ i. f (0 + i)) b (λ i h. ap f (sym (zero-add i))) in
    let e : 0 + b ≡ b = omega arith in
    ap (pack f) e ∙ omega (arith, p)
pack_append f (suc a) b =
    let ih = pack_append (λ i. f (suc i)) a b in
    let p = pack-same (λ i. f (suc (a + i))) (λ i. f (suc a + i)) b (λ i h. ap f (sym (suc-add a i))) in
    let q = pack (λ i. f (suc a + i)) b in
    let r = pack (λ i. f (suc (a + i))) b in
    let d : r * 2 ^ suc a ≡ 2 * (r * 2 ^ a) = ap (λ (x : ℕ). r * x) (pow-suc 2 a) ∙ sym (mul_assoc r (2 ^ a) 2) ∙ mul_comm (r * 2 ^ a) 2 in
    let s : q * 2 ^ suc a ≡ r * 2 ^ suc a = ap (λ (x : ℕ). x * 2 ^ suc a) (sym p) in
    let e : suc a + b ≡ suc (a + b) = suc-add a b in
    ap (pack f) e ∙ omega (arith, ih, d, s)

-- the places repeat from 2^j on, where n ≤ j
period : (n j x : ℕ) → n ≤ j → (2 ^ j + x) % 2 ^ n ≡ x % 2 ^ n
period n j x h =
    let e : j ≡ (j - n) + n = omega (arith, h) in
    ap (λ (y : ℕ). (y + x) % 2 ^ n) (ap (λ (i : ℕ). 2 ^ i) e ∙ pow-add 2 (j - n) n) ∙ mul-add-mod_self_right (2 ^ (j - n)) (2 ^ n) x

-- **a word twice**
pub repeated-twice : (n t j : ℕ) → n ≤ j → repeated_to n t j + repeated_to n t j * 2 ^ (2 ^ j) ≡ repeated_to n t (j + 1)
unfolding repeated_to
repeated-twice n t j h =
    let f : ℕ → Bool = λ x. bit t (x % 2 ^ n) in
    let e : 2 ^ (j + 1) ≡ 2 ^ j + 2 ^ j = pow-add 2 j 1 ∙ omega arith in
    let p = pack-same (λ i. f (2 ^ j + i)) f (2 ^ j) (λ i k. ap (bit t) (period n j i h)) in
    sym (ap (pack f) e ∙ pack_append f (2 ^ j) (2 ^ j) ∙ ap (λ (w : ℕ). pack f (2 ^ j) + w * 2 ^ (2 ^ j)) p)

-- it fits 64 bits
pub twice-small : (w j : ℕ) → j < most_pins → w < 2 ^ (2 ^ j) → w + w * 2 ^ (2 ^ j) < 2 ^ 64
twice-small w j h k =
    let p = 2 ^ (2 ^ j) in
    let a : suc w * p ≤ p * p = mul-le-mul_right p k in
    let b : suc w * p ≡ w * p + p = suc-mul w p in
    let c : p * p ≡ 2 ^ (2 ^ j + 2 ^ j) = sym (pow-add 2 (2 ^ j) (2 ^ j)) in
    let l : 2 ^ j ≤ 32 = pow_mono {i = j} {j = 5} (omega (arith, h)) in
    let d : 2 ^ (2 ^ j + 2 ^ j) ≤ 2 ^ 64 = pow_mono {i = 2 ^ j + 2 ^ j} {j = 64} (omega (arith, l)) in
    omega (arith, a, b, c, d, k)

-- the sum of the word and the word shifted
pub twice_word : (w j b : ℕ) → j < most_pins → w < 2 ^ (2 ^ j) → b ≡ 2 ^ j → w + w * 2 ^ b % 2 ^ 64 ≡ w + w * 2 ^ (2 ^ j)
twice_word w j b h k e =
    let s = twice-small w j h k in
    ap (λ (x : ℕ). w + w * 2 ^ x % 2 ^ 64) e ∙ ap (λ (x : ℕ). w + x) (mod-eq_of_lt (omega (arith, s)))
