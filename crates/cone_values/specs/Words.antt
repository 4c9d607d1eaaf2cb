-- Truth tables as numbers: the bits of a packed table, and of the index that values make.
use Rattle.std.specs.Prelude.{◌≡◌, refl, Bool, true, false, List, [], ◌∷◌, map, ℕ, zero, suc, ◌+◌, ◌*◌, ◌/◌, ◌%◌, ◌^◌, ◌≤◌, ◌<◌, eqb, length, get_or}
use Rattle.std.proofs.Common.{sym, ap, ap₂, ◌∙◌, subst, pow-suc, mul_comm, not-suc-le-zero, le_of_suc-le-suc, arith, pow_pos}
use Rattle.std.proofs.Math.Nat.{div-div-eq-div-mul}
use Rattle.std.proofs.Math.Arith.{mod-mul}
use Rattle.net_model.specs.Tables.{bit, as_number, index, apply, pack}

pub as_number_small : (b : Bool) → as_number b ≤ 1
as_number_small true = omega arith
as_number_small false = omega arith

-- the lowest bit of b + 2·q is b
pub bit-low : (b : Bool) (q : ℕ) → bit (as_number b + 2 * q) 0 ≡ b
bit-low true q = ap (λ (n : ℕ). eqb n 1) low
  where
    low : (1 + 2 * q) / 2 ^ 0 % 2 ≡ 1
    low = omega arith
bit-low false q = ap (λ (n : ℕ). eqb n 1) low
  where
    low : (0 + 2 * q) / 2 ^ 0 % 2 ≡ 0
    low = omega arith

-- the other bits are those of half the number
pub bit-half : (w i : ℕ) → bit w (suc i) ≡ bit (w / 2) i
bit-half w i = ap (λ (n : ℕ). eqb (n % 2) 1) (ap (λ (n : ℕ). w / n) (pow-suc 2 i ∙ mul_comm (2 ^ i) 2) ∙ sym (div-div-eq-div-mul w 2 (2 ^ i)))

pub half : (b : Bool) (q : ℕ) → (as_number b + 2 * q) / 2 ≡ q
half b q = let a = as_number_small b in omega arith

pub bit_high : (b : Bool) (q i : ℕ) → bit (as_number b + 2 * q) (suc i) ≡ bit q i
bit_high b q i = bit-half (as_number b + 2 * q) i ∙ ap (λ (n : ℕ). bit n i) (half b q)

-- **bit i of a packed table is its i-th value**
pub bit-pack : (f : ℕ → Bool) (n i : ℕ) → i < n → bit (pack f n) i ≡ f i
unfolding pack
bit-pack f zero i h = absurd (not-suc-le-zero h)
bit-pack f (suc n) zero h = bit-low (f 0) (pack (λ j. f (suc j)) n)
bit-pack f (suc n) (suc i) h = bit_high (f 0) (pack (λ j. f (suc j)) n) i ∙ bit-pack (λ j. f (suc j)) n i (le_of_suc-le-suc h)

-- a table of n values is below 2 to the n
pub pack-small : (f : ℕ → Bool) (n : ℕ) → pack f n < 2 ^ n
unfolding pack
pack-small f zero = omega arith
pack-small f (suc n) =
    let a = as_number_small (f 0) in
    let b = pack-small (λ j. f (suc j)) n in
    let c = pow-suc 2 n in
    omega arith

pub pack-same : (f g : ℕ → Bool) (n : ℕ) → ((i : ℕ) → i < n → f i ≡ g i) → pack f n ≡ pack g n
unfolding pack
pack-same f g zero h = refl
pack-same f g (suc n) h =
    ap₂ (λ (b : Bool) (q : ℕ). as_number b + 2 * q) (h 0 (omega arith)) (pack-same (λ j. f (suc j)) (λ j. g (suc j)) n (λ i k. h (suc i) (omega arith)))

-- values make an index below 2 to their number
pub index-small : (bs : List Bool) → index bs < 2 ^ length bs
index-small [] = omega arith
index-small (b ∷ bs) =
    let a = as_number_small b in
    let c = index-small bs in
    let d = pow-suc 2 (length bs) in
    omega arith

-- bit j of the index is the j-th value
pub bit-index : (bs : List Bool) (j : ℕ) → j < length bs → bit (index bs) j ≡ get_or bs j false
bit-index [] j h = absurd (not-suc-le-zero h)
bit-index (b ∷ bs) zero h = bit-low b (index bs)
bit-index (b ∷ bs) (suc j) h = bit_high b (index bs) j ∙ bit-index bs j (le_of_suc-le-suc h)

-- the lowest bit is the number's remainder by 2
pub low_bit : (w : ℕ) → as_number (bit w 0) ≡ w % 2
low_bit w = go (w / 2 ^ 0 % 2) (omega arith) ∙ omega arith
  where
    go : (n : ℕ) → n < 2 → as_number (eqb n 1) ≡ n
    go zero h = refl
    go (suc zero) h = refl
    go (suc (suc n)) h = absurd (not-suc-le-zero (le_of_suc-le-suc (le_of_suc-le-suc h)))

-- a number below 2 to the n is what its n bits pack to
pub pack-bits : (n w : ℕ) → w < 2 ^ n → pack (bit w) n ≡ w
unfolding pack
pack-bits zero w h = let a : w < 1 = h in omega arith
pack-bits (suc n) w h =
    let a = pack-bits n (w / 2) (let c = pow-suc 2 n in omega arith) in
    let b = pack-same (λ i. bit w (suc i)) (bit (w / 2)) n (λ i k. bit-half w i) in
    let c = low_bit w in
    omega arith

-- the lowest n bits of a number pack to its remainder by 2 to the n
pub pack-low : (n w : ℕ) → pack (bit w) n ≡ w % 2 ^ n
unfolding pack
pack-low zero w = omega arith
pack-low (suc n) w =
    let a = pack-low n (w / 2) in
    let b = pack-same (λ i. bit w (suc i)) (bit (w / 2)) n (λ i k. bit-half w i) in
    let c = low_bit w in
    let d = ap (λ (m : ℕ). w % m) (pow-suc 2 n) ∙ mod-mul w {m = 2 ^ n} {c = 2} (pow_pos n) (omega arith) in
    omega arith

-- **what the lowest n bits pack to is the word's remainder by 2 to the n**
pub pack-word : (f : ℕ → Bool) (n w : ℕ) → ((i : ℕ) → i < n → bit w i ≡ f i) → w % 2 ^ n ≡ pack f n
pack-word f n w h = sym (pack-low n w) ∙ pack-same (bit w) f n h

-- so a remainder by 2 to the n has the number's bits below n
pub bit_mod : (n w i : ℕ) → i < n → bit (w % 2 ^ n) i ≡ bit w i
bit_mod n w i h = ap (λ (x : ℕ). bit x i) (sym (pack-low n w)) ∙ bit-pack (bit w) n i h
