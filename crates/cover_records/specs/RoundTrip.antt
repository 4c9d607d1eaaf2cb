-- A written record reads back: what the layout of check 13 reads from a cover record is what was written.
use Rattle.std.specs.Prelude.{◌≡◌, ◌⊎◌, leb, ltb, eqb, ℤ, pos, negsuc, length}
use Rattle.std.proofs.Math.Path.{refl}
use Rattle.std.proofs.Common.{sym, ap, ap₂, ◌∙◌, subst, inl, inr, not-suc-le-zero, le_of_suc-le-suc, le_trans, pow-suc, lt-ltb, le-ltb, ltb-true, le-leb, eq-eqb, ne_eqb, eqb-true, pow-add, pow_mono}
use mathlib.Core.Bool.{Bool, true, false, cond, not, ◌&&◌, ◌||◌, or-true}
use mathlib.Core.List.{List, [], ◌∷◌, ◌++◌, map, append_assoc, append-nil}
use Prim.Native.Nat.{ℕ, zero, suc, ◌+◌, ◌-◌, ◌*◌, ◌/◌, ◌%◌, ◌^◌, ◌≤◌, ◌<◌}
use native.Mathlib.Omega.{arith}
use lib.Count.{ones, ones_step}
use Rattle.std.proofs.lemmas.List.{length-map}
use Rattle.sequences.specs.Member.{◌∈◌, here, there, not_in_nil, map_in}
use Rattle.net_model.specs.Net.{Net, size, IsGate}
use Rattle.net_model.specs.Copies.{Copy, copy, Before, Rising}
use Rattle.net_model.specs.Tables.{bit, as_number}
use Rattle.cone_values.specs.Words.{as_number_small, bit-low, half}
use Rattle.cover_theory.specs.Key.{Entry}
use Rattle.limits.specs.declared.Rules.{Rules}
use Rattle.limits.specs.Limits.{depth_room, most_pins}
use Rattle.net_bytes.specs.Reading.{Result, Reader, and_then, check, times, at_end, between, got, refused}
use Rattle.net_bytes.specs.Walk.{table_bytes, table_byte, from_bytes, first, rest}
use Rattle.net_bytes.specs.Maps.{pow_bytes, one-table-byte}
use Rattle.cover_records.specs.CoverBytes.{to_bytes, not_zero, numbers_in, leaf_map, depths, is_zero, all_ones, half_range, signed_number, lag_bytes, lut_bytes, all_lut_bytes, lead_bytes, cover_bytes, Record, cover_byte, cover_number, from_signed, leaf_map_ok, depth_reader, leaves_from, before, rising_leaves, lut_body, lut_reader, luts_reader, lead_reader, cover_reader}

-- ---- readers that go on

goes : {A B : Type 0} {r : Result A} {a : A} {s : List ℕ} (f : A → Reader B) → r ≡ got a s → and_then r f ≡ f a s
goes f e = ap (λ (x : Result _). and_then x f) e

check-goes : {A : Type 0} {t : Bool} (n : ℕ) (a : A) (s : List ℕ) → t ≡ true → check t n a s ≡ got a s
check-goes n a s e = ap (λ (t : Bool). check t n a s) e

between-true : (low high b : ℕ) → low ≤ b → b ≤ high → between low high b ≡ true
between-true low high b p q = rw (le-leb low b p) (le-leb b high q)

-- a number that passes its test
number-back : (w : Bool) (ok : ℕ → Bool) (n : ℕ) (s : List ℕ) → ok n ≡ true → cover_number w ok (numbers_in w (n ∷ []) ++ s) ≡ got n s
number-back false ok n s e = check-goes 13 n s e
number-back true ok n s e =
    let q : n % 256 + 256 * (n / 256) ≡ n = omega arith in
    subst (λ (m : ℕ). check (ok m) 13 m s ≡ got n s) (sym q) (check-goes 13 n s e)

-- one number in front of others
pub numbers_cons : (w : Bool) (n : ℕ) (ns s : List ℕ) → numbers_in w (n ∷ ns) ++ s ≡ numbers_in w (n ∷ []) ++ (numbers_in w ns ++ s)
numbers_cons false n ns s = refl
numbers_cons true n ns s = refl

-- n numbers that pass their test
times-numbers : (w : Bool) (ok : ℕ → Bool) (ns : List ℕ) (s : List ℕ) → ((n : ℕ) → n ∈ ns → ok n ≡ true)
    → times (length ns) (cover_number w ok) (numbers_in w ns ++ s) ≡ got ns s
unfolding times
times-numbers false ok [] s h = refl
times-numbers true ok [] s h = refl
times-numbers w ok (n ∷ ns) s h =
    ap (times (suc (length ns)) (cover_number w ok)) (numbers_cons w n ns s)
    ∙ goes (λ a r. and_then (times (length ns) (cover_number w ok) r) (λ more behind. got (a ∷ more) behind)) (number-back w ok n (numbers_in w ns ++ s) (h n (here refl)))
    ∙ goes (λ more behind. got (n ∷ more) behind) (times-numbers w ok ns s (λ c m. h c (there m)))

-- ---- numbers as bytes

from-to : (n w : ℕ) → w < 256 ^ n → from_bytes (to_bytes n w) ≡ w
unfolding from_bytes to_bytes
from-to zero w h = let a : w < 1 = h in omega arith
from-to (suc n) w h =
    let p = pow-suc 256 n in
    let a = from-to n (w / 256) (omega arith) in
    omega arith

pub length_to_bytes : (n w : ℕ) → length (to_bytes n w) ≡ n
unfolding to_bytes
length_to_bytes zero w = refl
length_to_bytes (suc n) w = ap suc (length_to_bytes n (w / 256))

-- ---- leaves

-- the d's that are not 0
deep : List Copy → List ℕ
deep [] = []
deep (y ∷ L) = cond (not_zero y.back) (y.back ∷ deep L) (deep L)

pub leaf_map-small : (L : List Copy) → leaf_map L < 2 ^ length L
unfolding leaf_map
leaf_map-small [] = omega arith
leaf_map-small (y ∷ L) =
    let a = as_number_small (not_zero y.back) in
    let b = leaf_map-small L in
    let c = pow-suc 2 (length L) in
    omega arith

ones-leaf_map : (L : List Copy) → ones (leaf_map L) ≡ length (deep L)
unfolding leaf_map deep
ones-leaf_map [] = ones-zero
  where
    ones-zero : ones 0 ≡ 0
    ones-zero = unfold ones lib.Count.ones_in in refl
ones-leaf_map (y ∷ L) =
    ones_step (as_number b + 2 * leaf_map L) ∙ ap₂ ◌+◌ low (ap ones (half b (leaf_map L)) ∙ ones-leaf_map L) ∙ go b
  where
    b : Bool
    b = not_zero y.back

    low : (as_number b + 2 * leaf_map L) % 2 ≡ as_number b
    low = let a = as_number_small b in omega arith

    go : (t : Bool) → as_number t + length (deep L) ≡ length (cond t (y.back ∷ deep L) (deep L))
    go true = omega arith
    go false = omega arith

leaves-back : (L : List Copy) → leaves_from (leaf_map L) (map (λ (y : Copy). y.node) L) (deep L) ≡ L
unfolding leaf_map deep leaves_from
leaves-back [] = refl
leaves-back (y ∷ L) = go (not_zero y.back) refl (leaves-back L)
  where
    flat : not_zero y.back ≡ false → y.back ≡ 0
    flat e = eqb-true y.back 0 (flip (eqb y.back 0) e)
      where
        flip : (t : Bool) → not t ≡ false → t ≡ true
        flip true e = refl
        flip false e = absurd (mathlib.Core.Bool.true≢false e)

    go : (t : Bool) → not_zero y.back ≡ t → leaves_from (leaf_map L) (map (λ (z : Copy). z.node) L) (deep L) ≡ L
        → cond (bit (as_number t + 2 * leaf_map L) 0)
        (copy y.node (first (cond t (y.back ∷ deep L) (deep L))) ∷ leaves_from ((as_number t + 2 * leaf_map L) / 2) (map (λ (z : Copy). z.node) L) (rest (cond t (y.back ∷ deep L) (deep L))))
        (copy y.node 0 ∷ leaves_from ((as_number t + 2 * leaf_map L) / 2) (map (λ (z : Copy). z.node) L) (cond t (y.back ∷ deep L) (deep L)))
        ≡ y ∷ L
    go true e ih = rw (bit-low true (leaf_map L)) (rw (half true (leaf_map L)) (ap (λ (l : List Copy). y ∷ l) ih))
    go false e ih =
        rw (bit-low false (leaf_map L)) (rw (half false (leaf_map L)) (ap₂ {C = List Copy} (λ (d : ℕ) (l : List Copy). copy y.node d ∷ l) (sym (flat e)) ih))

rising-true : (L : List Copy) → Rising L → rising_leaves L ≡ true
unfolding rising_leaves
rising-true [] r = refl
rising-true (a ∷ []) r = refl
rising-true (a ∷ b ∷ L) r = rw (before-true (r.0 b (here refl))) (rising-true (b ∷ L) r.1)
  where
    before-true : Before a b → before a b ≡ true
    before-true (inl h) = rw (lt-ltb a.node b.node h)
    before-true (inr (e, h)) =
        ap (λ (t : Bool). ltb a.node b.node || t) (rw (eq-eqb a.node b.node e) (lt-ltb a.back b.back h)) ∙ or-true (ltb a.node b.node)

-- a stored d reads back
depth-back : (d : ℕ) → d < depth_room → not_zero d ≡ true → (t : List ℕ) → depth_reader (to_bytes 2 d ++ t) ≡ got d t
unfolding depth_reader to_bytes
depth-back d small e t =
    let q : d % 256 + 256 * (d / 256 % 256) ≡ d = omega arith in
    subst (λ (n : ℕ). check (not_zero n) 13 n t ≡ got d t) (sym q) (check-goes 13 d t e)

-- so do all
depths-back : (L : List Copy) (s : List ℕ) → ((y : Copy) → y ∈ L → y.back < depth_room) → times (length (deep L)) depth_reader (depths L ++ s) ≡ got (deep L) s
unfolding deep depths times
depths-back [] s h = refl
depths-back (y ∷ L) s h = go (not_zero y.back) refl (depths-back L s (λ z m. h z (there m)))
  where
    d : ℕ
    d = y.back

    go : (t : Bool) → not_zero d ≡ t → times (length (deep L)) depth_reader (depths L ++ s) ≡ got (deep L) s
        → times (length (cond t (d ∷ deep L) (deep L))) depth_reader (cond t (to_bytes 2 d ++ depths L) (depths L) ++ s) ≡ got (cond t (d ∷ deep L) (deep L)) s
    go true e ih =
        rw (append_assoc (to_bytes 2 d) (depths L) s)
        (goes (λ a r. and_then (times (length (deep L)) depth_reader r) (λ more behind. got (a ∷ more) behind)) (depth-back d (h y (here refl)) e (depths L ++ s))
        ∙ goes (λ more behind. got (d ∷ more) behind) ih)
    go false e ih = ih

-- ---- the lag

-- a lag that a signed number of one byte, or of two, holds
pub data SmallLag (w : Bool) : ℤ → Type 0 where
  up : {n : ℕ} → n < half_range w → SmallLag w (pos n)
  down : {n : ℕ} → n < half_range w → SmallLag w (negsuc n)

-- the numbers below half the range are half of all
pub two-halves : (w : Bool) → half_range w + half_range w ≡ suc (all_ones w)
two-halves false = refl
two-halves true = refl

lag-bit : ℤ → ℕ
lag-bit z = cond (is_zero z) 0 1

-- the number of a lag that is not 0
lag_numbers : Bool → ℤ → List ℕ
lag_numbers w z = cond (is_zero z) [] (signed_number w z ∷ [])

lag-bytes : (w : Bool) (z : ℤ) → lag_bytes w z ≡ numbers_in w (lag_numbers w z)
unfolding lag_numbers
lag-bytes false z = refl
lag-bytes true z = go (is_zero z)
  where
    go : (t : Bool) → cond t [] (numbers_in true (signed_number true z ∷ [])) ≡ numbers_in true (cond t [] (signed_number true z ∷ []))
    go true = refl
    go false = refl

length-lag_numbers : (w : Bool) (z : ℤ) → length (lag_numbers w z) ≡ lag-bit z
unfolding lag_numbers lag-bit
length-lag_numbers w z = go (is_zero z)
  where
    go : (t : Bool) → length (cond t [] (signed_number w z ∷ [])) ≡ cond t 0 1
    go true = refl
    go false = refl

-- the number of a lag is not 0
lag-number : (w : Bool) {z : ℤ} → SmallLag w z → (b : ℕ) → b ∈ lag_numbers w z → not_zero b ≡ true
unfolding lag_numbers
lag-number w (up {n = zero} h) b m = absurd (not_in_nil m)
lag-number w (up {n = suc n} h) b (here e) = rw e (ap not (ne_eqb (suc n) 0 (λ q. omega arith)))
lag-number w (up {n = suc n} h) b (there m) = absurd (not_in_nil m)
lag-number w (down {n = n} h) b (here e) = rw e (ap not (ne_eqb (all_ones w - n) 0 (λ q. let a = two-halves w in omega arith)))
lag-number w (down {n = n} h) b (there m) = absurd (not_in_nil m)

-- and stands for it
lag-signed : (w : Bool) {z : ℤ} → SmallLag w z → from_signed w (first (lag_numbers w z)) ≡ z
unfolding lag_numbers
lag-signed false (up {n = zero} h) = refl
lag-signed true (up {n = zero} h) = refl
lag-signed w (up {n = suc n} h) = rw (lt-ltb (suc n) (half_range w) h)
lag-signed w (down {n = n} h) = let a = two-halves w in rw (le-ltb (all_ones w - n) (half_range w) (omega arith)) (ap negsuc (omega arith))

lag-read : (w : Bool) {z : ℤ} → SmallLag w z → (s : List ℕ) → times (lag-bit z) (cover_number w not_zero) (lag_bytes w z ++ s) ≡ got (lag_numbers w z) s
lag-read w {z} h s =
    rw (lag-bytes w z)
    (subst (λ (j : ℕ). times j (cover_number w not_zero) (numbers_in w (lag_numbers w z) ++ s) ≡ got (lag_numbers w z) s) (length-lag_numbers w z)
    (times-numbers w not_zero (lag_numbers w z) s (lag-number w h)))

-- ---- the table

-- m bits fit their bytes
bits_fit : (m w : ℕ) → w < 2 ^ m → w < 256 ^ ((m + 7) / 8)
bits_fit m w h = rw (← (pow_bytes ((m + 7) / 8))) (le_trans h (pow_mono {i = m} {j = 8 * ((m + 7) / 8)} (omega arith)))

bytes_small : (n w b : ℕ) → b ∈ to_bytes n w → b < 256
unfolding to_bytes
bytes_small zero w b h = absurd (not_in_nil h)
bytes_small (suc n) w b (here e) = omega arith
bytes_small (suc n) w b (there h) = bytes_small n (w / 256) b h

one_byte : (m w b : ℕ) → (m + 7) / 8 ≡ 1 → w < 2 ^ m → b ∈ to_bytes ((m + 7) / 8) w → b < 2 ^ m
one_byte m w b e h = go ((m + 7) / 8) e
  where
    go : (q : ℕ) → q ≡ 1 → b ∈ to_bytes q w → b < 2 ^ m
    go zero e i = absurd (bad e)
      where
        bad : ◌≡◌ {A = ℕ} 0 1 → ⊥
        bad e = omega arith
    go (suc zero) e i = unfold to_bytes in only i
      where
        only : b ∈ w % 256 ∷ [] → b < 2 ^ m
        only (here q) = omega arith
        only (there j) = absurd (not_in_nil j)
    go (suc (suc q)) e i = absurd (bad e)
      where
        bad : suc (suc q) ≡ 1 → ⊥
        bad e = omega arith

table-bytes_ok : (n w b : ℕ) → w < 2 ^ (2 ^ n) → b ∈ to_bytes (table_bytes n) w → table_byte n b ≡ true
table-bytes_ok n w b h i = go (ltb n 3) refl
  where
    go : (t : Bool) → ltb n 3 ≡ t → ltb b (cond t (2 ^ (2 ^ n)) 256) ≡ true
    go true e = lt-ltb b (2 ^ (2 ^ n)) (one_byte (2 ^ n) w b (sym (one-table-byte n (omega (arith, ltb-true n 3 e)))) h i)
    go false e = lt-ltb b 256 (bytes_small (table_bytes n) w b i)

-- ---- one LUT

-- what an entry of a written record satisfies
pub record Writable (w : Bool) (nodes k least : ℕ) (e : Entry) : Type 0 where
  pub low : least ≤ e.root
  pub high : e.root < nodes
  pub some : 1 ≤ length e.leaves
  pub few : length e.leaves ≤ k
  pub six : length e.leaves ≤ most_pins
  pub rising : Rising e.leaves
  pub inside : (y : Copy) → y ∈ e.leaves → y.node < nodes
  pub depth : (y : Copy) → y ∈ e.leaves → y.back < depth_room
  pub lag : SmallLag w e.lag
  pub table : e.table < 2 ^ (2 ^ length e.leaves)

lut-back : (w : Bool) (nodes k least : ℕ) (e : Entry) (s : List ℕ) → Writable w nodes k least e → lut_reader w nodes k least (lut_bytes w e ++ s) ≡ got e s
unfolding lut_reader lut_body lut_bytes
lut-back w nodes k least e s f =
    ap (lut_reader w nodes k least) regroup
    ∙ goes _ (number-back w _ e.root (n ∷ m ∷ us ++ (ds ++ (ls ++ (ts ++ s)))) root_ok)
    ∙ goes _ (check-goes 13 n _ count_ok)
    ∙ goes _ (check-goes 13 m _ map_ok)
    ∙ goes _ (subst (λ (j : ℕ). times j (cover_number w (λ b. ltb b nodes)) (us ++ (ds ++ (ls ++ (ts ++ s)))) ≡ got vs (ds ++ (ls ++ (ts ++ s)))) (length-map L (λ (y : Copy). y.node))
    (times-numbers w (λ b. ltb b nodes) vs (ds ++ (ls ++ (ts ++ s))) us_ok))
    ∙ rw low (rw high
    (goes _ (subst (λ (j : ℕ). times j depth_reader (ds ++ (ls ++ (ts ++ s))) ≡ got (deep L) (ls ++ (ts ++ s))) (sym (ones-leaf_map L)) (depths-back L (ls ++ (ts ++ s)) f.depth))
    ∙ rw (leaves-back L)
    (goes _ (check-goes 13 L (ls ++ (ts ++ s)) (rising-true L f.rising))
    ∙ goes _ (lag-read w f.lag (ts ++ s))
    ∙ goes _ (subst (λ (j : ℕ). times j (cover_byte (table_byte n)) (ts ++ s) ≡ got ts s) (length_to_bytes (table_bytes n) e.table)
    (times-numbers false (table_byte n) ts s (λ b h. table-bytes_ok n e.table b f.table h)))
    ∙ ap₂ {C = Result Entry} (λ (z : ℤ) (t : ℕ). got (record { root = e.root; leaves = L; lag = z; table = t }) s) (lag-signed w f.lag)
    (from-to (table_bytes n) e.table (bits_fit (2 ^ n) e.table f.table)))))
  where
    L : List Copy
    L = e.leaves

    n : ℕ
    n = length L

    m : ℕ
    m = leaf_map L + cond (is_zero e.lag) 0 64

    vs : List ℕ
    vs = map (λ (y : Copy). y.node) L

    us : List ℕ
    us = numbers_in w vs

    ds : List ℕ
    ds = depths L

    ls : List ℕ
    ls = lag_bytes w e.lag

    ts : List ℕ
    ts = to_bytes (table_bytes n) e.table

    regroup : lut_bytes w e ++ s ≡ numbers_in w (e.root ∷ []) ++ (n ∷ m ∷ us ++ (ds ++ (ls ++ (ts ++ s))))
    regroup = unfold lut_bytes in simp append_assoc

    root_ok : (leb least e.root && ltb e.root nodes) ≡ true
    root_ok = rw (le-leb least e.root f.low) (lt-ltb e.root nodes f.high)

    count_ok : between 1 k n ≡ true
    count_ok = between-true 1 k n f.some f.few

    sixty_four : 2 ^ n ≤ 64
    sixty_four = pow_mono {i = n} {j = most_pins} f.six

    flag : cond (is_zero e.lag) 0 64 ≡ 64 * lag-bit e.lag
    flag = unfold lag-bit in go (is_zero e.lag)
      where
        go : (t : Bool) → cond t 0 64 ≡ 64 * cond t 0 1
        go true = refl
        go false = refl

    one : lag-bit e.lag ≤ 1
    one = unfold lag-bit in go (is_zero e.lag)
      where
        go : (t : Bool) → cond t 0 1 ≤ 1
        go true = omega arith
        go false = omega arith

    low : m % 64 ≡ leaf_map L
    low = let a = leaf_map-small L in let b = sixty_four in let c = flag in let d = one in omega arith

    high : m / 64 ≡ lag-bit e.lag
    high = let a = leaf_map-small L in let b = sixty_four in let c = flag in let d = one in omega arith

    map_ok : leaf_map_ok n m ≡ true
    map_ok =
        rw (lt-ltb m 128 (let a = leaf_map-small L in let b = sixty_four in let c = flag in let d = one in omega arith))
        (lt-ltb (m % 64) (2 ^ n) (let a = leaf_map-small L in let b = low in omega arith))

    us_ok : (b : ℕ) → b ∈ vs → ltb b nodes ≡ true
    us_ok b h = let t = map_in (λ (y : Copy). y.node) L h in rw t.2 (lt-ltb t.0.node nodes (f.inside t.0 t.1))

-- ---- the record

-- entries with rising roots, the first at least `least`
pub data AllWritable (w : Bool) (nodes k : ℕ) : ℕ → List Entry → Type 0 where
  none : {least : ℕ} → AllWritable w nodes k least []
  next : {least : ℕ} {e : Entry} {es : List Entry} → Writable w nodes k least e → AllWritable w nodes k (suc e.root) es → AllWritable w nodes k least (e ∷ es)

luts-back : (w : Bool) (nodes k least : ℕ) (es : List Entry) (s : List ℕ) → AllWritable w nodes k least es → luts_reader w nodes k (length es) least (all_lut_bytes w es ++ s) ≡ got es s
unfolding luts_reader all_lut_bytes
luts-back w nodes k least [] s none = refl
luts-back w nodes k least (e ∷ es) s (next f fs) =
    ap (luts_reader w nodes k (suc (length es)) least) (append_assoc (lut_bytes w e) (all_lut_bytes w es) s)
    ∙ goes (λ x behind. and_then (luts_reader w nodes k (length es) (suc x.root) behind) (λ more after. got (x ∷ more) after)) (lut-back w nodes k least e (all_lut_bytes w es ++ s) f)
    ∙ goes (λ more after. got (e ∷ more) after) (luts-back w nodes k (suc e.root) es s fs)

-- what stands before the period
lead-back : (w : Bool) (s : List ℕ) → (b : ℕ) × (lead_reader w (lead_bytes w ++ s) ≡ got b s)
lead-back false s = (0, refl)
lead-back true s = (255, refl)

-- **A written record reads back.**
pub record_back : (R : Rules) (N : Net) (k φ : ℕ) (es : List Entry) → 1 ≤ φ → φ ≤ R.period → 1 ≤ length es → length es ≤ R.luts
    → AllWritable R.wide (size N) k N.inputs es → cover_reader R N k (cover_bytes R φ es) ≡ got (record { period = φ; entries = es }) []
unfolding cover_reader cover_bytes
record_back R N k φ es p p' q q' f =
    ap (λ (l : List ℕ). cover_reader R N k (lead_bytes w ++ l)) (numbers_cons w φ (length es ∷ []) (all_lut_bytes w es))
    ∙ goes _ (lead-back w _).1
    ∙ goes _ (number-back w _ φ _ (between-true 1 R.period φ p p'))
    ∙ goes _ (number-back w _ (length es) _ (between-true 1 R.luts (length es) q q'))
    ∙ goes _ (subst (λ (l : List ℕ). luts_reader w (size N) k (length es) N.inputs l ≡ got es []) (append-nil (all_lut_bytes w es)) (luts-back w (size N) k N.inputs es [] f))
  where
    w : Bool
    w = R.wide
