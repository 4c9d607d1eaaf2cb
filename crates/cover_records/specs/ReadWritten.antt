-- Laws: a record that is read is the record of what was read, byte for byte.
use Rattle.std.specs.Prelude.{◌≡◌, Bool, true, false, cond, not, ◌&&◌, List, [], ◌∷◌, ◌++◌, map, ℕ, zero, suc, ◌+◌, ◌-◌, ◌*◌, ◌/◌, ◌%◌, ◌^◌, ◌≤◌, ◌<◌, leb, ltb, eqb, ℤ, pos, negsuc, length}
use Rattle.std.proofs.Math.Path.{refl}
use Rattle.std.proofs.Common.{sym, ap, ap₂, ◌∙◌, subst, true≢false, append_assoc, append-nil, pow-suc, ltb-true, lt-ltb, le-ltb, eqb-true, ne_eqb}
use Rattle.std.proofs.lemmas.Bool.{false≢true, eqb-false}
use native.Mathlib.Omega.{arith}
use lib.Count.{ones, ones_step}
use Rattle.std.proofs.lemmas.List.{length-map}
use Rattle.limits.specs.declared.Rules.{Rules}
use Rattle.limits.specs.Limits.{depth_room}
use Rattle.sequences.specs.Member.{◌∈◌, here, there}
use Rattle.net_model.specs.Net.{Net, size}
use Rattle.net_model.specs.Copies.{Copy, copy}
use Rattle.net_model.specs.Tables.{bit, as_number}
use Rattle.cover_theory.specs.Key.{Entry}
use Rattle.net_bytes.specs.Reading.{Result, Reader, and_then, check, byte, times, at_end, between, got, refused}
use Rattle.net_bytes.specs.Readers.{Each, each_nil, each_cons, refused-not-got, got-value, then-got, check-got, at_end-got}
use Rattle.net_bytes.specs.Short.{Bytes}
use Rattle.net_bytes.specs.Walk.{table_bytes, table_byte, from_bytes, first, rest}
use Rattle.cover_records.specs.CoverBytes.{to_bytes, not_zero, numbers_in, leaf_map, depths, is_zero, all_ones, half_range, signed_number, lag_bytes, lut_bytes, all_lut_bytes, lead_bytes, cover_bytes, Record, cover_byte, cover_number, from_signed, leaf_map_ok, depth_reader, leaves_from, rising_leaves, root_reader, lut_body, lut_reader, luts_reader, lead_reader, cover_reader}
use Rattle.cover_records.specs.LutStages.{from_table, from_lags, from_leaves, from_depths, from_nodes, from_map, from_size, body_stages, lut_stages}
use Rattle.cover_records.specs.CoverStages.{got-rest, from_luts, from_front, front-got, front-parts, cover_stages}
use Rattle.cover_records.specs.RoundTrip.{numbers_cons, two-halves}

-- ---- numbers

-- what a number that was read keeps
abbrev Kept : Bool → (ℕ → Bool) → ℕ → Type 0
Kept w ok n = (n ≤ all_ones w) × (ok n ≡ true)

-- numbers that were read stand in front as they are written
record Front (w : Bool) (ok : ℕ → Bool) (s ns t : List ℕ) : Type 0 where
  is : s ≡ numbers_in w ns ++ t
  bytes : Bytes t
  each : Each (Kept w ok) ns

bytes_rest : {b : ℕ} {s : List ℕ} → Bytes (b ∷ s) → Bytes s
bytes_rest h a m = h a (there m)

number-front : (w : Bool) (ok : ℕ → Bool) (s : List ℕ) (n : ℕ) (t : List ℕ) → Bytes s → cover_number w ok s ≡ got n t → Front w ok s (n ∷ []) t
number-front false ok [] n t b e = absurd (refused-not-got 13 n t e)
number-front false ok (c ∷ s) n t b e =
    let h = check-got (ok c) 13 c s n t e in
    let l = b c (here refl) in
    let same = h.1 in
    record { is = ap₂ ◌∷◌ h.1 h.2; bytes = subst Bytes h.2 (bytes_rest b); each = each_cons (Kept false ok) (omega arith, sym (ap ok h.1) ∙ h.0) (each_nil (Kept false ok)) }
number-front true ok [] n t b e = absurd (refused-not-got 13 n t e)
number-front true ok (c ∷ []) n t b e = absurd (refused-not-got 13 n t e)
number-front true ok (c ∷ d ∷ s) n t b e =
    let h = check-got (ok (c + 256 * d)) 13 (c + 256 * d) s n t e in
    let l = b c (here refl) in
    let m = b d (there (here refl)) in
    let same = h.1 in
    let low : c ≡ n % 256 = omega arith in
    let high : d ≡ n / 256 = omega arith in
    record {
      is = ap₂ ◌∷◌ low (ap₂ ◌∷◌ high h.2);
      bytes = subst Bytes h.2 (bytes_rest (bytes_rest b));
      each = each_cons (Kept true ok) (omega arith, sym (ap ok h.1) ∙ h.0) (each_nil (Kept true ok));
    }

numbers-front : (w : Bool) (ok : ℕ → Bool) (k : ℕ) (s ns t : List ℕ) → Bytes s → times k (cover_number w ok) s ≡ got ns t → Front w ok s ns t × (length ns ≡ k)
unfolding times
numbers-front w ok zero s ns t b e =
    let none : [] ≡ ns = cc in
    let same : s ≡ t = cc in
    subst (λ (l : List ℕ). Front w ok s l t × (length l ≡ 0)) none (record { is = nothing w ∙ ap (λ (l : List ℕ). numbers_in w [] ++ l) same; bytes = subst Bytes same b; each = each_nil (Kept w ok) }, refl)
  where
    nothing : (w : Bool) → s ≡ numbers_in w [] ++ s
    nothing false = refl
    nothing true = refl
numbers-front w ok (suc k) s ns t b e =
    let x = then-got (cover_number w ok s) (λ a u. and_then (times k (cover_number w ok) u) (λ more v. got (a ∷ more) v)) ns t e in
    let y = then-got (times k (cover_number w ok) x.1) (λ more v. got (x.0 ∷ more) v) ns t x.3 in
    let all : x.0 ∷ y.0 ≡ ns = cc y.3 in
    let same : y.1 ≡ t = cc y.3 in
    let f = number-front w ok s x.0 x.1 b x.2 in
    let g = numbers-front w ok k x.1 y.0 y.1 f.bytes y.2 in
    subst (λ (l : List ℕ). Front w ok s l t × (length l ≡ suc k)) all
    (subst (λ (u : List ℕ). Front w ok s (x.0 ∷ y.0) u × (length (x.0 ∷ y.0) ≡ suc k)) same (
      record {
        is = f.is ∙ ap (λ (l : List ℕ). numbers_in w (x.0 ∷ []) ++ l) g.0.is ∙ sym (numbers_cons w x.0 y.0 y.1);
        bytes = g.0.bytes;
        each = each_cons (Kept w ok) (f.each x.0 (here refl)) g.0.each;
      },
      ap suc g.1,
    ))

-- ---- leaves

-- leaves L have these nodes, this map and these d's
record Made (b : ℕ) (us ds : List ℕ) (L : List Copy) : Type 0 where
  nodes : map (λ (y : Copy). y.node) L ≡ us
  flags : leaf_map L ≡ b
  backs : depths L ≡ numbers_in true ds

-- one leaf more, with a stored d or with 0
made-deep : {b u d : ℕ} {us ds : List ℕ} {L : List Copy} → b % 2 ≡ 1 → Kept true not_zero d → Made (b / 2) us ds L → Made b (u ∷ us) (d ∷ ds) (copy u d ∷ L)
unfolding leaf_map depths to_bytes
made-deep {b} {u} {d} odd k m =
    let small = k.0 in
    let top : d / 256 % 256 ≡ d / 256 = omega arith in
    let half = m.flags in
    record {
      nodes = ap (λ (l : List ℕ). u ∷ l) m.nodes;
      flags = rw k.1 (omega arith);
      backs = rw (k.1, top) (ap (λ (l : List ℕ). d % 256 ∷ d / 256 ∷ l) m.backs);
    }

made-flat : {b u : ℕ} {us ds : List ℕ} {L : List Copy} → b % 2 ≡ 0 → Made (b / 2) us ds L → Made b (u ∷ us) ds (copy u 0 ∷ L)
unfolding leaf_map depths
made-flat {b} {u} even m =
    let half = m.flags in
    record { nodes = ap (λ (l : List ℕ). u ∷ l) m.nodes; flags = omega arith; backs = m.backs }

leaves-made : (b : ℕ) (us ds : List ℕ) → b < 2 ^ length us → length ds ≡ ones b → Each (Kept true not_zero) ds → Made b us ds (leaves_from b us ds)
unfolding leaves_from leaf_map depths
leaves-made b [] ds h l f = none ds (l ∙ ap ones z ∙ unfold ones lib.Count.ones_in in refl)
  where
    z : b ≡ 0
    z = omega arith

    none : (ds : List ℕ) → length ds ≡ 0 → Made b [] ds []
    none [] e = record { nodes = refl; flags = omega arith; backs = refl }
    none (d ∷ ds) e = absurd (omega arith)
leaves-made b (u ∷ us) ds h l f = go (bit b 0) refl (λ (more : List ℕ). leaves-made (b / 2) us more less)
  where
    step : ones b ≡ b % 2 + ones (b / 2)
    step = ones_step b

    less : b / 2 < 2 ^ length us
    less = let p = pow-suc 2 (length us) in omega arith

    Half : Type 0
    Half = (more : List ℕ) → length more ≡ ones (b / 2) → Each (Kept true not_zero) more → Made (b / 2) us more (leaves_from (b / 2) us more)

    some : (ds : List ℕ) → length ds ≡ ones b → Each (Kept true not_zero) ds → b % 2 ≡ 1 → Half → Made b (u ∷ us) ds (copy u (first ds) ∷ leaves_from (b / 2) us (rest ds))
    some [] l f odd half = let s = step in absurd (omega arith)
    some (d ∷ ds) l f odd half = let s = step in made-deep odd (f d (here refl)) (half ds (omega arith) (λ a m. f a (there m)))

    go : (t : Bool) → bit b 0 ≡ t → Half → Made b (u ∷ us) ds (cond t (copy u (first ds) ∷ leaves_from (b / 2) us (rest ds)) (copy u 0 ∷ leaves_from (b / 2) us ds))
    go true e half = let odd = eqb-true (b / 2 ^ 0 % 2) 1 e in some ds l f (omega arith) half
    go false e half = made-flat (zero_bit e) (half ds (let s = step in let z = zero_bit e in omega arith) f)
      where
        zero_bit : bit b 0 ≡ false → b % 2 ≡ 0
        zero_bit e = other (b % 2) (omega arith) (λ q. eqb-false (b / 2 ^ 0 % 2) 1 e (omega arith))
          where
            other : (r : ℕ) → r < 2 → (r ≡ 1 → ⊥) → r ≡ 0
            other zero h n = refl
            other (suc zero) h n = absurd (n refl)
            other (suc (suc r)) h n = absurd (omega arith)

-- ---- the lag

-- a number that is not 0 is that of the lag it stands for
signed-made : (w : Bool) (b : ℕ) → Kept w not_zero b → (is_zero (from_signed w b) ≡ false) × (signed_number w (from_signed w b) ≡ b)
signed-made w zero k = absurd (false≢true k.1)
signed-made w (suc b) k = go (ltb (suc b) (half_range w)) k.0
  where
    go : (t : Bool) → suc b ≤ all_ones w → (is_zero (cond t (pos (suc b)) (negsuc (all_ones w - suc b))) ≡ false) × (signed_number w (cond t (pos (suc b)) (negsuc (all_ones w - suc b))) ≡ suc b)
    go true h = (refl, refl)
    go false h = (refl, omega arith)

-- at most one number, not 0, is that of a lag
record LagMade (w : Bool) (q : ℕ) (lags : List ℕ) : Type 0 where
  bytes : lag_bytes w (from_signed w (first lags)) ≡ numbers_in w lags
  flag : cond (is_zero (from_signed w (first lags))) 0 64 ≡ 64 * q

lag-made : (w : Bool) (q : ℕ) (lags : List ℕ) → q ≤ 1 → length lags ≡ q → Each (Kept w not_zero) lags → LagMade w q lags
lag-made w q [] h l f = none w
  where
    none : (w : Bool) → LagMade w q []
    none false = record { bytes = refl; flag = omega arith }
    none true = record { bytes = refl; flag = omega arith }
lag-made w q (b ∷ []) h l f = let m = signed-made w b (f b (here refl)) in record { bytes = rw m.0 (rw m.1 refl); flag = rw m.0 (omega arith) }
lag-made w q (b ∷ c ∷ lags) h l f = absurd (omega arith)

-- ---- the table

table-made : (T : List ℕ) → Bytes T → to_bytes (length T) (from_bytes T) ≡ T
unfolding to_bytes from_bytes
table-made [] b = refl
table-made (c ∷ T) b =
    let l = b c (here refl) in
    let low : (c + 256 * from_bytes T) % 256 ≡ c = omega arith in
    let high : (c + 256 * from_bytes T) / 256 ≡ from_bytes T = omega arith in
    rw (low, high) (ap (λ (l : List ℕ). c ∷ l) (table-made T (bytes_rest b)))

-- ---- one LUT

-- the bytes behind a LUT's root, as lutBytes has them
body_bytes : Bool → Entry → List ℕ
body_bytes w e =
    length e.leaves ∷ (leaf_map e.leaves + cond (is_zero e.lag) 0 64)
    ∷ numbers_in w (map (λ (y : Copy). y.node) e.leaves) ++ depths e.leaves ++ lag_bytes w e.lag ++ to_bytes (table_bytes (length e.leaves)) e.table

map_range : (n b : ℕ) → leaf_map_ok n b ≡ true → (b < 128) × (b % 64 < 2 ^ n)
map_range n b = go (ltb b 128) (ltb (b % 64) (2 ^ n)) (ltb-true b 128) (ltb-true (b % 64) (2 ^ n))
  where
    go : (x y : Bool) → (x ≡ true → b < 128) → (y ≡ true → b % 64 < 2 ^ n) → (x && y) ≡ true → (b < 128) × (b % 64 < 2 ^ n)
    go true y f g e = (f refl, g e)
    go false y f g e = absurd (false≢true e)

regroup : (a b c d t : List ℕ) → a ++ (b ++ (c ++ (d ++ t))) ≡ (a ++ b ++ c ++ d) ++ t
regroup a b c d t = simp append_assoc

-- the fields of a LUT that were read are the bytes of that LUT
body-made : (w : Bool) (root n m : ℕ) (us ds lags T t : List ℕ) → leaf_map_ok n m ≡ true → length us ≡ n → length ds ≡ ones (m % 64) → Each (Kept true not_zero) ds
    → length lags ≡ m / 64 → Each (Kept w not_zero) lags → length T ≡ table_bytes n → Bytes T
    → n ∷ m ∷ numbers_in w us ++ (numbers_in true ds ++ (numbers_in w lags ++ (T ++ t)))
    ≡ body_bytes w (record { root = root; leaves = leaves_from (m % 64) us ds; lag = from_signed w (first lags); table = from_bytes T }) ++ t
unfolding body_bytes
body-made w root n m us ds lags T t ok lu ld fd ll fl lt b_t =
    rw (len, flags, made.nodes, made.backs, lag.bytes, table)
    (ap (λ (l : List ℕ). n ∷ m ∷ l) (regroup (numbers_in w us) (numbers_in true ds) (numbers_in w lags) T t))
  where
    L : List Copy
    L = leaves_from (m % 64) us ds

    made : Made (m % 64) us ds L
    made = let r = map_range n m ok in leaves-made (m % 64) us ds (rw lu r.1) ld fd

    lag : LagMade w (m / 64) lags
    lag = let r = map_range n m ok in let h = r.0 in lag-made w (m / 64) lags (omega arith) ll fl

    len : length L ≡ n
    len = sym (length-map L (λ (y : Copy). y.node)) ∙ ap length made.nodes ∙ lu

    flags : leaf_map L + cond (is_zero (from_signed w (first lags))) 0 64 ≡ m
    flags = let a = made.flags in let b = lag.flag in omega arith

    table : to_bytes (table_bytes n) (from_bytes T) ≡ T
    table = rw (← lt) (table-made T b_t)

-- the parts of what was read, one behind the other
chained : {n m : ℕ} (a b c d : List ℕ) {s s2 s3 s4 s5 s6 s7 s8 t : List ℕ} → s ≡ n ∷ s2 → s2 ≡ m ∷ s3 → s3 ≡ a ++ s4 → s4 ≡ b ++ s5 → s5 ≡ s6 → s6 ≡ c ++ s7 → s7 ≡ d ++ s8 → s8 ≡ t
    → s ≡ n ∷ m ∷ a ++ (b ++ (c ++ (d ++ t)))
chained {n} {m} a b c d p2 p3 p4 p5 p6 p7 p8 e =
    p2 ∙ ap (λ (l : List ℕ). n ∷ l)
    (p3 ∙ ap (λ (l : List ℕ). m ∷ l)
    (p4 ∙ ap (λ (l : List ℕ). a ++ l)
    (p5 ∙ ap (λ (l : List ℕ). b ++ l) (p6 ∙ p7 ∙ ap (λ (l : List ℕ). c ++ l) (p8 ∙ ap (λ (l : List ℕ). d ++ l) e)))))

-- what was read behind a root
abbrev Written : Bool → ℕ → List ℕ → List ℕ → Entry → Type 0
Written w root s t e = (s ≡ body_bytes w e ++ t) × Bytes t × (e.root ≡ root)

body-written : (w : Bool) (nodes k root : ℕ) (s : List ℕ) (e : Entry) (t : List ℕ) → Bytes s → lut_body w nodes k root s ≡ got e t → Written w root s t e
unfolding depth_reader
body-written w nodes k root s e t b q =
    let x2 = then-got (cover_byte (between 1 k) s) (from_size w nodes root) e t (sym (body_stages w nodes k root s) ∙ q) in
    let n = x2.0 in
    let f2 = number-front false (between 1 k) s n x2.1 b x2.2 in
    let x3 = then-got (cover_byte (leaf_map_ok n) x2.1) (from_map w nodes root n) e t x2.3 in
    let m = x3.0 in
    let f3 = number-front false (leaf_map_ok n) x2.1 m x3.1 f2.bytes x3.2 in
    let x4 = then-got (times n (cover_number w (λ b. ltb b nodes)) x3.1) (from_nodes w root n m) e t x3.3 in
    let us = x4.0 in
    let f4 = numbers-front w (λ b. ltb b nodes) n x3.1 us x4.1 f3.bytes x4.2 in
    let x5 = then-got (times (ones (m % 64)) depth_reader x4.1) (from_depths w root n m us) e t x4.3 in
    let ds = x5.0 in
    let f5 = numbers-front true not_zero (ones (m % 64)) x4.1 ds x5.1 f4.0.bytes x5.2 in
    let L : List Copy = leaves_from (m % 64) us ds in
    let x6 = then-got (check (rising_leaves L) 13 L x5.1) (from_leaves w root n m) e t x5.3 in
    let c = check-got (rising_leaves L) 13 L x5.1 x6.0 x6.1 x6.2 in
    let x7 = then-got (times (m / 64) (cover_number w not_zero) x6.1) (from_lags w root n x6.0) e t x6.3 in
    let f7 = numbers-front w not_zero (m / 64) x6.1 x7.0 x7.1 (subst Bytes c.2 f5.0.bytes) x7.2 in
    let x8 = then-got (times (table_bytes n) (cover_byte (table_byte n)) x7.1) (from_table w root x6.0 x7.0) e t x7.3 in
    let f8 = numbers-front false (table_byte n) (table_bytes n) x7.1 x8.0 x8.1 f7.0.bytes x8.2 in
    let is : ◌≡◌ {A = Entry} (record { root = root; leaves = x6.0; lag = from_signed w (first x7.0); table = from_bytes x8.0 }) e = got-value _ x8.1 e t x8.3 in
    let end : x8.1 ≡ t = got-rest _ x8.1 e t x8.3 in
    let fields = body-made w root n m us ds x7.0 x8.0 t (f3.each m (here refl)).1 f4.1 f5.1 f5.0.each f7.1 f7.0.each f8.1
    (λ a i. let h = (f8.0.each a i).0 in omega arith) in
    let all = chained (numbers_in w us) (numbers_in true ds) (numbers_in w x7.0) x8.0 f2.is f3.is f4.0.is f5.0.is c.2 f7.0.is f8.0.is end in
    subst (Written w root s t) is
    (subst (λ (l : List Copy). Written w root s t (record { root = root; leaves = l; lag = from_signed w (first x7.0); table = from_bytes x8.0 })) c.1
    (all ∙ fields, subst Bytes end f8.0.bytes, refl))

lut-written : (w : Bool) (nodes k least : ℕ) (s : List ℕ) (e : Entry) (t : List ℕ) → Bytes s → lut_reader w nodes k least s ≡ got e t → (s ≡ lut_bytes w e ++ t) × Bytes t
lut-written w nodes k least s e t b q =
    let x = then-got (root_reader w nodes least s) (lut_body w nodes k) e t (sym (lut_stages w nodes k least s) ∙ q) in
    let f = number-front w (λ b. leb least b && ltb b nodes) s x.0 x.1 b x.2 in
    let g = body-written w nodes k x.0 x.1 e t f.bytes x.3 in
    (f.is ∙ ap₂ (λ (r : ℕ) (l : List ℕ). numbers_in w (r ∷ []) ++ l) (sym g.2) g.0 ∙ sym (append_assoc (numbers_in w (e.root ∷ [])) (body_bytes w e) t) ∙ whole, g.1)
  where
    whole : (numbers_in w (e.root ∷ []) ++ body_bytes w e) ++ t ≡ lut_bytes w e ++ t
    whole = unfold lut_bytes body_bytes in refl

-- ---- the record

-- **LUTs that were read are written so.**
pub luts-written : (w : Bool) (nodes k n least : ℕ) (s : List ℕ) (es : List Entry) (t : List ℕ) → Bytes s → luts_reader w nodes k n least s ≡ got es t
    → (s ≡ all_lut_bytes w es ++ t) × Bytes t × (length es ≡ n)
unfolding luts_reader all_lut_bytes
luts-written w nodes k zero least s es t b q =
    let none : [] ≡ es = got-value [] s es t q in
    let same = got-rest [] s es t q in
    subst (λ (l : List Entry). (s ≡ all_lut_bytes w l ++ t) × Bytes t × (length l ≡ 0)) none (same, subst Bytes same b, refl)
luts-written w nodes k (suc n) least s es t b q =
    let x = then-got (lut_reader w nodes k least s) (λ e behind. and_then (luts_reader w nodes k n (suc e.root) behind) (λ more after. got (e ∷ more) after)) es t q in
    let y = then-got (luts_reader w nodes k n (suc x.0.root) x.1) (λ more after. got (x.0 ∷ more) after) es t x.3 in
    let all : x.0 ∷ y.0 ≡ es = got-value (x.0 ∷ y.0) y.1 es t y.3 in
    let end = got-rest (x.0 ∷ y.0) y.1 es t y.3 in
    let f = lut-written w nodes k least s x.0 x.1 b x.2 in
    let g = luts-written w nodes k n (suc x.0.root) x.1 y.0 y.1 f.1 y.2 in
    subst (λ (l : List Entry). (s ≡ all_lut_bytes w l ++ t) × Bytes t × (length l ≡ suc n)) all (
      f.0 ∙ ap (λ (l : List ℕ). lut_bytes w x.0 ++ l) (g.0 ∙ ap (λ (l : List ℕ). all_lut_bytes w y.0 ++ l) end) ∙ sym (append_assoc (lut_bytes w x.0) (all_lut_bytes w y.0) t),
      subst Bytes end g.1,
      ap suc g.2,
    )

-- what stands before the period
lead-written : (w : Bool) (s : List ℕ) (a : ℕ) (t : List ℕ) → Bytes s → lead_reader w s ≡ got a t → (s ≡ lead_bytes w ++ t) × Bytes t
lead-written false s a t b q = let same = got-rest 0 s a t q in (same, subst Bytes same b)
lead-written true s a t b q =
    let f = number-front false (λ b. eqb b 255) s a t b q in
    let is = eqb-true a 255 (f.each a (here refl)).1 in
    (f.is ∙ ap (λ (c : ℕ). c ∷ t) is, f.bytes)

-- **A record that keeps the layout is the record of what it says, byte for byte.**
pub cover-written : (R : Rules) (N : Net) (k : ℕ) (s : List ℕ) (r : Record) (t : List ℕ) → Bytes s → cover_reader R N k s ≡ got r t → s ≡ cover_bytes R r.period r.entries
cover-written R N k s r t b q =
    let x = front-got R (from_front R (size N) k N.inputs) s r t (sym (cover_stages R N k s) ∙ q) in
    let a = x.0 in
    let y = front-parts R s a x.1 x.2 in
    let f0 = lead-written w s y.0 y.1 b y.3 in
    let f1 = number-front w (between 1 R.period) y.1 a.period y.2 f0.1 y.4 in
    let f2 = number-front w (between 1 R.luts) y.2 a.luts x.1 f1.bytes y.5 in
    let z = then-got (luts_reader w (size N) k a.luts N.inputs x.1) (from_luts a.period) r t x.3 in
    let f3 = luts-written w (size N) k a.luts N.inputs x.1 z.0 z.1 f2.bytes z.2 in
    let end = end_none (record { period = a.period; entries = z.0 }) z.1 r t z.3 in
    let is = (at_end-got 13 (record { period = a.period; entries = z.0 }) z.1 r t z.3).0 in
    subst (λ (v : Record). s ≡ cover_bytes R v.period v.entries) is (joined a.period a.luts z.0 f0.0 f1.is f2.is f3.0 end f3.2)
  where
    w : Bool
    w = R.wide

    end_none : {A : Type 0} (a : A) (s : List ℕ) (c : A) (t : List ℕ) → at_end 13 a s ≡ got c t → s ≡ []
    end_none a [] c t e = refl
    end_none a (d ∷ s) c t e = absurd (refused-not-got 13 c t e)

    joined : (p n : ℕ) (es : List Entry) {s s0 s1 s2 s3 : List ℕ} → s ≡ lead_bytes w ++ s0 → s0 ≡ numbers_in w (p ∷ []) ++ s1 → s1 ≡ numbers_in w (n ∷ []) ++ s2
        → s2 ≡ all_lut_bytes w es ++ s3 → s3 ≡ [] → length es ≡ n → s ≡ cover_bytes R p es
    joined p n es p0 p1 p2 p3 end len =
        p0 ∙ ap (λ (l : List ℕ). lead_bytes w ++ l)
        (p1 ∙ ap (λ (l : List ℕ). numbers_in w (p ∷ []) ++ l)
        (p2 ∙ ap₂ (λ (m : ℕ) (l : List ℕ). numbers_in w (m ∷ []) ++ l) (sym len) (p3 ∙ ap (λ (l : List ℕ). all_lut_bytes w es ++ l) end ∙ append-nil (all_lut_bytes w es)))
        ∙ sym (numbers_cons w p (length es ∷ []) (all_lut_bytes w es)))
        ∙ unfold cover_bytes in refl
