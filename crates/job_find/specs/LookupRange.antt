-- Laws: the place told lies behind what stands before the LUTs, and within the bytes of a record; no other number than 19 is told.
use Rattle.std.specs.Prelude.{◌≡◌, refl, Bool, true, false, cond, ◌&&◌, List, [], ◌∷◌, ℕ, zero, suc, ◌+◌, ◌-◌, ◌*◌, ◌/◌, ◌%◌, ◌^◌, ◌≤◌, ◌<◌, ltb, eqb, length}
use Rattle.std.proofs.Common.{sym, ap, ◌∙◌, mod-lt, mul-le-mul_right, suc-mul, zero-mul, arith, ltb-true, lit<, length-append}
use Rattle.std.proofs.lemmas.Bool.{false≢true}
use Rattle.std.proofs.lemmas.Nat.{ones-le}
use Rattle.limits.specs.Courses.{long}
use Rattle.limits.specs.Limits.{cover_area, most_depth_bytes, most_items, most_k, most_pins}
use Rattle.limits.specs.declared.Rules.{Rules}
use Rattle.net_bytes.specs.Reading.{Result, Reader, ◌>>=◌, give, check, times, between, got, refused}
use Rattle.net_bytes.specs.Readers.{got-value, then-got, check-got, byte-got}
use Rattle.net_bytes.specs.Short.{number_bytes, table_bytes-most}
use Rattle.net_bytes.specs.Sound.{between-true}
use Rattle.net_bytes.specs.Walk.{table_byte, from_bytes, first}
use Rattle.cover_records.specs.CoverBytes.{cover_byte, cover_number, not_zero, leaf_map_ok, depth_reader, leaves_from, rising_leaves, from_signed, root_reader, lut_body, lead_reader}
use Rattle.cover_records.specs.CoverStages.{front-got, front-parts, front_ranges, got-rest}
use Rattle.cover_records.specs.Roomy.{lut_room, record_bytes}
use Rattle.job_find.specs.RootLookup.{Lookup, found, absent, turned_back, any_node, look_luts, look_reader, told, look_up, find_root}
use Rattle.job_find.specs.Frames.{framed_lut}
use Rattle.job_find.specs.Unread.{from_root, look_more, root_below, root-not-below}
use Rattle.job_find.specs.LookupLaws.{number-length, found-not-absent, found-same, found-not-back, absent-not-back}

-- ---- bytes taken

-- m takes at most c bytes
record Taken {A : Type 0} (c : ℕ) (m : Reader A) : Type 0 where
  most : (s : List ℕ) (a : A) (r : List ℕ) → m s ≡ got a r → length s ≤ c + length r

taken-give : {A : Type 0} (b : A) → Taken 0 (give b)
taken-give b = record { most = λ s a r e. let h = ap length (got-rest b s a r e) in omega arith }

taken-check : {A : Type 0} (t : Bool) (n : ℕ) (b : A) → Taken 0 (check t n b)
taken-check t n b = record { most = λ s a r e. let h = ap length (check-got t n b s a r e).2 in omega arith }

taken-number : (w : Bool) (ok : ℕ → Bool) → Taken (number_bytes w) (cover_number w ok)
taken-number w ok = record { most = λ s a r e. let h = number-length w ok s a r e in omega arith }

module _ {A B : Type 0} where
  taken_then : {c d : ℕ} {m : Reader A} {f : A → Reader B} → Taken c m → ((a : A) → Taken d (f a)) → Taken (c + d) (m >>= f)
  taken_then {c} {d} {m} {f} x y = record { most = λ s b r e. go s b r (then-got (m s) f b r e) }
    where
      go : (s : List ℕ) (b : B) (r : List ℕ) → (a : A) × (t : List ℕ) × (m s ≡ got a t) × (f a t ≡ got b r) → length s ≤ c + d + length r
      go s b r z = let p = x.most s z.0 z.1 z.2 in let q = (y z.0).most z.1 b r z.3 in omega arith

-- a byte that passed its test
taken-byte : {A : Type 0} {d : ℕ} (ok : ℕ → Bool) {f : ℕ → Reader A} → ((n : ℕ) → ok n ≡ true → Taken d (f n)) → Taken (1 + d) (cover_byte ok >>= f)
taken-byte {A} {d} ok {f} y = record { most = λ s b r e. go s b r (then-got (cover_byte ok s) f b r e) }
  where
    go : (s : List ℕ) (b : A) (r : List ℕ) → (n : ℕ) × (t : List ℕ) × (cover_byte ok s ≡ got n t) × (f n t ≡ got b r) → length s ≤ 1 + d + length r
    go s b r z =
        let p = number-length false ok s z.0 z.1 z.2 in
        let q = (y z.0 (byte-got 13 13 ok s z.0 z.1 z.2)).most z.1 b r z.3 in
        omega arith

taken-most : {A : Type 0} {c d : ℕ} {m : Reader A} → c ≤ d → Taken c m → Taken d m
taken-most h x = record { most = λ s a r e. let p = x.most s a r e in omega arith }

taken-all : {A : Type 0} {c : ℕ} {m : Reader A} → Taken c m → (n : ℕ) → Taken (n * c) (times n m)
unfolding times
taken-all {c = c} x zero = taken-most (omega (arith, zero-mul c)) (taken-give [])
taken-all {c = c} x (suc n) = taken-most (omega (arith, suc-mul n c)) (taken_then x λ b. taken_then (taken-all x n) λ l. taken-give (b ∷ l))

taken-times : {A : Type 0} {c n most : ℕ} {m : Reader A} → n ≤ most → Taken c m → Taken (most * c) (times n m)
taken-times {c = c} {n = n} h x = taken-most (mul-le-mul_right c h) (taken-all x n)

-- the map's highest bit tells of the lag
one-lag : (n b : ℕ) → leaf_map_ok n b ≡ true → b / 64 ≤ 1
one-lag n b e = go (ltb b 128) (ltb-true b 128) e
  where
    go : (t : Bool) → (t ≡ true → b < 128) → (t && ltb (b % 64) (2 ^ n)) ≡ true → b / 64 ≤ 1
    go true f e = let h = f refl in omega arith
    go false f e = absurd (false≢true e)

-- what stands behind a root
abbrev body_room : Bool → ℕ
body_room w = 2 + (most_pins * number_bytes w + (most_pins * most_depth_bytes + (number_bytes w + most_items)))

taken-body : (w : Bool) (nodes root : ℕ) → Taken (body_room w) (lut_body w nodes most_k root)
unfolding lut_body depth_reader
taken-body w nodes root =
    taken-most (omega arith) (taken-byte (between 1 most_k) λ n hn.
    let few : n ≤ most_pins = (between-true 1 most_k n hn).1 in
    taken-byte (leaf_map_ok n) λ m hm.
    taken_then (taken-times few (taken-number w (λ b. ltb b nodes))) λ us.
    taken_then (taken-times (ones-le most_pins (m % 64) (mod-lt m (lit< tt))) (taken-number true not_zero)) λ ds.
    taken_then (taken-check (rising_leaves (leaves_from (m % 64) us ds)) 13 (leaves_from (m % 64) us ds)) λ L.
    taken_then (taken-times (one-lag n m hm) (taken-number w not_zero)) λ lags.
    taken_then (taken-times (table_bytes-most few) (taken-number false (table_byte n))) λ t.
    taken-give (record { root = root; leaves = L; lag = from_signed w (first lags); table = from_bytes t }))

-- ---- the place

-- n LUTs that stand c bytes behind the record's start
luts-place : (w : Bool) (g n least c : ℕ) (s : List ℕ) (o : ℕ) (r : List ℕ) → look_luts w (c + length s) g n least s ≡ got (found o) r → (c ≤ o) × (o ≤ c + n * lut_room w)
unfolding look_luts
luts-place w g zero least c s o r e = absurd (found-not-absent o (sym (got-value absent s (found o) r e)))
luts-place w g (suc n) least c s o r e =
    let x = then-got (root_reader w any_node least s) (from_root w (c + length s) g n s) (found o) r (sym (look_more w (c + length s) g n least s) ∙ e) in
    go x.0 x.1 (number-length w _ s x.0 x.1 x.2) x.3 (luts-place w g n) (ltb x.0 g) refl
  where
    stop : (t : Bool) → cond t (found (c + length s - length s)) absent ≡ found o → c ≡ o
    stop true h = let z = found-same (c + length s - length s) o h in omega arith
    stop false h = absurd (found-not-absent o (sym h))

    go : (root : ℕ) (behind : List ℕ) → length s ≡ number_bytes w + length behind → from_root w (c + length s) g n s root behind ≡ got (found o) r
        → ((least c : ℕ) (s : List ℕ) (o : ℕ) (r : List ℕ) → look_luts w (c + length s) g n least s ≡ got (found o) r → (c ≤ o) × (o ≤ c + n * lut_room w))
        → (t : Bool) → ltb root g ≡ t → (c ≤ o) × (o ≤ c + suc n * lut_room w)
    go root behind l h more false t =
        let same = stop (eqb root g) (got-value _ behind (found o) r (sym (root-not-below w (c + length s) g n s root behind t) ∙ h)) in
        (omega arith, omega (arith, suc-mul n (lut_room w)))
    go root behind l h more true t =
        let y = then-got (lut_body w any_node most_k root behind) (λ e after. look_luts w (c + length s) g n (suc root) after) (found o) r
        (sym (root_below w (c + length s) g n s root behind t) ∙ h) in
        let after = y.1 in
        let p = framed_lut w any_node most_k root behind y.0 after y.2 in
        let a = ap length p.is in
        let b = length-append p.used after in
        let k = (taken-body w any_node root).most behind y.0 after y.2 in
        let d = c + (length s - length after) in
        let total : c + length s ≡ d + length after = omega arith in
        let z = more (suc root) d after o r (ap (λ (m : ℕ). look_luts w m g n (suc root) after) (sym total) ∙ y.3) in
        (omega (arith, z.0), omega (arith, z.1, suc-mul n (lut_room w)))

told-found : (x : Result Lookup) (o : ℕ) → told x ≡ found o → (rest : List ℕ) × (x ≡ got (found o) rest)
told-found (got a rest) o e = (rest, ap (λ (b : Lookup). got b rest) e)
told-found (refused n) o e = absurd (found-not-back o 19 (sym e))

lead-length : (w : Bool) (s : List ℕ) (a : ℕ) (t : List ℕ) → lead_reader w s ≡ got a t → length s ≡ cond w 1 0 + length t
lead-length false s a t e = let h = ap length (got-rest 0 s a t e) in omega arith
lead-length true s a t e = number-length false _ s a t e

-- **The place of a root is at least 2 and within the bytes of a record.**
pub place-range : (R : Rules) (g : ℕ) (bytes : List ℕ) (o : ℕ) → look_up R g bytes ≡ found o → (2 ≤ o) × (o ≤ record_bytes R)
unfolding look_up look_reader
place-range R g bytes o e =
    let x = told-found (look_reader R (length bytes) g bytes) o e in
    let y = front-got R (λ period n. look_luts R.wide (length bytes) g n 0) bytes (found o) x.0 x.1 in
    let a = y.0 in
    let u = y.1 in
    let p = front-parts R bytes a u y.2 in
    let l0 = lead-length R.wide bytes p.0 p.1 p.3 in
    let l1 = number-length R.wide _ p.1 a.period p.2 p.4 in
    let l2 = number-length R.wide _ p.2 a.luts u p.5 in
    let some = one R.wide in
    let c = length bytes - length u in
    let total : length bytes ≡ c + length u = omega arith in
    let z = luts-place R.wide g a.luts 0 c u o x.0 (ap (λ (k : ℕ). look_luts R.wide k g a.luts 0 u) (sym total) ∙ y.3) in
    let few = mul-le-mul_right (lut_room R.wide) (front_ranges R bytes a u y.2).3 in
    (omega (arith, z.0), omega (arith, z.1, few))
  where
    one : (w : Bool) → 1 ≤ number_bytes w
    one true = omega arith
    one false = omega arith

pub find-range : (g : ℕ) (bytes : List ℕ) (o : ℕ) → find_root g bytes ≡ found o → (2 ≤ o) × (o ≤ cover_area)
find-range g bytes o e = place-range long g bytes o e

-- the LUTs tell a place or none
luts_tell : (w : Bool) (total g n least : ℕ) (s : List ℕ) (m : ℕ) (r : List ℕ) → ¬ (look_luts w total g n least s ≡ got (turned_back m) r)
unfolding look_luts
luts_tell w total g zero least s m r e = absent-not-back m (got-value absent s (turned_back m) r e)
luts_tell w total g (suc n) least s m r e =
    let x = then-got (root_reader w any_node least s) (from_root w total g n s) (turned_back m) r (sym (look_more w total g n least s) ∙ e) in
    go x.0 x.1 x.3 (luts_tell w total g n) (ltb x.0 g) refl
  where
    stop : (t : Bool) → cond t (found (total - length s)) absent ≡ turned_back m → ⊥
    stop true h = found-not-back (total - length s) m h
    stop false h = absent-not-back m h

    go : (root : ℕ) (behind : List ℕ) → from_root w total g n s root behind ≡ got (turned_back m) r
        → ((least : ℕ) (s : List ℕ) (m : ℕ) (r : List ℕ) → ¬ (look_luts w total g n least s ≡ got (turned_back m) r)) → (t : Bool) → ltb root g ≡ t → ⊥
    go root behind h more false t = stop (eqb root g) (got-value _ behind (turned_back m) r (sym (root-not-below w total g n s root behind t) ∙ h))
    go root behind h more true t =
        let y = then-got (lut_body w any_node most_k root behind) (λ e after. look_luts w total g n (suc root) after) (turned_back m) r (sym (root_below w total g n s root behind t) ∙ h) in
        more (suc root) y.1 m r y.3

-- "Answers: 19": no other number
pub only_19 : (R : Rules) (g : ℕ) (bytes : List ℕ) (n : ℕ) → look_up R g bytes ≡ turned_back n → n ≡ 19
unfolding look_up look_reader
only_19 R g bytes n e = go (look_reader R (length bytes) g bytes) refl e
  where
    never : (m : ℕ) (rest : List ℕ) → look_reader R (length bytes) g bytes ≡ got (turned_back m) rest → ⊥
    never m rest q =
        let y = front-got R (λ period k. look_luts R.wide (length bytes) g k 0) bytes (turned_back m) rest q in
        luts_tell R.wide (length bytes) g y.0.luts 0 y.1 m rest y.3

    back-same : (m : ℕ) → turned_back m ≡ turned_back n → n ≡ m
    back-same m h = cc

    go : (x : Result Lookup) → look_reader R (length bytes) g bytes ≡ x → told x ≡ turned_back n → n ≡ 19
    go (got (found o) rest) q h = absurd (found-not-back o n h)
    go (got absent rest) q h = absurd (absent-not-back n h)
    go (got (turned_back m) rest) q h = absurd (never m rest q)
    go (refused m) q h = back-same 19 h
