-- Laws: the reader of a cover record looks at no more bytes than a record takes at most, 962 by document 01's limits.
use Rattle.std.specs.Prelude.{◌≡◌, refl, Bool, true, false, cond, ◌&&◌, ◌∷◌, ℕ, zero, suc, ◌+◌, ◌*◌, ◌/◌, ◌%◌, ◌^◌, ◌≤◌, ◌<◌, ltb}
use Rattle.std.proofs.lemmas.Bool.{false≢true}
use Rattle.std.proofs.Common.{mul-le-mul_right, mod-lt, zero-mul, suc-mul, arith, ltb-true, lit<}
use Rattle.std.proofs.lemmas.Nat.{ones-le}
use Rattle.net_model.specs.Net.{Net, size}
use Rattle.limits.specs.Courses.{long}
use Rattle.limits.specs.declared.Rules.{Rules}
use Rattle.limits.specs.Limits.{cover_area, most_depth_bytes, most_k, most_pins}
use Rattle.net_bytes.specs.Walk.{table_bytes}
use Rattle.net_bytes.specs.Sound.{between-true}
use Rattle.net_bytes.specs.Short.{Short, Anything, Nothing, goes, short-known, short-give, short-check, short_end, short-byte, short-number, short-most, short-then, short-times, table_bytes-most}
use Rattle.cover_records.specs.CoverBytes.{not_zero, leaf_map_ok, leaves_from, rising_leaves, depth_reader, lut_body, lut_reader, luts_reader, lead_reader, cover_reader}
use Rattle.cover_records.specs.Roomy.{lut_room, record_bytes}

short-depth : Short most_depth_bytes Anything depth_reader
unfolding depth_reader
short-depth = short-known (λ n h. tt) (short-number true 13 13 not_zero)

-- the map's highest bit tells of the lag
one-lag : (n b : ℕ) → leaf_map_ok n b ≡ true → b / 64 ≤ 1
one-lag n b e = go (ltb b 128) (ltb-true b 128) e
  where
    go : (t : Bool) → (t ≡ true → b < 128) → (t && ltb (b % 64) (2 ^ n)) ≡ true → b / 64 ≤ 1
    go true f e = let h = f refl in omega arith
    go false f e = absurd (false≢true e)

short-lut : (w : Bool) (nodes k least : ℕ) → k ≤ most_k → Short (lut_room w) Anything (lut_reader w nodes k least)
unfolding lut_reader lut_body
short-lut w nodes k least h = short-most (omega arith)
    (short-then (short-number w 13 13 _) λ root hroot.
    short-then (short-byte 13 13 _) λ n hn.
    let few : n ≤ most_pins = omega (arith, between-true 1 k n hn.1) in
    short-then (short-byte 13 13 _) λ map hmap.
    short-then (short-times few (short-number w 13 13 _)) λ us hus.
    short-then (short-times (ones-le most_pins (map % 64) (mod-lt map (lit< tt))) short-depth) λ ds hds.
    short-then (short-check {P = Anything} (rising_leaves (leaves_from (map % 64) us ds)) 13 (leaves_from (map % 64) us ds) tt) λ leaves hl.
    short-then (short-times (one-lag n map hmap.1) (short-number w 13 13 _)) λ lags hlags.
    short-then (short-times (table_bytes-most few) (short-byte 13 13 _)) λ table htable. short-give)

short-luts : (w : Bool) (nodes k n least : ℕ) → k ≤ most_k → Short (n * lut_room w) Anything (luts_reader w nodes k n least)
unfolding luts_reader
short-luts w nodes k zero least h = record { steady = λ n s b l. goes tt b (omega (arith, zero-mul (lut_room w))) }
short-luts w nodes k (suc n) least h =
    short-most (omega (arith, suc-mul n (lut_room w)))
    (short-then (short-lut w nodes k least h) λ e he. short-then (short-luts w nodes k n (suc e.root) h) λ es hes. short-give {a = e ∷ es})

short-lead : (w : Bool) → Short (cond w 1 0) Anything (lead_reader w)
short-lead false = short-give
short-lead true = short-known (λ n h. tt) (short-byte 13 13 _)

-- **A cover record has at most so many bytes under rules R**,
pub short-cover : (R : Rules) (N : Net) (k : ℕ) → k ≤ most_k → Short (record_bytes R) Nothing (cover_reader R N k)
unfolding cover_reader
short-cover R N k h = short-most (omega arith)
    (short-then (short-lead R.wide) λ lead hl.
    short-then (short-number R.wide 13 13 _) λ period hp.
    short-then (short-number R.wide 13 13 _) λ n hn.
    short-then (short-most (mul-le-mul_right (lut_room R.wide) (between-true 1 R.luts n hn).1) (short-luts R.wide (size N) k n N.inputs h)) λ es hes. short_end 13 _)

-- **962 under document 01's.**
pub record_bytes-long : record_bytes long ≡ cover_area
record_bytes-long = refl
