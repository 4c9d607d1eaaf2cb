-- The record of a key, in each mode, for limits that give room: its lags fit their signed number, it is within the cover area, and it reads back.
use Rattle.std.specs.Prelude.{◌≡◌, refl, Bool, ◌⊎◌, ℤ, pos, negsuc, neg_ℤ, ◌-ℤ◌, ◌≤ℤ◌, ◌<ℤ◌}
use Rattle.std.proofs.Common.{sym, ap₂, ◌∙◌, subst, inl, inr, le_trans, mul-le-mul}
use Rattle.std.proofs.Math.Path.{ap}
use Rattle.std.proofs.Math.Bool.{true, false, cond}
use mathlib.Core.List.{List, [], ◌∷◌, ◌++◌, map}
use Prim.Native.Nat.{ℕ, zero, suc, ◌+◌, ◌-◌, ◌*◌, ◌/◌, ◌^◌, ◌≤◌, ◌<◌}
use Rattle.std.proofs.Math.Nat.{mul-le-mul_left, mul-le-mul_right, suc-mul}
use native.Mathlib.Omega.{arith}
use Rattle.std.proofs.Math.ListN.{length, length-map, length-append}
use Rattle.std.proofs.Math.Pow.{pow_mono}
use Rattle.integers.specs.Parts.{ints, sub_parts, neg_parts}
use Rattle.integers.specs.Height.{height}
use Rattle.integers.proofs.Height.{height-parts}
use Rattle.integers.specs.Lag.{lag}
use Rattle.integers.proofs.Cover.{lag-lower, lag_upper}
use Rattle.sequences.specs.Member.{◌∈◌, here, there, not_in_nil, Within}
use Rattle.sequences.specs.Distinct.{Distinct, pigeonhole, distinct_cons, distinct_nil, length-remove}
use Rattle.net_model.specs.Net.{Net, Pin, IsGate, IsInput, size, pins}
use Rattle.net_model.specs.Checks.{Passed, Leading}
use Rattle.net_model.specs.Copies.{Copy, copy, Cut}
use Rattle.net_model.specs.Tables.{table_of}
use Rattle.cone_theory.specs.FewCopies.{gate_numbers, in_gate_numbers, length-gate_numbers}
use Rattle.cone_theory.specs.Ranks.{ranked, first_leaf}
use Rattle.cone_theory.specs.Reach.{reach_of, reach_of_le, cut-reach-leaf}
use Rattle.cone_values.specs.Values.{table-small}
use Rattle.label_theory.specs.Labels.{Mode}
use Rattle.label_theory.specs.Lower.{leaf-node}
use Rattle.label_bounds.specs.Floor.{floor}
use Rattle.label_theory.specs.Small.{least-small}
use Rattle.cover_theory.specs.Key.{KeyIn, Root, source, leaf, RisingNumbers, Entry, entries}
use Rattle.cover_period.specs.KeyOf.{entry_of, roots-gate}
use Rattle.limits.specs.Courses.{Offered, is-long, is-short}
use Rattle.limits.specs.declared.Rules.{Rules}
use Rattle.limits.specs.Limits.{most_count, most_k, most_pins}
use Rattle.net_bytes.specs.Walk.{table_bytes}
use Rattle.cover_records.specs.CoverBytes.{to_bytes, not_zero, numbers_in, leaf_map, depths, is_zero, half_range, signed_number, lag_bytes, lut_bytes, all_lut_bytes, lead_bytes, cover_bytes, cover_reader, Record}
use Rattle.cover_records.specs.Roomy.{Roomy, lut_room, record_bytes}
use Rattle.net_bytes.specs.Reading.{got}
use Rattle.net_bytes.specs.Short.{number_bytes}
use Rattle.cover_records.specs.RoundTrip.{SmallLag, up, down, Writable, AllWritable, none, next, record_back, length_to_bytes}

-- the rules that are offered give room
pub roomy : {R : Rules} → Offered R → Roomy R
roomy is-long = record { luts = omega arith; area = omega arith; lag = omega arith; depth = omega arith }
roomy is-short = record { luts = omega arith; area = omega arith; lag = omega arith; depth = omega arith }

-- the limits of R, as far as the record depends on them
pub record WithinLimits (R : Rules) (N : Net) (k : ℕ) : Type 0 where
  pub gate : 1 ≤ length N.gates
  pub gates : length N.gates ≤ R.gates
  pub counts : (v : ℕ) → IsGate N v → (p : Pin) → p ∈ pins N v → p.count ≤ most_count
  pub size : k ≤ most_k

-- a whole number from −m to m, where m is below half the range, fits a signed number
small-lag : (w : Bool) (m : ℕ) → m < half_range w → (z : ℤ) → neg_ℤ (pos m) ≤ℤ z → z ≤ℤ pos m → SmallLag w z
small-lag w m h (pos n) a b = up {n = n} (omega (arith, ints))
small-lag w m h (negsuc n) a b = down {n = n} (omega (arith, ints, neg_parts (pos m)))

module _ {R : Rules} {M : Mode} {N : Net} {k φ : ℕ} (room : Roomy R) (P : Passed N k) (l : WithinLimits R N k) (pos_φ : 1 ≤ φ) (K : KeyIn M N k φ) where
  -- **Lags of the written cover**: at least −M and below G.
  pub key-lag-low : (v : ℕ) → IsGate N v → neg_ℤ (pos (reach_of N)) ≤ℤ lag φ (K.label v)
  key-lag-low v g =
      lag-lower φ pos_φ (reach_of N) (K.label v)
      (let a = floor k φ P.sound (ranked P.reached) K.label K.least.labelling v g in
      omega (arith, ints, height-parts φ (pos 0) (reach_of N), sub_parts (pos 1) (pos (φ * reach_of N))))

  pub key-lag-high : (v : ℕ) → IsGate N v → lag φ (K.label v) <ℤ pos (length N.gates)
  key-lag-high v g = lag_upper φ pos_φ (length N.gates) (K.label v) (least-small N k φ P.sound K.label K.least v g)

  -- **within −3·G..3·G: −96..96 for 32 gates**
  pub key-lag-range : (v : ℕ) → IsGate N v → (neg_ℤ (pos (R.gates * most_count)) ≤ℤ lag φ (K.label v)) × (lag φ (K.label v) ≤ℤ pos (R.gates * most_count))
  key-lag-range v g =
      let a = key-lag-low v g in
      let b = key-lag-high v g in
      let c = reach_of_le N most_count l.counts in
      let d = l.gates in
      (omega (arith, ints, neg_parts (pos (reach_of N)), neg_parts (pos (R.gates * most_count))), omega (arith, ints))

  -- so they fit their signed number
  pub key-lag : (v : ℕ) → IsGate N v → SmallLag R.wide (lag φ (K.label v))
  key-lag v g = let r = key-lag-range v g in small-lag R.wide (R.gates * most_count) room.lag (lag φ (K.label v)) r.0 r.1

  -- a cut has a leaf
  some-leaf : (v : ℕ) (g : IsGate N v) → 1 ≤ length (K.cut v g).leaves
  some-leaf v g =
      let c = K.cut v g in
      let f = first_leaf (ranked P.reached) c.cone c.is_cone.gates (copy v 0) c.is_cone.root in
      let r = length-remove (c.is_leaves.complete f.leaf f.is_leaf) in
      omega arith

  writable : (least v : ℕ) → IsGate N v → least ≤ v → Writable R.wide (size N) k least (entry_of K v)
  writable least v g low =
      let c = K.cut v g in
      let e = K.is_leaves v g in
      let few = c.few in
      let six = l.size in
      record {
        low = low;
        high = g.high;
        some = rw e (some-leaf v g);
        few = rw e few;
        six = rw e (omega arith);
        rising = rw e c.is_leaves.rising;
        inside = λ y m. leaf-node P.sound c.is_leaves (subst (λ (L : List Copy). y ∈ L) e m);
        depth = λ y m.
            let a = cut-reach-leaf (ranked P.reached) c y (subst (λ (L : List Copy). y ∈ L) e m) in
            let b = mul-le-mul six (le_trans (reach_of_le N most_count l.counts) (mul-le-mul_right most_count l.gates)) in
            let d = room.depth in
            omega arith;
        lag = key-lag v g;
        table = table-small N v (K.cone v) (K.leaves v);
      }

  all-writable : (least : ℕ) (vs : List ℕ) → RisingNumbers vs → ((v : ℕ) → v ∈ vs → IsGate N v × (least ≤ v)) → AllWritable R.wide (size N) k least (map (entry_of K) vs)
  all-writable least [] r h = none
  all-writable least (v ∷ vs) r h =
      let a = h v (here refl) in
      next (writable least v a.0 a.1) (all-writable (suc v) vs r.1 (λ u m. ((h u (there m)).0, r.0 u m)))

  pub key-writable : AllWritable R.wide (size N) k N.inputs (entries K)
  unfolding entries
  key-writable = all-writable N.inputs K.roots K.rising (λ v m. let g = roots-gate K v m in (g, g.low))

  rising-distinct : (vs : List ℕ) → RisingNumbers vs → Distinct vs
  rising-distinct [] r = distinct_nil
  rising-distinct (v ∷ vs) r = distinct_cons (λ m. let a = r.0 v m in absurd (self a)) (rising-distinct vs r.1)
    where
      self : v < v → ⊥
      self h = omega arith

  length-entries : length (entries K) ≡ length K.roots
  unfolding entries
  length-entries = length-map K.roots (entry_of K)

  pub few-entries : length (entries K) ≤ length N.gates
  few-entries =
      let a = pigeonhole (rising-distinct K.roots K.rising) (λ v m. in_gate_numbers (roots-gate K v m)) in
      let b = length-gate_numbers N in
      let c = length-entries in
      omega arith

  -- some output reads a gate, as some gate leads to one
  some-root : {v : ℕ} → IsGate N v → Leading N v → (u : ℕ) × Root N K.leaves u
  some-root {v} g (Leading.output o i e) = (v, source o i e g)
  some-root g (Leading.along u p gu i e r) = some-root gu r

  some-entry : 1 ≤ length (entries K)
  some-entry =
      let g : IsGate N N.inputs = record { low = omega arith; high = (let a = l.gate in omega arith) } in
      let r = some-root g (P.leading N.inputs g) in
      let b = length-remove (K.all_roots r.0 r.1) in
      let c = length-entries in
      omega arith

  -- **The key's record reads back as its period and entries.**
  pub key_back : φ ≤ R.period → cover_reader R N k (cover_bytes R φ (entries K)) ≡ got (record { period = φ; entries = entries K }) []
  key_back h = record_back R N k φ (entries K) pos_φ h some-entry (le_trans few-entries (le_trans l.gates room.luts)) key-writable

  -- ---- its length

  length-depths : (L : List Copy) → length (depths L) ≤ 2 * length L
  unfolding depths
  length-depths [] = omega arith
  length-depths (y ∷ L) = go (not_zero y.back) (length-depths L)
    where
      go : (t : Bool) → length (depths L) ≤ 2 * length L → length (cond t (to_bytes 2 y.back ++ depths L) (depths L)) ≤ 2 * suc (length L)
      go true h = let a = length-append (to_bytes 2 y.back) (depths L) in let b = length_to_bytes 2 y.back in omega arith
      go false h = omega arith

  length-numbers : (w : Bool) (ns : List ℕ) → length (numbers_in w ns) ≡ number_bytes w * length ns
  length-numbers false ns = omega arith
  length-numbers true [] = refl
  length-numbers true (n ∷ ns) = let a = length-numbers true ns in omega arith

  length-lead : (w : Bool) → length (lead_bytes w) ≡ cond w 1 0
  length-lead false = refl
  length-lead true = refl

  length-lag : (w : Bool) (z : ℤ) → length (lag_bytes w z) ≤ number_bytes w
  length-lag w z = go (is_zero z)
    where
      go : (t : Bool) → length (cond t [] (numbers_in w (signed_number w z ∷ []))) ≤ number_bytes w
      go true = omega arith
      go false = let a = length-numbers w (signed_number w z ∷ []) in omega arith

  length-lut : (w : Bool) {least : ℕ} (e : Entry) → Writable w (size N) k least e → length (lut_bytes w e) ≤ lut_room w
  unfolding lut_bytes
  length-lut w e f =
      let vs = map (λ (y : Copy). y.node) e.leaves in
      let us = numbers_in w vs in
      let n = length e.leaves in
      let ts = to_bytes (table_bytes n) e.table in
      let a : length us ≡ number_bytes w * n = length-numbers w vs ∙ ap (λ (x : ℕ). number_bytes w * x) (length-map e.leaves (λ (y : Copy). y.node)) in
      let m : number_bytes w * n ≤ number_bytes w * most_pins = mul-le-mul_left (number_bytes w) f.six in
      let b = length-depths e.leaves in
      let c = length-lag w e.lag in
      let d = length_to_bytes (table_bytes n) e.table in
      let h : 2 ^ n ≤ 64 = pow_mono {i = n} {j = most_pins} f.six in
      let s = f.six in
      let p = length-append us (depths e.leaves) in
      let q = length-append (us ++ depths e.leaves) (lag_bytes w e.lag) in
      let r = length-append (us ++ depths e.leaves ++ lag_bytes w e.lag) ts in
      let o = length-append (numbers_in w (e.root ∷ [])) (n ∷ (leaf_map e.leaves + cond (is_zero e.lag) 0 64) ∷ us ++ depths e.leaves ++ lag_bytes w e.lag ++ ts) in
      let o' = length-numbers w (e.root ∷ []) in
      omega arith

  length-luts : (w : Bool) {least : ℕ} {es : List Entry} → AllWritable w (size N) k least es → length (all_lut_bytes w es) ≤ length es * lut_room w
  unfolding all_lut_bytes
  length-luts w none = omega arith
  length-luts w (next {e = e} {es = es} f fs) =
      let a = length-append (lut_bytes w e) (all_lut_bytes w es) in
      let b = length-lut w e f in
      let c = length-luts w fs in
      let d = suc-mul (length es) (lut_room w) in
      omega arith

  -- **Within the cover area: at most 962 bytes for 32 LUTs.**
  pub key-length : length (cover_bytes R φ (entries K)) ≤ R.area
  unfolding cover_bytes
  key-length =
      let w = R.wide in
      let es = entries K in
      let a = length-luts w key-writable in
      let b : length es * lut_room w ≤ R.luts * lut_room w = mul-le-mul_right (lut_room w) (le_trans few-entries (le_trans l.gates room.luts)) in
      let c = length-append (lead_bytes w) (numbers_in w (φ ∷ length es ∷ []) ++ all_lut_bytes w es) in
      let d = length-append (numbers_in w (φ ∷ length es ∷ [])) (all_lut_bytes w es) in
      let e = length-numbers w (φ ∷ length es ∷ []) in
      let f = length-lead w in
      let g = room.area in
      omega arith
