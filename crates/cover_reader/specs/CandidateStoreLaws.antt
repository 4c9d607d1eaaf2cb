-- Laws of storing LUTs in the arrays, one after the other.
use Rattle.std.specs.Prelude.{◌≡◌, refl, Bool, ℤ, pos, length, drop, Ok, Err}
use Rattle.std.proofs.Common.{sym, ◌∙◌, zero-add, get_or-drop}
use Rattle.std.proofs.Math.Path.{ap, ap₂}
use mathlib.Core.List.{List, [], ◌∷◌, ◌++◌}
use Prim.Native.Nat.{ℕ, zero, suc, ◌+◌, ◌-◌, ◌*◌, ◌≤◌, ◌<◌, zero-le}
use Rattle.std.proofs.Math.Numerals.{add-one}
use Rattle.std.proofs.Math.Decide.{dec_lt}
use native.Mathlib.Omega.{arith}
use Rattle.std.proofs.Math.ListN.{get_or, set, length-set}
use Rattle.std.proofs.Math.Seq.{get_or-set_same, get_or-set_other}
use borrow.Author.Count.{below_more}
use Rattle.limits.specs.Limits.{most_pins, depth_room}
use Rattle.refusals.specs.declared.Refusal.{Refusal}
use Rattle.refusals.specs.Refusals.{number_of}
use Rattle.sequences.specs.Listed.{listed_same}
use Rattle.sequences.specs.Stored.{Stored}
use Rattle.net_model.specs.Arrays.{stride, copy_at, copies_from}
use Rattle.net_model.specs.ArrayLaws.{copies-listed}
use Rattle.net_model.specs.Copies.{Copy, copy}
use Rattle.cover_theory.specs.Key.{Entry}
use Rattle.net_bytes.specs.Reading.{and_then, got, refused}
use Rattle.net_bytes.specs.Readers.{then-goes, then-stops, behind, behind-none, behind-one, behind-stops, behind-all}
use Rattle.cover_records.specs.CoverBytes.{lut_reader, luts_reader}
use Rattle.cover_records.specs.Held.{Held, lut_at, luts_from, luts_in}
use Rattle.cover_records.specs.HeldLaws.{luts_in-next, luts_in-same}
use Rattle.cover_rows.specs.declared.Row.{Row}
use Rattle.cover_rows.specs.LutParts.{row_entry, Shallow, LutRead}
use Rattle.cover_reader.specs.declared.Rows.{Rows}
use Rattle.cover_reader.specs.Reads.{held_in}
use Rattle.cover_reader.specs.LutsStored.{Same, nodes_of, backs_of, RowStored, Narrow, Flat, LutStored}
use Rattle.net_fields.specs.declared.Read.{Read}

-- ---- the places of a LUT in the slice

module _ (n i : ℕ) (row : Row) (old : List ℕ) (h : i < n) (room : (2 + 2 * most_pins) * n ≤ length old) {mid new : List ℕ}
    (a : Stored (set (set old i row.root) (n + i) row.size) (nodes_of n i) row.nodes most_pins mid) (b : Stored mid (backs_of n i) row.backs most_pins new) where
  one : List ℕ
  one = set old i row.root

  both : List ℕ
  unfolding one
  both = set one (n + i) row.size

  long-one : length one ≡ length old
  unfolding one
  long-one = length-set old i row.root

  long-both : length both ≡ length old
  unfolding one both
  long-both = length-set one (n + i) row.size ∙ long-one

  -- a place that is neither of the two
  other : (p : ℕ) → ¬ (p ≡ i) → ¬ (p ≡ n + i) → get_or both p 0 ≡ get_or old p 0
  unfolding one both
  other p x y = get_or-set_other one (n + i) p row.size 0 y ∙ get_or-set_other old i p row.root 0 x

  -- a place before the leaves
  before : (p : ℕ) → p < nodes_of n i → get_or new p 0 ≡ get_or both p 0
  unfolding one both
  before p l = b.below p (omega arith) ∙ a.below p l

  pub row-stored : RowStored n i row old new
  unfolding one both
  row-stored = record {
    root = before i (omega arith) ∙ get_or-set_other one (n + i) i row.size 0 (omega arith) ∙ get_or-set_same old i row.root 0 (omega arith);
    size = before (n + i) (omega arith) ∙ get_or-set_same one (n + i) row.size 0 (omega (arith, long-one));
    node = λ j l. b.below (nodes_of n i + j) (omega arith) ∙ a.here j l;
    back = b.here;
    roots = λ j l. before j (omega arith) ∙ other j (omega arith) (omega arith);
    sizes = λ j l. before (n + j) (omega arith) ∙ other (n + j) (omega arith) (omega arith);
    nodes = λ m l. before (2 * n + m) (omega arith) ∙ other (2 * n + m) (omega arith) (omega arith);
    backs = λ m l. b.below ((2 + most_pins) * n + m) (omega arith) ∙ a.above ((2 + most_pins) * n + m) (omega arith) ∙ other ((2 + most_pins) * n + m) (omega arith) (omega arith);
    long = b.long ∙ a.long ∙ long-both;
  }

entry-path : {r r' : ℕ} {L L' : List Copy} {z z' : ℤ} {t t' : ℕ} → r ≡ r' → L ≡ L' → z ≡ z' → t ≡ t'
    → ◌≡◌ {A = Entry} (record { root = r; leaves = L; lag = z; table = t }) (record { root = r'; leaves = L'; lag = z'; table = t' })
entry-path {r} {r'} {L} {L'} {z} {z'} {t} {t'} er e_l ez et =
    ap₂ {C = Entry} (λ (x : ℕ) (l : List Copy). record { root = x; leaves = l; lag = z; table = t }) er e_l
    ∙ ap₂ {C = Entry} (λ (x : ℤ) (y : ℕ). record { root = r'; leaves = L'; lag = x; table = y }) ez et

-- ---- a LUT behind those below it

module _ (n i : ℕ) (row : Row) (old new : List ℕ) (lags : List ℤ) (tables : List ℕ) (so : RowStored n i row old new) (hi : i < n) (six : row.size ≤ most_pins)
    (ll : n ≤ length lags) (lt : n ≤ length tables) (few : Narrow (held_in n old lags tables) i) where
  w : Held
  w = held_in n old lags tables

  y : Held
  y = held_in n new (set lags i row.lag) (set tables i row.table)

  -- a place of a part
  in_part : (l : List ℕ) (a m p : ℕ) → a + m ≡ p → get_or (drop a l) m 0 ≡ get_or l p 0
  in_part l a m p e = get_or-drop a l m 0 ∙ ap (λ (x : ℕ). get_or l x 0) e

  new-size : get_or (drop n new) i 0 ≡ row.size
  new-size = get_or-drop n new i 0 ∙ so.size

  old-size : (j : ℕ) → j < i → get_or (drop n new) j 0 ≡ get_or (drop n old) j 0
  old-size j h = get_or-drop n new j 0 ∙ so.sizes j h ∙ sym (get_or-drop n old j 0)

  new-node : (m : ℕ) → m < most_pins → get_or (drop (2 * n) new) (stride * i + m) 0 ≡ get_or row.nodes m 0
  new-node m h = in_part new (2 * n) (stride * i + m) (nodes_of n i + m) (omega arith) ∙ so.node m h

  new-back : (m : ℕ) → m < most_pins → get_or (drop ((2 + most_pins) * n) new) (stride * i + m) 0 ≡ get_or row.backs m 0
  new-back m h = in_part new ((2 + most_pins) * n) (stride * i + m) (backs_of n i + m) (omega arith) ∙ so.back m h

  old-node : (m : ℕ) → m < stride * i → get_or (drop (2 * n) new) m 0 ≡ get_or (drop (2 * n) old) m 0
  old-node m h = get_or-drop (2 * n) new m 0 ∙ so.nodes m h ∙ sym (get_or-drop (2 * n) old m 0)

  old-back : (m : ℕ) → m < stride * i → get_or (drop ((2 + most_pins) * n) new) m 0 ≡ get_or (drop ((2 + most_pins) * n) old) m 0
  old-back m h = get_or-drop ((2 + most_pins) * n) new m 0 ∙ so.backs m h ∙ sym (get_or-drop ((2 + most_pins) * n) old m 0)

  new-lut : lut_at y i ≡ row_entry row
  unfolding y lut_at
  new-lut = entry-path so.root
      (ap (copies_from (drop (2 * n) new) (drop ((2 + most_pins) * n) new) (stride * i)) new-size
      ∙ listed_same (copies-listed (drop (2 * n) new) (drop ((2 + most_pins) * n) new)) (copies-listed row.nodes row.backs) (stride * i) 0 row.size
      (λ m h. ap₂ copy (new-node m (omega arith)) (new-back m (omega arith)) ∙ ap (copy_at row.nodes row.backs) (sym (zero-add m))))
      (get_or-set_same lags i row.lag (pos 0) (omega arith))
      (get_or-set_same tables i row.table 0 (omega arith))

  old-lut : (j : ℕ) → j < i → lut_at y j ≡ lut_at w j
  unfolding w y lut_at
  old-lut j h =
      let most = few j h in
      entry-path (so.roots j h)
      (ap (copies_from (drop (2 * n) new) (drop ((2 + most_pins) * n) new) (stride * j)) (old-size j h)
      ∙ listed_same (copies-listed (drop (2 * n) new) (drop ((2 + most_pins) * n) new)) (copies-listed (drop (2 * n) old) (drop ((2 + most_pins) * n) old)) (stride * j) (stride * j) (get_or (drop n old) j 0)
      (λ m b. ap₂ copy (old-node (stride * j + m) (omega arith)) (old-back (stride * j + m) (omega arith))))
      (get_or-set_other lags i j row.lag (pos 0) (omega arith))
      (get_or-set_other tables i j row.table 0 (omega arith))

  still-few : Narrow y (i + 1)
  unfolding y
  still-few = below_more _ _ (λ j h. rw (old-size j h) (few j h)) (rw new-size six)

  still-small : Flat w i → Shallow row.backs → Flat y (i + 1)
  unfolding w y
  still-small before fresh m h = go (dec_lt m (stride * i))
    where
      go : Dec (m < stride * i) → get_or (drop ((2 + most_pins) * n) new) m 0 < depth_room
      go (yes l) = let e = old-back m l in let o = before m l in omega arith
      go (no q) =
          let place : stride * i + (m - stride * i) ≡ m = omega arith in
          let e = ap (λ (k : ℕ). get_or (drop ((2 + most_pins) * n) new) k 0) (sym place) ∙ new-back (m - stride * i) (omega arith) in
          let o = fresh (m - stride * i) in
          omega (arith, e, o)

  pub lut-stored : LutStored i row (held_in n old lags tables) (held_in n new (set lags i row.lag) (set tables i row.table))
  unfolding w y
  lut-stored = record {
    luts = luts_in-next y i ∙ ap₂ (λ (l : List Entry) (e : Entry). l ++ (e ∷ [])) (luts_in-same y w i old-lut) new-lut;
    few = still-few;
    small = still-small;
  }

-- the LUTs of the record, none and one more
luts-zero : (two : Bool) (nodes k least : ℕ) (s : List ℕ) → luts_reader two nodes k zero least s ≡ got [] s
unfolding luts_reader
luts-zero two nodes k least s = refl

luts-more : (two : Bool) (nodes k n least : ℕ) (s : List ℕ)
    → luts_reader two nodes k (suc n) least s ≡ and_then (lut_reader two nodes k least s) (λ e t. and_then (luts_reader two nodes k n (suc e.root) t) (λ es u. got (e ∷ es) u))
unfolding luts_reader
luts-more two nodes k n least s = refl

-- i of the n LUTs are read and stored; the next root is at least `least`
pub record LutsSoFar (two : Bool) (s : List ℕ) (at nodes k I n : ℕ) (z : Held) (next least i : ℕ) : Type 0 where
  pub result : luts_reader two nodes k n I (drop at s) ≡ behind (luts_in z i) (luts_reader two nodes k (n - i) least (drop next s))
  pub most : i ≤ n
  pub few : Narrow z i
  pub small : Flat z i

module _ (two : Bool) (s : List ℕ) (at nodes k I n : ℕ) where
  pub luts-none : (z : Held) → LutsSoFar two s at nodes k I n z at I 0
  unfolding luts_in luts_from
  luts-none z =
      let all : n ≡ n - 0 = omega arith in
      record {
        result = behind-none (luts_reader two nodes k n I (drop at s)) ∙ ap (λ (m : ℕ). behind [] (luts_reader two nodes k m I (drop at s))) all;
        most = zero-le;
        few = λ i h. absurd (omega arith);
        small = λ m h. absurd (omega arith);
      }

  module _ (z : Held) (next least i : ℕ) (so : LutsSoFar two s at nodes k I n z next least i) where
    done : List Entry
    done = luts_in z i

    one_more : i < n → luts_reader two nodes k n I (drop at s)
        ≡ behind done (and_then (lut_reader two nodes k least (drop next s)) (λ e t. and_then (luts_reader two nodes k (n - (i + 1)) (suc e.root) t) (λ es u. got (e ∷ es) u)))
    unfolding done
    one_more h =
        let left : n - i ≡ suc (n - (i + 1)) = omega arith in
        so.result ∙ ap (λ (m : ℕ). behind done (luts_reader two nodes k m least (drop next s))) left ∙ ap (behind done) (luts-more two nodes k (n - (i + 1)) least (drop next s))

    pub luts-one : (r : Read Row) (y : Held) (after : ℕ) → i < n → LutRead two s next nodes k least (Ok r) → LutStored i r.value z y → after ≡ r.value.root + 1
        → LutsSoFar two s at nodes k I n y r.at after (i + 1)
    unfolding done
    luts-one r y after h e st is =
        let row = r.value in
        record {
          result = one_more h ∙ ap (behind done) (then-goes _ e.result)
              ∙ behind-one done (row_entry row) (luts_reader two nodes k (n - (i + 1)) (suc row.root) (drop r.at s))
              ∙ ap₂ (λ (l : List Entry) (b : ℕ). behind l (luts_reader two nodes k (n - (i + 1)) b (drop r.at s))) (sym st.luts) (sym (is ∙ add-one row.root));
          most = omega arith;
          few = st.few;
          small = st.small so.small e.keeps.small;
        }

    pub luts-stop : {j : Refusal} → i < n → LutRead two s next nodes k least (Err j) → luts_reader two nodes k n I (drop at s) ≡ refused (number_of j)
    luts-stop {j} h e = one_more h ∙ ap (behind done) (then-stops _ e.result) ∙ behind-stops done (number_of j)

    pub luts-all : n ≤ i → luts_reader two nodes k n I (drop at s) ≡ got (luts_in z n) (drop next s)
    unfolding done
    luts-all h =
        let most = so.most in
        let none : n - i ≡ 0 = omega arith in
        let end : i ≡ n = omega arith in
        so.result ∙ ap (λ (m : ℕ). behind done (luts_reader two nodes k m least (drop next s))) none ∙ ap (behind done) (luts-zero two nodes k least (drop next s))
        ∙ behind-all done (drop next s) ∙ ap (λ (m : ℕ). got (luts_in z m) (drop next s)) end

    pub luts-small : n ≤ i → Flat z n
    luts-small h m l = let most = so.most in so.small m (omega arith)

-- the arrays are still the lent ones after two steps
pub same-then : {a b c : Rows} → Same a b → Same b c → Same a c
same-then s t = record {
  rows = t.rows ∙ s.rows;
  lags = t.lags ∙ s.lags;
  tables = t.tables ∙ s.tables;
  rows_long = t.rows_long ∙ s.rows_long;
  lags_long = t.lags_long ∙ s.lags_long;
  tables_long = t.tables_long ∙ s.tables_long;
}
