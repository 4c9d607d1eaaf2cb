-- Laws: what the reader of a LUT guarantees of the LUT that it gives.
use Rattle.std.specs.Prelude.{◌≡◌, refl, Bool, true, false, ◌&&◌, cond, List, [], ◌∷◌, ℕ, suc, ◌/◌, ◌%◌, ◌≤◌, ◌<◌, leb, ltb, length}
use Rattle.std.proofs.Common.{sym, ap, ◌∙◌, subst, ltb-true, leb-true}
use Rattle.std.proofs.lemmas.Bool.{false≢true}
use Rattle.std.specs.Int.Count.{ones}
use Rattle.std.specs.Int.Signed.{mag}
use Rattle.sequences.specs.Member.{here, there}
use Rattle.net_model.specs.Tables.{bit}
use Rattle.net_model.specs.Copies.{Copy, copy, Rising}
use Rattle.cover_theory.specs.Key.{Entry}
use Rattle.net_bytes.specs.Reading.{check, times, between, got}
use Rattle.net_bytes.specs.Readers.{Each, each_nil, each_cons, got-value, then-got, check-got, byte-got, number-got, times-got}
use Rattle.net_bytes.specs.Sound.{between-true}
use Rattle.net_bytes.specs.Walk.{table_bytes, table_byte, from_bytes, first, rest}
use Rattle.cover_records.specs.CoverBytes.{cover_byte, cover_number, not_zero, leaf_map_ok, depth_reader, leaves_from, rising_leaves, half_range, from_signed, root_reader, lut_body, lut_reader}
use Rattle.cover_records.specs.LutStages.{from_table, from_lags, from_leaves, from_depths, from_nodes, from_map, from_size, body_stages, lut_stages}
use Rattle.cover_rows.specs.RisingLaws.{rising-true}
use Rattle.cover_rows.specs.SignedLaws.{signed-small}

-- what a LUT that was read keeps
pub record LutFacts (w : Bool) (nodes k least : ℕ) (e : Entry) : Type 0 where
  pub low : least ≤ e.root
  pub high : e.root < nodes
  pub few : length e.leaves ≤ k
  pub rising : Rising e.leaves
  pub node : Each (λ (y : Copy). y.node < nodes) e.leaves
  pub lag : mag e.lag ≤ half_range w

length-leaves_from : (b : ℕ) (us ds : List ℕ) → length (leaves_from b us ds) ≡ length us
unfolding leaves_from
length-leaves_from b [] ds = refl
length-leaves_from b (u ∷ us) ds = go (bit b 0) (length-leaves_from (b / 2) us (rest ds)) (length-leaves_from (b / 2) us ds)
  where
    go : (t : Bool) → length (leaves_from (b / 2) us (rest ds)) ≡ length us → length (leaves_from (b / 2) us ds) ≡ length us
        → length (cond t (copy u (first ds) ∷ leaves_from (b / 2) us (rest ds)) (copy u 0 ∷ leaves_from (b / 2) us ds)) ≡ suc (length us)
    go true x y = ap suc x
    go false x y = ap suc y

each-leaves_from : (P : ℕ → Type 0) (b : ℕ) (us ds : List ℕ) → Each P us → Each (λ (y : Copy). P y.node) (leaves_from b us ds)
unfolding leaves_from
each-leaves_from P b [] ds h = each_nil (λ (y : Copy). P y.node)
each-leaves_from P b (u ∷ us) ds h =
    go (bit b 0) (each-leaves_from P (b / 2) us (rest ds) (λ a m. h a (there m))) (each-leaves_from P (b / 2) us ds (λ a m. h a (there m)))
  where
    go : (t : Bool) → Each (λ (y : Copy). P y.node) (leaves_from (b / 2) us (rest ds)) → Each (λ (y : Copy). P y.node) (leaves_from (b / 2) us ds)
        → Each (λ (y : Copy). P y.node) (cond t (copy u (first ds) ∷ leaves_from (b / 2) us (rest ds)) (copy u 0 ∷ leaves_from (b / 2) us ds))
    go true x y = each_cons (λ (y : Copy). P y.node) (h u (here refl)) x
    go false x y = each_cons (λ (y : Copy). P y.node) (h u (here refl)) y

root-range : (least nodes b : ℕ) → (leb least b && ltb b nodes) ≡ true → (least ≤ b) × (b < nodes)
root-range least nodes b = go (leb least b) (ltb b nodes) (leb-true least b) (ltb-true b nodes)
  where
    go : (x y : Bool) → (x ≡ true → least ≤ b) → (y ≡ true → b < nodes) → (x && y) ≡ true → (least ≤ b) × (b < nodes)
    go true y f g e = (f refl, g e)
    go false y f g e = absurd (false≢true e)

module _ (w : Bool) where
  -- the root and the leaves are those read before, and the lag is small
  tail-facts : (root n m : ℕ) (L : List Copy) (s : List ℕ) (e : Entry) (end : List ℕ) → from_leaves w root n m L s ≡ got e end
      → (root ≡ e.root) × (L ≡ e.leaves) × (mag e.lag ≤ half_range w)
  tail-facts root n m L s e end q =
      let x = then-got (times (m / 64) (cover_number w not_zero) s) (from_lags w root n L) e end q in
      let lags = x.0 in
      let y = then-got (times (table_bytes n) (cover_byte (table_byte n)) x.1) (from_table w root L lags) e end x.3 in
      let is : ◌≡◌ {A = Entry} (record { root = root; leaves = L; lag = from_signed w (first lags); table = from_bytes y.0 }) e = got-value _ y.1 e end y.3 in
      (ap (λ (z : Entry). z.root) is, ap (λ (z : Entry). z.leaves) is, subst (λ (z : Entry). mag z.lag ≤ half_range w) is (signed-small w (first lags)))

  -- so many leaves, rising, that are nodes
  leaves-facts : (nodes root n m : ℕ) (s : List ℕ) (e : Entry) (end : List ℕ) → from_map w nodes root n m s ≡ got e end
      → (root ≡ e.root) × (length e.leaves ≡ n) × Rising e.leaves × Each (λ (y : Copy). y.node < nodes) e.leaves × (mag e.lag ≤ half_range w)
  leaves-facts nodes root n m s e end q =
      let x4 = then-got (times n (cover_number w (λ b. ltb b nodes)) s) (from_nodes w root n m) e end q in
      let us = x4.0 in
      let x5 = then-got (times (ones (m % 64)) depth_reader x4.1) (from_depths w root n m us) e end x4.3 in
      let ds = x5.0 in
      let L : List Copy = leaves_from (m % 64) us ds in
      let x6 = then-got (check (rising_leaves L) 13 L x5.1) (from_leaves w root n m) e end x5.3 in
      let c = check-got (rising_leaves L) 13 L x5.1 x6.0 x6.1 x6.2 in
      let t = tail-facts root n m x6.0 x6.1 e end x6.3 in
      let is : L ≡ e.leaves = c.1 ∙ t.1 in
      let some = times-got (λ (b : ℕ). b < nodes) n (cover_number w (λ b. ltb b nodes))
      (λ t b u f. ltb-true b nodes (number-got w 13 13 (λ b. ltb b nodes) t b u f)) s us x4.1 x4.2 in (
        t.0,
        ap length (sym is) ∙ length-leaves_from (m % 64) us ds ∙ some.0,
        subst Rising is (rising-true L c.0),
        subst (λ (l : List Copy). Each (λ (y : Copy). y.node < nodes) l) is (each-leaves_from (λ (b : ℕ). b < nodes) (m % 64) us ds some.1),
        t.2,
      )

module _ (w : Bool) (nodes k : ℕ) where
  pub lut-facts : (least : ℕ) (s : List ℕ) (e : Entry) (end : List ℕ) → lut_reader w nodes k least s ≡ got e end → LutFacts w nodes k least e
  lut-facts least s e end q =
      let x1 = then-got (root_reader w nodes least s) (lut_body w nodes k) e end (sym (lut_stages w nodes k least s) ∙ q) in
      let root = x1.0 in
      let x2 = then-got (cover_byte (between 1 k) x1.1) (from_size w nodes root) e end (sym (body_stages w nodes k root x1.1) ∙ x1.3) in
      let n = x2.0 in
      let x3 = then-got (cover_byte (leaf_map_ok n) x2.1) (from_map w nodes root n) e end x2.3 in
      let f = leaves-facts w nodes root n x3.0 x3.1 e end x3.3 in
      let range = root-range least nodes root (number-got w 13 13 (λ b. leb least b && ltb b nodes) s root x1.1 x1.2) in
      let size = between-true 1 k n (byte-got 13 13 (between 1 k) x1.1 n x2.1 x2.2) in
      record {
        low = subst (λ (r : ℕ). least ≤ r) f.0 range.0;
        high = subst (λ (r : ℕ). r < nodes) f.0 range.1;
        few = subst (λ (l : ℕ). l ≤ k) (sym f.1) size.1;
        rising = f.2;
        node = f.3;
        lag = f.4;
      }
