-- The value of a copy over a cone's leaves: enough steps give one value, and it is that of any valuation that obeys the tables.
use Rattle.std.specs.Prelude.{◌≡◌, ◌⊎◌, eqb, get_or}
use Rattle.std.proofs.Math.Path.{refl, sym, ap, subst}
use Rattle.std.proofs.Common.{ap₂, ◌∙◌, inl, inr, not-suc-le-zero, eqb-true, eq-eqb}
use mathlib.Core.Bool.{Bool, true, false, cond}
use mathlib.Core.List.{List, [], ◌∷◌, map}
use Prim.Native.Nat.{ℕ, zero, suc, ◌+◌, ◌*◌, ◌/◌, ◌%◌, ◌^◌, ◌≤◌, ◌<◌}
use Rattle.std.proofs.Math.Decide.{dec_le}
use Rattle.std.proofs.Math.Nat.{le_trans}
use native.Mathlib.Omega.{arith}
use Rattle.std.proofs.lemmas.Bool.{eqb-false}
use Rattle.std.proofs.Math.ListN.{length}
use Rattle.std.proofs.lemmas.List.{length-map}
use Rattle.sequences.specs.Member.{◌∈◌, here, there, not_in_nil, Within}
use Rattle.sequences.specs.Keep.{keep, length-keep, keep_strict, keep_in}
use Rattle.sequences.specs.Distinct.{Distinct, dedup, Dedup, pigeonhole, length-remove}
use Rattle.net_model.specs.Net.{Net, Pin, IsGate, gate, pins}
use Rattle.net_model.specs.Copies.{Copy, copy, Feeds, IsCone, Leaf, IsLeaves}
use Rattle.net_model.specs.Tables.{bit, as_number, index, apply, feeding, same, at_leaf, value_in, pack, table_of}
use Rattle.cone_theory.specs.Basics.{Copy-dec, copy-path, member?, in_feeding, feeds_in}
use Rattle.cone_theory.specs.CopyOrder.{Levels, measure, feeds-measure}
use Rattle.cone_values.specs.Words.{bit-low, half, pack-same, bit-pack, pack-small, index-small}

-- ---- the test of two copies

pub same_true : (a b : Copy) → same a b ≡ true → a ≡ b
same_true a b = go (eqb a.node b.node) refl
  where
    go : (t : Bool) → eqb a.node b.node ≡ t → cond t (eqb a.back b.back) false ≡ true → a ≡ b
    go true e h = copy-path (eqb-true a.node b.node e) (eqb-true a.back b.back h)
    go false e h = absurd (mathlib.Core.Bool.false≢true h)

pub same_refl : (a : Copy) → same a a ≡ true
same_refl a = rw (eq-eqb a.node a.node refl) (eq-eqb a.back a.back refl)

-- ---- leaves

-- at a leaf what lies inside does not matter
pub at_leaf_in : (L : List Copy) (i : ℕ) (c : Copy) (a b : Bool) → c ∈ L → at_leaf L i c a ≡ at_leaf L i c b
unfolding at_leaf
at_leaf_in [] i c a b h = absurd (not_in_nil h)
at_leaf_in (y ∷ L) i c a b h = go (same y c) refl (at_leaf_in L (i / 2) c a b) h
  where
    go : (t : Bool) → same y c ≡ t → (c ∈ L → at_leaf L (i / 2) c a ≡ at_leaf L (i / 2) c b) → c ∈ y ∷ L → cond t (bit i 0) (at_leaf L (i / 2) c a) ≡ cond t (bit i 0) (at_leaf L (i / 2) c b)
    go true e ih m = refl
    go false e ih (here q) = absurd (mathlib.Core.Bool.false≢true (sym e ∙ ap (λ (x : Copy). same y x) q ∙ same_refl y))
    go false e ih (there m) = ih m

-- elsewhere only that matters
pub at_leaf-out : (L : List Copy) (i : ℕ) (c : Copy) (a : Bool) → ¬ (c ∈ L) → at_leaf L i c a ≡ a
unfolding at_leaf
at_leaf-out [] i c a n = refl
at_leaf-out (y ∷ L) i c a n = go (same y c) refl (at_leaf-out L (i / 2) c a (λ m. n (there m)))
  where
    go : (t : Bool) → same y c ≡ t → at_leaf L (i / 2) c a ≡ a → cond t (bit i 0) (at_leaf L (i / 2) c a) ≡ a
    go true e r = absurd (n (here (sym (same_true y c e))))
    go false e r = r

-- the leaves' own values, as an index, are found again at the leaves
pub at_leaf-index : (f : Copy → Bool) (L : List Copy) (c : Copy) (a : Bool) → c ∈ L → at_leaf L (index (map f L)) c a ≡ f c
unfolding at_leaf
at_leaf-index f [] c a h = absurd (not_in_nil h)
at_leaf-index f (y ∷ L) c a h = go (same y c) refl (at_leaf-index f L c a) h
  where
    rest : index (map f (y ∷ L)) / 2 ≡ index (map f L)
    rest = half (f y) (index (map f L))

    go : (t : Bool) → same y c ≡ t → (c ∈ L → at_leaf L (index (map f L)) c a ≡ f c) → c ∈ y ∷ L
        → cond t (bit (index (map f (y ∷ L))) 0) (at_leaf L (index (map f (y ∷ L)) / 2) c a) ≡ f c
    go true e ih m = bit-low (f y) (index (map f L)) ∙ ap f (same_true y c e)
    go false e ih (here q) = absurd (mathlib.Core.Bool.false≢true (sym e ∙ ap (λ (x : Copy). same y x) q ∙ same_refl y))
    go false e ih (there m) = ap (λ (i : ℕ). at_leaf L i c a) rest ∙ ih m

pub map_same : {A B : Type 0} (f g : A → B) (l : List A) → ((a : A) → a ∈ l → f a ≡ g a) → map f l ≡ map g l
map_same f g [] h = refl
map_same f g (a ∷ l) h = ap₂ {C = List _} ◌∷◌ (h a (here refl)) (map_same f g l (λ b m. h b (there m)))

-- ---- values over a cone

module _ {N : Net} (O : Levels N) {v : ℕ} {C L : List Copy} (i : IsCone N v C) (l : IsLeaves N C L) (D : ℕ) (deep : (c : Copy) → c ∈ C → c.back ≤ D) where
  members : Dedup C
  members = dedup Copy-dec C

  -- how many members are no later than c in the order of copies
  pub rank_in : Copy → ℕ
  rank_in c = length (keep (λ (x : Copy). dec_le (measure O D x) (measure O D c)) members.list)

  pub rank_in-bound : (c : Copy) → rank_in c ≤ length C
  unfolding rank_in
  rank_in-bound c = le_trans (length-keep (λ (x : Copy). dec_le (measure O D x) (measure O D c)) members.list) (pigeonhole members.distinct members.within)

  rank-pos : (c : Copy) → c ∈ C → 1 ≤ rank_in c
  unfolding rank_in
  rank-pos c m =
      let h = keep_in (λ (x : Copy). dec_le (measure O D x) (measure O D c)) (members.contains c m) (omega arith) in
      let r = length-remove h in
      omega arith

  rank_falls : (x y : Copy) → x ∈ C → y ∈ C → Feeds N y x → rank_in y < rank_in x
  unfolding rank_in
  rank_falls x y mx my f =
      let lt = feeds-measure O D f (deep y my) in
      keep_strict (λ (z : Copy). dec_le (measure O D z) (measure O D y)) (λ (z : Copy). dec_le (measure O D z) (measure O D x)) members.list
      (λ z m h. omega arith) x (members.contains x mx) (omega arith) (λ h. not-below lt h)
    where
      not-below : measure O D y < measure O D x → measure O D x ≤ measure O D y → ⊥
      not-below a b = omega arith

  member_no_leaf : (c : Copy) → c ∈ C → ¬ (c ∈ L)
  member_no_leaf c m h = (l.sound c h).outside m

  fed_by : (x y : Copy) → x ∈ C → y ∈ feeding N x → (y ∈ C) ⊎ (y ∈ L)
  fed_by x y m h = go (member? y C)
    where
      go : Dec (y ∈ C) → (y ∈ C) ⊎ (y ∈ L)
      go (yes k) = inl k
      go (no n) = inr (l.complete y (record { outside = n; member = x; is_member = m; feeds = in_feeding (i.gates x m) h }))

  -- at a leaf the number of steps does not matter
  value-leaf : (j n m : ℕ) (y : Copy) → y ∈ L → value_in N L j n y ≡ value_in N L j m y
  unfolding value_in
  value-leaf j zero zero y h = refl
  value-leaf j zero (suc m) y h = at_leaf_in L j y _ _ h
  value-leaf j (suc n) zero y h = at_leaf_in L j y _ _ h
  value-leaf j (suc n) (suc m) y h = at_leaf_in L j y _ _ h

  -- **Enough steps give one value.**
  pub value-enough : (j n m : ℕ) (c : Copy) → c ∈ C → rank_in c ≤ n → rank_in c ≤ m → value_in N L j n c ≡ value_in N L j m c
  unfolding value_in
  value-enough j zero m c h a b = absurd (low (rank-pos c h) a)
    where
      low : 1 ≤ rank_in c → rank_in c ≤ zero → ⊥
      low p q = omega arith
  value-enough j (suc n) zero c h a b = absurd (low (rank-pos c h) b)
    where
      low : 1 ≤ rank_in c → rank_in c ≤ zero → ⊥
      low p q = omega arith
  value-enough j (suc n) (suc m) c h a b =
      at_leaf-out L j c _ (member_no_leaf c h)
      ∙ ap (λ (bs : List Bool). apply (gate N c.node).table bs)
      (map_same (value_in N L j n) (value_in N L j m) (feeding N c) (λ y k. each y k (value-enough j n m y) (fed_by c y h k)))
      ∙ sym (at_leaf-out L j c _ (member_no_leaf c h))
    where
      each : (y : Copy) → y ∈ feeding N c → (y ∈ C → rank_in y ≤ n → rank_in y ≤ m → value_in N L j n y ≡ value_in N L j m y) → (y ∈ C) ⊎ (y ∈ L)
          → value_in N L j n y ≡ value_in N L j m y
      each y k ih (inl my) =
          let lt = rank_falls c y h my (in_feeding (i.gates c h) k) in
          ih my (omega arith) (omega arith)
      each y k ih (inr ly) = value-leaf j n m y ly

  -- **With the leaves' values of a valuation that obeys the tables inside the cone, the value found is the valuation's.**
  pub value-is : (val : Copy → Bool) → ((x : Copy) → x ∈ C → val x ≡ apply (gate N x.node).table (map val (feeding N x)))
      → (n : ℕ) (c : Copy) → c ∈ C → rank_in c ≤ n → value_in N L (index (map val L)) n c ≡ val c
  unfolding value_in
  value-is val obeys zero c h a = absurd (low (rank-pos c h) a)
    where
      low : 1 ≤ rank_in c → rank_in c ≤ zero → ⊥
      low p q = omega arith
  value-is val obeys (suc n) c h a =
      at_leaf-out L (index (map val L)) c _ (member_no_leaf c h)
      ∙ ap (λ (bs : List Bool). apply (gate N c.node).table bs)
      (map_same (value_in N L (index (map val L)) n) val (feeding N c) (λ y k. each y k (value-is val obeys n y) (fed_by c y h k)))
      ∙ sym (obeys c h)
    where
      at_leaf_lem : (m : ℕ) (y : Copy) → y ∈ L → value_in N L (index (map val L)) m y ≡ val y
      at_leaf_lem zero y k = at_leaf-index val L y _ k
      at_leaf_lem (suc m) y k = at_leaf-index val L y _ k

      each : (y : Copy) → y ∈ feeding N c → (y ∈ C → rank_in y ≤ n → value_in N L (index (map val L)) n y ≡ val y) → (y ∈ C) ⊎ (y ∈ L)
          → value_in N L (index (map val L)) n y ≡ val y
      each y k ih (inl my) = let lt = rank_falls c y h my (in_feeding (i.gates c h) k) in ih my (omega arith)
      each y k ih (inr ly) = at_leaf_lem n y ly

  -- **The LUT's table at the leaves' values is the root's value.**
  pub table_is : (val : Copy → Bool) → ((x : Copy) → x ∈ C → val x ≡ apply (gate N x.node).table (map val (feeding N x)))
      → apply (table_of N v C L) (map val L) ≡ val (copy v 0)
  unfolding table_of
  table_is val obeys =
      bit-pack (λ j. value_in N L j (length C) (copy v 0)) (2 ^ length L) (index (map val L)) small
      ∙ value-is val obeys (length C) (copy v 0) i.root (rank_in-bound (copy v 0))
    where
      small : index (map val L) < 2 ^ length L
      small = subst (λ (n : ℕ). index (map val L) < 2 ^ n) (length-map L val) (index-small (map val L))

  -- another list of the same members gives the same table
  pub table_same : (C' : List Copy) → Within C C' → table_of N v C L ≡ table_of N v C' L
  unfolding table_of rank_in
  table_same C' w =
      pack-same (λ j. value_in N L j (length C) (copy v 0)) (λ j. value_in N L j (length C') (copy v 0)) (2 ^ length L)
      (λ j h. value-enough j (length C) (length C') (copy v 0) i.root (rank_in-bound (copy v 0))
      (le_trans (length-keep (λ (x : Copy). dec_le (measure O D x) (measure O D (copy v 0))) members.list) (pigeonhole members.distinct (λ x m. w x (members.within x m)))))

-- a table is below 2 to the number of choices
pub table-small : (N : Net) (v : ℕ) (C L : List Copy) → table_of N v C L < 2 ^ (2 ^ length L)
unfolding table_of
table-small N v C L = pack-small (λ j. value_in N L j (length C) (copy v 0)) (2 ^ length L)
