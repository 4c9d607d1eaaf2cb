-- Laws of full tables (document 02, E4), for every number of leaves together: only the leaves' bits matter, the low 2^n bits are document 01's table, the whole is that table repeated.
use Rattle.std.specs.Prelude.{◌≡◌, refl, Bool, false, cond, List, [], ◌∷◌, map, ℕ, zero, suc, ◌/◌, ◌%◌, ◌^◌, ◌≤◌, ◌<◌, get_or}
use Rattle.std.proofs.Math.Path.{sym}
use Rattle.std.proofs.Common.{ap, ap₂, ◌∙◌, not-suc-le-zero, le_of_suc-le-suc, mod-lt, mod-eq_of_lt, arith, pow_pos}
use Rattle.std.proofs.Math.Nat.{pow-le-pow_right}
use Rattle.std.proofs.Math.ListN.{length}
use Rattle.std.proofs.lemmas.List.{length-map}
use Rattle.sequences.specs.Member.{◌∈◌, Within}
use Rattle.net_model.specs.Net.{Net, gate}
use Rattle.net_model.specs.Copies.{Copy, copy, IsCone, IsLeaves}
use Rattle.net_model.specs.Tables.{bit, index, apply, feeding, same, at_leaf, value_in, table_of}
use Rattle.net_model.specs.FullTables.{repeated_table, full_of}
use Rattle.cone_theory.specs.CopyOrder.{Levels}
use Rattle.cone_values.specs.Words.{bit-half, bit-pack, bit_mod, bit-index, index-small, pack-same, pack-small, pack-low, pack-word, pack-bits}
use Rattle.cone_values.specs.Values.{map_same, table_is, table_same}

-- the lowest n bits are the same
abbrev pub Agree : ℕ → ℕ → ℕ → Type 0
Agree n i k = (j : ℕ) → j < n → bit i j ≡ bit k j

agree_mod : (n i : ℕ) → Agree n i (i % 2 ^ n)
agree_mod n i j h = sym (bit_mod n i j h)

remainder_small : (n i : ℕ) → i % 2 ^ n < 2 ^ n
remainder_small n i = mod-lt i (pow_pos n)

-- then so are the remainders by 2 to the n
same_remainder : (n x y : ℕ) → Agree n x y → x % 2 ^ n ≡ y % 2 ^ n
same_remainder n x y g =
    sym (pack-bits n (x % 2 ^ n) (remainder_small n x))
    ∙ pack-same (bit (x % 2 ^ n)) (bit (y % 2 ^ n)) n (λ j h. bit_mod n x j h ∙ g j h ∙ sym (bit_mod n y j h))
    ∙ pack-bits n (y % 2 ^ n) (remainder_small n y)

few_bits : (n : ℕ) → n ≤ 6 → 2 ^ n ≤ 64
few_bits n h = pow-le-pow_right {n = 2} (omega arith) h

-- ---- values

at_leaf-agree : (L : List Copy) (i k : ℕ) (c : Copy) {a b : Bool} → Agree (length L) i k → a ≡ b → at_leaf L i c a ≡ at_leaf L k c b
unfolding at_leaf
at_leaf-agree [] i k c g e = e
at_leaf-agree (y ∷ L) i k c g e =
    ap₂ (cond (same y c)) (g 0 (omega arith)) (at_leaf-agree L (i / 2) (k / 2) c (λ j h. sym (bit-half i j) ∙ g (suc j) (omega arith) ∙ bit-half k j) e)

-- **only the leaves' bits of a choice matter to a value**
pub value-agree : (N : Net) (L : List Copy) (i k : ℕ) → Agree (length L) i k → (t : ℕ) (c : Copy) → value_in N L i t c ≡ value_in N L k t c
unfolding value_in
value-agree N L i k g zero c = at_leaf-agree L i k c g refl
value-agree N L i k g (suc t) c =
    at_leaf-agree L i k c g (ap (apply (gate N c.node).table) (map_same (value_in N L i t) (value_in N L k t) (feeding N c) (λ y m. value-agree N L i k g t y)))

-- ---- repeated tables

pub repeated-bit : (n t x : ℕ) → x < 64 → bit (repeated_table n t) x ≡ bit t (x % 2 ^ n)
unfolding repeated_table
repeated-bit n t x h = bit-pack (λ x. bit t (x % 2 ^ n)) 64 x h

pub repeated-small : (n t : ℕ) → repeated_table n t < 2 ^ 64
unfolding repeated_table
repeated-small n t = pack-small (λ x. bit t (x % 2 ^ n)) 64

-- its low 2^n bits are those of the table
pub repeated-low : (n t : ℕ) → n ≤ 6 → repeated_table n t % 2 ^ (2 ^ n) ≡ t % 2 ^ (2 ^ n)
repeated-low n t few =
    pack-word (bit t) (2 ^ n) (repeated_table n t) (λ i h. repeated-bit n t i (omega (arith, h, few_bits n few)) ∙ ap (bit t) (mod-eq_of_lt h)) ∙ pack-low (2 ^ n) t

-- **whatever stands on the unused inputs**
pub repeated-period : (n t x y : ℕ) → x < 64 → y < 64 → Agree n x y → bit (repeated_table n t) x ≡ bit (repeated_table n t) y
repeated-period n t x y h k g = repeated-bit n t x h ∙ ap (bit t) (same_remainder n x y g) ∙ sym (repeated-bit n t y k)

-- **a repeated table gives the table's value where the first inputs carry its pins' values**
pub repeated-apply : (t : ℕ) (bs : List Bool) (x : ℕ) → x < 64 → ((j : ℕ) → j < length bs → bit x j ≡ get_or bs j false) → bit (repeated_table (length bs) t) x ≡ apply t bs
repeated-apply t bs x h g =
    repeated-bit (length bs) t x h
    ∙ ap (bit t) (same_remainder (length bs) x (index bs) (λ j k. g j k ∙ sym (bit-index bs j k)) ∙ mod-eq_of_lt (index-small bs))

-- ---- the full table of a LUT

module _ (N : Net) (v : ℕ) (C L : List Copy) where
  pub full-bit : (x : ℕ) → x < 64 → bit (full_of N v C L) x ≡ value_in N L x (length C) (copy v 0)
  unfolding full_of
  full-bit x h = bit-pack (λ x. value_in N L x (length C) (copy v 0)) 64 x h

  -- a word whose bits are the root's values is the full table
  pub full-word : (w : ℕ) → w < 2 ^ 64 → ((x : ℕ) → x < 64 → bit w x ≡ value_in N L x (length C) (copy v 0)) → w ≡ full_of N v C L
  unfolding full_of
  full-word w small bits = sym (mod-eq_of_lt small) ∙ pack-word (λ x. value_in N L x (length C) (copy v 0)) 64 w bits

  -- **"whatever stands on the unused inputs"**
  pub full-period : (x y : ℕ) → x < 64 → y < 64 → Agree (length L) x y → bit (full_of N v C L) x ≡ bit (full_of N v C L) y
  full-period x y h k g = full-bit x h ∙ value-agree N L x y g (length C) (copy v 0) ∙ sym (full-bit y k)

  -- **the full table is the short one repeated**
  pub full-repeated : full_of N v C L ≡ repeated_table (length L) (table_of N v C L)
  unfolding full_of repeated_table table_of
  full-repeated =
      pack-same (λ x. value_in N L x (length C) (copy v 0)) (λ x. bit (table_of N v C L) (x % 2 ^ length L)) 64
      (λ x h. value-agree N L x (x % 2 ^ length L) (agree_mod (length L) x) (length C) (copy v 0)
      ∙ sym (bit-pack (λ i. value_in N L i (length C) (copy v 0)) (2 ^ length L) (x % 2 ^ length L) (remainder_small (length L) x)))

  -- **"Records keep the short form, being the low 2^n bits"**
  pub full-low : length L ≤ 6 → full_of N v C L % 2 ^ (2 ^ length L) ≡ table_of N v C L
  unfolding table_of
  full-low few =
      pack-word (λ i. value_in N L i (length C) (copy v 0)) (2 ^ length L) (full_of N v C L) (λ i h. full-bit i (omega (arith, h, few_bits (length L) few)))

-- ---- over a cone

value-at : (val : Copy → Bool) (L : List Copy) (j : ℕ) → j < length L → get_or (map val L) j false ≡ val (get_or L j (copy 0 0))
value-at val [] j h = absurd (not-suc-le-zero h)
value-at val (y ∷ L) zero h = refl
value-at val (y ∷ L) (suc j) h = value-at val L j (le_of_suc-le-suc h)

module _ {N : Net} (O : Levels N) {v : ℕ} {C L : List Copy} (i : IsCone N v C) (l : IsLeaves N C L) (D : ℕ) (deep : (c : Copy) → c ∈ C → c.back ≤ D) where
  -- **Where the first inputs carry the leaves' values of a valuation that obeys the tables inside the cone, the full table gives the root's value, whatever stands on the other inputs.**
  pub full_is : (val : Copy → Bool) → ((x : Copy) → x ∈ C → val x ≡ apply (gate N x.node).table (map val (feeding N x)))
      → (x : ℕ) → x < 64 → ((j : ℕ) → j < length L → bit x j ≡ val (get_or L j (copy 0 0))) → bit (full_of N v C L) x ≡ val (copy v 0)
  full_is val obeys x h carried =
      ap (λ (w : ℕ). bit w x) (full-repeated N v C L ∙ ap (λ (n : ℕ). repeated_table n (table_of N v C L)) (sym many))
      ∙ repeated-apply (table_of N v C L) (map val L) x h (λ j k. let q : j < length L = omega (arith, k, many) in carried j q ∙ sym (value-at val L j q))
      ∙ table_is O i l D deep val obeys
    where
      many : length (map val L) ≡ length L
      many = length-map L val

  -- another list of the same members gives the same number
  pub full-same : (C' : List Copy) → Within C C' → full_of N v C L ≡ full_of N v C' L
  full-same C' w = full-repeated N v C L ∙ ap (repeated_table (length L)) (table_same O i l D deep C' w) ∙ sym (full-repeated N v C' L)
