-- Laws of the test that leaves rise: one leaf and the next, one leaf after the other, and what the test says.
use Rattle.std.specs.Prelude.{◌≡◌, Bool, true, false, ◌&&◌, ◌||◌, List, [], ◌∷◌, ℕ, zero, suc, ◌+◌, ◌-◌, ◌≤◌, ◌<◌, ltb, eqb}
use Rattle.std.proofs.Math.Path.{refl}
use Rattle.std.proofs.Common.{sym, ap, ap₂, ◌∙◌, inl, inr, add-one, arith, lt-ltb, le-ltb, ltb-true, eq-eqb, ne_eqb, eqb-true}
use Rattle.std.proofs.lemmas.Bool.{false≢true}
use Rattle.sequences.specs.Member.{not_in_nil}
use Rattle.sequences.specs.Rising as Sorting
use Rattle.net_model.specs.Arrays.{copy_at, copies_from}
use Rattle.net_model.specs.Copies.{Copy, copy, Before, Rising}
use Rattle.cone_theory.specs.Basics.{before_trans, from_sorting}
use Rattle.cover_records.specs.CoverBytes.{before, rising_leaves}

-- one leaf and the next
module _ (u d v e : ℕ) where
  pub before-node : u < v → true ≡ before (copy u d) (copy v e)
  before-node h = sym (ap (λ (x : Bool). x || (eqb u v && ltb d e)) (lt-ltb u v h))

  pub before_back : v ≤ u → u ≡ v → ltb d e ≡ before (copy u d) (copy v e)
  before_back h q = sym (ap₂ (λ (x y : Bool). x || (y && ltb d e)) (le-ltb u v h) (eq-eqb u v q))

  pub before-neither : v ≤ u → (u ≡ v → ⊥) → false ≡ before (copy u d) (copy v e)
  before-neither h q = sym (ap₂ (λ (x y : Bool). x || (y && ltb d e)) (le-ltb u v h) (ne_eqb u v q))

module _ (u d : List ℕ) (n : ℕ) where
  pub rising_none : rising_leaves (copies_from u d 0 n) ≡ rising_leaves (copies_from u d 0 (n - 0))
  rising_none = let all : n ≡ n - 0 = omega arith in ap (λ (k : ℕ). rising_leaves (copies_from u d 0 k)) all

  two : (i m : ℕ) → rising_leaves (copies_from u d i (suc (suc m))) ≡ (before (copy_at u d i) (copy_at u d (suc i)) && rising_leaves (copies_from u d (suc i) (suc m)))
  unfolding copies_from rising_leaves
  two i m = refl

  module _ (i : ℕ) (so : rising_leaves (copies_from u d 0 n) ≡ rising_leaves (copies_from u d i (n - i))) where
    here : i + 1 < n → rising_leaves (copies_from u d 0 n) ≡ (before (copy_at u d i) (copy_at u d (i + 1)) && rising_leaves (copies_from u d (i + 1) (n - (i + 1))))
    here h =
        let left : n - i ≡ suc (suc (n - (i + 2))) = omega arith in
        let less : suc (n - (i + 2)) ≡ n - (i + 1) = omega arith in
        so ∙ ap (λ (k : ℕ). rising_leaves (copies_from u d i k)) left ∙ two i (n - (i + 2))
        ∙ ap (λ (k : ℕ). before (copy_at u d i) (copy_at u d (suc i)) && rising_leaves (copies_from u d (suc i) k)) less
        ∙ ap (λ (k : ℕ). before (copy_at u d i) (copy_at u d k) && rising_leaves (copies_from u d k (n - (i + 1)))) (sym (add-one i))

    pub rising-one : i + 1 < n → before (copy_at u d i) (copy_at u d (i + 1)) ≡ true
        → rising_leaves (copies_from u d 0 n) ≡ rising_leaves (copies_from u d (i + 1) (n - (i + 1)))
    rising-one h e = here h ∙ ap (λ (t : Bool). t && rising_leaves (copies_from u d (i + 1) (n - (i + 1)))) e

    pub rising-stops : i + 1 < n → before (copy_at u d i) (copy_at u d (i + 1)) ≡ false → false ≡ rising_leaves (copies_from u d 0 n)
    rising-stops h e = sym (here h ∙ ap (λ (t : Bool). t && rising_leaves (copies_from u d (i + 1) (n - (i + 1)))) e)

    pub rising-all : n ≤ i + 1 → true ≡ rising_leaves (copies_from u d 0 n)
    rising-all h = sym (so ∙ few (n - i) (omega arith))
      where
        few : (m : ℕ) → m ≤ 1 → rising_leaves (copies_from u d i m) ≡ true
        few zero h = unfold copies_from rising_leaves in refl
        few (suc zero) h = unfold copies_from rising_leaves in refl
        few (suc (suc m)) h = absurd (omega (arith, h))

before-is : (a b : Copy) → before a b ≡ true → Before a b
before-is a b = go (ltb a.node b.node) (eqb a.node b.node) (ltb a.back b.back) (ltb-true a.node b.node) (eqb-true a.node b.node) (ltb-true a.back b.back)
  where
    go : (x y z : Bool) → (x ≡ true → a.node < b.node) → (y ≡ true → a.node ≡ b.node) → (z ≡ true → a.back < b.back) → (x || (y && z)) ≡ true → Before a b
    go true y z f g h e = inl (f refl)
    go false true z f g h e = inr (g refl, h e)
    go false false z f g h e = absurd (false≢true e)

and_both : (x y : Bool) → (x && y) ≡ true → (x ≡ true) × (y ≡ true)
and_both true y e = (refl, e)
and_both false y e = absurd (false≢true e)

sorted : (L : List Copy) → rising_leaves L ≡ true → Sorting.Rising Before L
unfolding rising_leaves
sorted [] e = Sorting.rising_nil
sorted (a ∷ []) e = Sorting.rising_cons (λ b h. absurd (not_in_nil h)) Sorting.rising_nil
sorted (a ∷ b ∷ L) e =
    let r = and_both (before a b) (rising_leaves (b ∷ L)) e in
    Sorting.rising-next before_trans (before-is a b r.0) (sorted (b ∷ L) r.1)

-- leaves that pass the test rise
pub rising-true : (L : List Copy) → rising_leaves L ≡ true → Rising L
rising-true L e = from_sorting (sorted L e)
