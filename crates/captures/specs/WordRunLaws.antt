-- Laws of runs of words: at the start, one word on, one run on, at the end of the overlap.
use Rattle.std.specs.Prelude.{◌≡◌, refl, Bool, true, false, ◌&&◌, List, ℕ, ◌+◌, ◌-◌, ◌≤◌, ◌<◌, eqb, length, get_or}
use Rattle.std.specs.Cmp.Lexicographic.{pointwise}
use Rattle.std.proofs.Common.{sym, ap, ◌∙◌, subst, take, drop, true≢false, arith, eqb-true, length-take, length-drop, get_or-take, get_or-drop}
use Rattle.std.proofs.Math.Decide.{dec_lt}
use Rattle.std.proofs.lemmas.Bool.{eqb-false}
use Rattle.std.proofs.lemmas.Bool.Decides.{Decides-eqb}
use Rattle.std.proofs.lemmas.Grind.{same_number_lists}
use Rattle.std.proofs.lemmas.Slice.Eq.{slice_eq-Decides}
use Rattle.sequences.specs.Tests.{Tells}
use Rattle.sequences.specs.TestLaws.{tells_no, tells_yes}
use Rattle.captures.specs.Captures.{least_overlap, overlap, Agrees}
use Rattle.captures.specs.AgreesLaws.{in_overlap, overlap_in}
use Rattle.captures.specs.WordRuns.{Same}

module _ (first second : List ℕ) (s i : ℕ) where
  pub same_none : Same first second s i i
  same_none = record { words = λ j h k. absurd (empty h k) }
    where
      empty : {j : ℕ} → i ≤ j → j < i → ⊥
      empty h k = omega arith

  -- the test so far, and that of the next word
  pub same_word : (j : ℕ) (b : Bool) → i ≤ j → Tells b (Same first second s i j) → Tells (b && eqb (get_or second j 0) (get_or first (j + s) 0)) (Same first second s i (j + 1))
  same_word j false h t = tells_no (λ x. t.fails refl (record { words = λ k l m. x.words k l (omega arith) }))
  same_word j true h t = go (eqb (get_or second j 0) (get_or first (j + s) 0)) refl
    where
      at : get_or second j 0 ≡ get_or first (j + s) 0 → (k : ℕ) → i ≤ k → k < j + 1 → Dec (k < j) → get_or second k 0 ≡ get_or first (k + s) 0
      at e k l m (yes n) = (t.holds refl).words k l n
      at e k l m (no n) = let q : j ≡ k = omega (arith, n) in subst (λ (x : ℕ). get_or second x 0 ≡ get_or first (x + s) 0) q e

      go : (b : Bool) → eqb (get_or second j 0) (get_or first (j + s) 0) ≡ b → Tells b (Same first second s i (j + 1))
      go true e = tells_yes (record { words = λ k l m. at (eqb-true _ _ e) k l m (dec_lt k j) })
      go false e = tells_no (λ x. eqb-false _ _ e (x.words j h (omega arith)))

  -- two runs, one behind the other
  pub same-run : (j e : ℕ) → Same first second s i j → Same first second s j e → Same first second s i e
  same-run j e x y = record { words = λ k l m. at k l m (dec_lt k j) }
    where
      at : (k : ℕ) → i ≤ k → k < e → Dec (k < j) → get_or second k 0 ≡ get_or first (k + s) 0
      at k l m (yes n) = x.words k l n
      at k l m (no n) = y.words k (omega (arith, n)) m

-- what runs say of agreement
module _ (first second : List ℕ) (s : ℕ) where
  pub few-overlap : overlap first second s < least_overlap → Tells false (Agrees first second s)
  few-overlap h = tells_no (λ a. few a.enough)
    where
      few : least_overlap ≤ overlap first second s → ⊥
      few l = omega arith

  -- a run that ends in the overlap
  pub run_inside : (i e : ℕ) → i < e → e ≤ overlap first second s → (e ≤ length second) × (e + s ≤ length first)
  run_inside i e h k = let o = in_overlap first second s (e - 1) (omega arith) in omega (arith, o)

  pub run_differs : (i e : ℕ) → e ≤ overlap first second s → ¬ Same first second s i e → Tells false (Agrees first second s)
  run_differs i e h n = tells_no (λ a. n (record { words = λ j k l. let o = in_overlap first second s j (omega arith) in a.same j o.0 o.1 }))

  pub all_same : least_overlap ≤ overlap first second s → Same first second s 0 (overlap first second s) → Tells true (Agrees first second s)
  all_same h x = tells_yes (record { enough = h; same = λ i k l. x.words i (omega arith) (overlap_in first second s i k l) })

  -- a run at the start, as two ranges that are equal
  module _ (n m : ℕ) (e : m ≡ n) (h : n ≤ length second) (k : n + s ≤ length first) where
    one-range : take n second ≡ take m (drop s first) → Same first second s 0 n
    one-range q = record { words = λ j l i. at j i }
      where
        at : (j : ℕ) → j < n → get_or second j 0 ≡ get_or first (j + s) 0
        at j i =
            let t : j < m = omega arith in
            let w = ap (λ (x : List ℕ). get_or x j 0) q in
            let x = get_or-take n second j 0 i in
            let y = get_or-take m (drop s first) j 0 t in
            let z = get_or-drop s first j 0 in
            let c : s + j ≡ j + s = omega arith in
            sym x ∙ w ∙ y ∙ z ∙ ap (λ (x : ℕ). get_or first x 0) c

    two_ranges : Same first second s 0 n → take n second ≡ take m (drop s first)
    two_ranges x = same_number_lists (take n second) (take m (drop s first)) simp (length-take, length-drop) (omega arith) at
      where
        at : (j : ℕ) → j < length (take n second) → get_or (take n second) j 0 ≡ get_or (take m (drop s first)) j 0
        at j i =
            let l : j < n = omega (arith, simp length-take at i) in
            let t : j < m = omega arith in
            let c : j + s ≡ s + j = omega arith in
            get_or-take n second j 0 l ∙ x.words j (omega arith) l ∙ ap (λ (x : ℕ). get_or first x 0) c
            ∙ sym (get_or-take m (drop s first) j 0 t ∙ get_or-drop s first j 0)

    pub ranges_tell : (r : Bool) → r ≡ pointwise eqb (take n second) (take m (drop s first)) → Tells r (Same first second s 0 n)
    ranges_tell r q =
        let d = slice_eq-Decides Decides-eqb (take n second) (take m (drop s first)) r q in
        record { holds = λ t. one-range (d.0 t); fails = λ f x. true≢false (sym (d.1 (two_ranges x)) ∙ f) }

  -- what the run of the whole overlap tells, where that is long enough
  pub whole_run : {r : Bool} → least_overlap ≤ overlap first second s → Tells r (Same first second s 0 (overlap first second s)) → Tells r (Agrees first second s)
  whole_run {r = true} h t = all_same h (t.holds refl)
  whole_run {r = false} h t = run_differs 0 (overlap first second s) (omega arith) (t.fails refl)
