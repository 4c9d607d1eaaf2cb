-- Laws of a row: written behind numbers gathered, and read.
use Rattle.std.specs.Prelude.{◌≡◌, Option, Some, IfSome, take, drop, List, ◌⊎◌, ℕ, ◌+◌, ◌-◌, ◌/◌, ◌%◌, ◌≤◌, ◌<◌, ℤ, length, get_or, set}
use Rattle.std.proofs.Common.{sym, subst, ◌∙◌, inl, inr, arith, length-take, length-drop, get_or-take, get_or-drop, length-set, get_or-set_same, get_or-set_other}
use Rattle.limits.specs.Limits.{most_k}
use Rattle.net_model.specs.Copies.{copy}
use Rattle.label_theory.specs.Labels.{Low}
use Rattle.cut_circuit.specs.CircuitLaws.{node-below}
use Rattle.cut_kept.specs.KeptCuts.{row_places, row_at, row_in}
use Rattle.cut_kept.specs.Keeping.{Gathered, Gathers, RowTold, CloseTold, dropped, closed, CloseAsked, ServeAsked, LowFrom, AllLowAsked, Serves}

-- ---- a row written
-- what lies beside a row lies beside its leaves
beside-leaves : (at j : ℕ) → (j < at) ⊎ (at + row_places ≤ j) → (j < at + 2) ⊎ (at + 2 + most_k ≤ j)
beside-leaves at j (inl p) = inl (omega (arith, p))
beside-leaves at j (inr p) = inr (omega (arith, p))

-- and is none of the row's first places
beside_head : (at i j : ℕ) → at ≤ i → i < at + 2 → (j < at) ⊎ (at + row_places ≤ j) → ¬ (j ≡ i)
beside_head at i j h l (inl p) e = omega (arith, p, e, h)
beside_head at i j h l (inr p) e = omega (arith, p, e, l)

module _ {gates : ℕ} {l : List ℕ} {g border : ℕ} (a : CloseAsked gates l g border) where
  pub row_inside : row_at gates g + row_places ≤ length l
  row_inside = omega (arith, a.gate, a.room)

  module _ {most : ℕ} {Due : ℕ → Type 0} {l' : List ℕ} {m : Option ℕ} (w : Gathers most Due l (row_at gates g + 2) 0 l' m) where
    row-dropped : RowTold gates most Due l (set l' (row_at gates g) 0) g border
    row-dropped = record {
      fits = record { few = omega (arith, none); inside = λ i h. absurd (omega (arith, h, none)) };
      border = λ h. absurd (omega (arith, h, none));
      all = λ h. absurd (omega (arith, h, none));
      same = λ j h. get_or-set_other l' (row_at gates g) j 0 0 (beside_head (row_at gates g) (row_at gates g) j (omega arith) (omega arith) h) ∙ w.same j (beside-leaves (row_at gates g) j h);
    }
      where
        none : get_or (set l' (row_at gates g) 0) (row_at gates g) 0 ≡ 0
        none = get_or-set_same l' (row_at gates g) 0 0 (omega (arith, w.long, row_inside))

    module _ (n : ℕ) (found : m ≡ Some n) where
      abbrev counted : List ℕ
      counted = set l' (row_at gates g) n

      abbrev written : List ℕ
      written = set counted (row_at gates g + 1) border

      count-is : get_or written (row_at gates g) 0 ≡ n
      count-is =
          get_or-set_other counted (row_at gates g + 1) (row_at gates g) border 0 (λ e. omega (arith, e))
          ∙ get_or-set_same l' (row_at gates g) n 0 (omega (arith, w.long, row_inside))

      border-is : get_or written (row_at gates g + 1) 0 ≡ border
      border-is = get_or-set_same counted (row_at gates g + 1) border 0 (omega (arith, length-set l' (row_at gates g) n, w.long, row_inside))

      else_is : (j : ℕ) → ¬ (j ≡ row_at gates g) → ¬ (j ≡ row_at gates g + 1) → get_or written j 0 ≡ get_or l' j 0
      else_is j p q = get_or-set_other counted (row_at gates g + 1) j border 0 q ∙ get_or-set_other l' (row_at gates g) j n 0 p

      leaf-is : (i : ℕ) → get_or written (row_at gates g + 2 + i) 0 ≡ get_or l' (row_at gates g + 2 + i) 0
      leaf-is i = else_is (row_at gates g + 2 + i) (λ e. omega (arith, e)) (λ e. omega (arith, e))

      row-closed : RowTold gates most Due l written g border
      row-closed =
          let z = subst (λ (s : Option ℕ). IfSome s (λ k. (k ≤ most_k) × Gathered most Due l (row_at gates g + 2) 0 l' k)) found w.fits in
          let q = z.1 in
          record {
            fits = record { few = omega (arith, count-is, z.0); inside = λ i h. omega (arith, leaf-is i, q.inside i (omega arith) (omega (arith, h, count-is))) };
            border = λ h. border-is;
            all = λ h y d. let r = q.all y d in (r.0, omega (arith, r.1, count-is), leaf-is r.0 ∙ r.2);
            same = λ j h.
                else_is j (beside_head (row_at gates g) (row_at gates g) j (omega arith) (omega arith) h) (beside_head (row_at gates g) (row_at gates g + 1) j (omega arith) (omega arith) h) ∙ w.same j (beside-leaves (row_at gates g) j h);
          }

    pub row_told : {l₂ : List ℕ} → CloseTold gates l' g border m l₂ → RowTold gates most Due l l₂ g border
    row_told (dropped h e) = rw e row-dropped
    row_told (closed n h e) = rw e (row-closed n h)

-- ---- a row read
-- so many numbers from a place on
abbrev part : List ℕ → ℕ → ℕ → List ℕ
part l at n = take (at + n - at) (drop at l)

length-part : (l : List ℕ) (at n : ℕ) → at + n ≤ length l → length (part l at n) ≡ n
length-part l at n h = simp (length-take, length-drop) (omega arith)

at-part : (l : List ℕ) (at n i : ℕ) → i < n → get_or (part l at n) i 0 ≡ get_or l (at + i) 0
at-part l at n i h = get_or-take (at + n - at) (drop at l) i 0 (omega (arith, h)) ∙ get_or-drop at l i 0

module _ {inputs gates width : ℕ} {l : List ℕ} {ls : List ℤ} {φ g : ℕ} (a : ServeAsked inputs gates width l ls φ g) where
  pub row-placed : row_at gates g + row_places ≤ length l
  row-placed = omega (arith, a.gate, a.places)

  pub row-leaves : {n : ℕ} → n ≡ get_or l (row_at gates g) 0 → row_at gates g + 2 + n ≤ length l
  row-leaves e = omega (arith, row-placed, e, a.fits.few)

  pub low-asked : {n : ℕ} → n ≡ get_or l (row_at gates g) 0 → AllLowAsked width (part l (row_at gates g + 2) n) ls φ
  low-asked {n} e = record {
    wide = a.wide;
    label = λ i h.
        let j : i < n = omega (arith, h, length-part l (row_at gates g + 2) n (row-leaves e)) in
        let b = node-below (get_or l (row_at gates g + 2 + i) 0) width (inputs + gates) a.wide (a.fits.inside i (omega (arith, j, e))) in
        subst (λ (x : ℕ). x / width < length ls) (sym (at-part l (row_at gates g + 2) n i j)) (omega (arith, b, a.labels));
    small = a.small;
    shift = a.shift;
  }

pub row_serves : (gates g width φ : ℕ) (l : List ℕ) (lab : ℕ → ℤ) (h : ℤ) {border k n b : ℕ} → n ≡ get_or l (row_at gates g) 0 → b ≡ get_or l (row_at gates g + 1) 0 → 0 < n → n ≤ k → b ≤ border
    → LowFrom width l (row_at gates g + 2) n φ lab h → Serves (row_in gates l g) width border k φ lab h
row_serves gates g width φ l lab h e f some few near low = record {
  some = omega (arith, e, some);
  few = omega (arith, e, few);
  near = omega (arith, f, near);
  low = λ x r. subst (λ (y : ℕ). Low φ lab h (copy (y / width) (y % width))) r.2 (low r.0 (omega (arith, r.1, e)));
}
