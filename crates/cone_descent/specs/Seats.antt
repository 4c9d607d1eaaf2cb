-- The place of a copy in the list, by its mark.
use Rattle.std.specs.Prelude.{◌≡◌, List, ℕ, ◌+◌, ◌-◌, ◌≤◌, ◌<◌, get_or}
use Rattle.std.proofs.Common.{sym, ap, ◌∙◌, arith}
use Rattle.std.proofs.Math.Decide.{ℕ_discrete, dec_lt}
use Rattle.sequences.specs.TestLaws.{first-here, first-none}
use Rattle.net_model.specs.Arrays.{copy_at}
use Rattle.net_model.specs.Copies.{Copy}
use Rattle.cone_descent.specs.Descent.{place, seat_mark, Marked, Seat, Missed}

pub missed_first : (us ds : List ℕ) (y : Copy) (mark : ℕ) → 2 ≤ mark → mark < 256 → (seat_mark (mark - 2) ≡ mark) × Missed us ds y mark (mark - 2)
missed_first us ds y mark h k = (omega arith, λ q l e. absurd (none q l e))
  where
    none : (q : ℕ) → q < mark - 2 → seat_mark q ≡ mark → ⊥
    none q l e = omega arith

pub missed_more : (us ds : List ℕ) (y : Copy) (mark p : ℕ) → seat_mark p ≡ mark → ¬ (copy_at us ds p ≡ y) → Missed us ds y mark p → (seat_mark (p + 254) ≡ mark) × Missed us ds y mark (p + 254)
missed_more us ds y mark p e n m = (omega arith, λ q l z. go q l z (dec_lt q p) (ℕ_discrete q p))
  where
    between : (q : ℕ) → p < q → q < p + 254 → seat_mark q ≡ mark → ⊥
    between q a b z = omega arith

    go : (q : ℕ) → q < p + 254 → seat_mark q ≡ mark → Dec (q < p) → Dec (q ≡ p) → ¬ (copy_at us ds q ≡ y)
    go q l z (yes a) d = m q a z
    go q l z (no a) (yes b) = λ c. n (ap (copy_at us ds) (sym b) ∙ c)
    go q l z (no a) (no b) = absurd (between q (omega arith) l z)

module _ (us ds : List ℕ) (len : ℕ) (marks : List ℕ) (at : ℕ) (y : Copy) where
  marked : (width : ℕ) → place width y ≡ at → Marked width us ds len marks → (q : ℕ) → q < len → copy_at us ds q ≡ y → seat_mark q ≡ get_or marks at 0
  marked width e s q h c = sym (s q h) ∙ ap (λ (x : Copy). get_or marks (place width x) 0) c ∙ ap (λ (z : ℕ). get_or marks z 0) e

  pub seat_none : (mark : ℕ) → mark ≡ get_or marks at 0 → mark < 2 → Seat us ds len marks at y len
  seat_none mark e h width p s = first-none (λ j. copy_at us ds j ≡ y) len (λ j l c. bad j (marked width p s j l c))
    where
      bad : (j : ℕ) → seat_mark j ≡ get_or marks at 0 → ⊥
      bad j z = omega (arith, z, e, h)

  pub seat_here : (mark p : ℕ) → mark ≡ get_or marks at 0 → p < len → copy_at us ds p ≡ y → Missed us ds y mark p → Seat us ds len marks at y p
  seat_here mark p e h c m width q s = first-here (λ j. copy_at us ds j ≡ y) len p h c (λ j l z. m j l (marked width q s j (omega arith) z ∙ sym e) z)

  pub seat_end : (mark p : ℕ) → mark ≡ get_or marks at 0 → len ≤ p → Missed us ds y mark p → Seat us ds len marks at y len
  seat_end mark p e h m width q s = first-none (λ j. copy_at us ds j ≡ y) len (λ j l z. m j (omega arith) (marked width q s j l z ∙ sym e) z)
