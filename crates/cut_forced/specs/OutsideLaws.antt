-- The copies read outside a forced set, counted pin by pin and member by member.
use Rattle.std.specs.Prelude.{◌≡◌, refl, List, [], ◌∷◌, ◌++◌, ◌⊎◌, ℕ, ◌+◌, ◌≤◌, ◌<◌, get_or}
use Rattle.std.proofs.Common.{sym, ap, subst, ◌∙◌, inl, inr, arith, length-append}
use Rattle.std.proofs.Math.Decide.{ℕ_discrete}
use Rattle.limits.specs.Limits.{most_pins}
use Rattle.sequences.specs.Member.{◌∈◌, here, there, in_append_left, in_append_right}
use Rattle.cut_circuit.specs.Circuit.{Circuit, feeder, pins_of}
use Rattle.cut_circuit.specs.CircuitLaws.{wide-positive}
use Rattle.cut_forced.specs.Slots.{marked, gate_at}
use Rattle.cut_forced.specs.SlotLaws.{gate-inside}
use Rattle.cut_forced.specs.Outside.{OneMore, OutsideAsked, PinsOutside, Outside}

-- ---- what is asked of a pin
module _ {W : Circuit} {slots : List ℕ} {x : ℕ} (A : OutsideAsked W slots x) where
  pub asked-few : pins_of W x ≤ most_pins
  asked-few = A.grounded.layout.few (gate_at W x) (gate-inside (wide-positive A.grounded.layout) A.inner)

pub one-more-bound : (inputs gates width border : ℕ) (slots : List ℕ) (y : ℕ) {c r m : ℕ} → OneMore inputs gates width border slots y c r → c ≤ m → r ≤ m + 1
one-more-bound inputs gates width border slots y (inl (h, e)) l = omega (arith, e, l)
one-more-bound inputs gates width border slots y (inr e) l = omega (arith, e, l)

-- ---- one more pin, one more member
module _ {W : Circuit} {slots : List ℕ} {x : ℕ} where
  pub pins-outside-none : {c : ℕ} → PinsOutside W slots x 0 c c
  pins-outside-none = record { others = []; count = omega arith; all = λ j h. absurd (omega (arith, h)) }

  pub pins-outside-all : {j n c r : ℕ} → j ≡ n → PinsOutside W slots x j c r → PinsOutside W slots x n c r
  pins-outside-all {c = c} {r = r} e p = subst (λ (z : ℕ). PinsOutside W slots x z c r) e p

  pub pins-outside-more : {j c o r : ℕ} → PinsOutside W slots x j c o → OneMore W.inputs W.gates W.width W.border slots (feeder W x j) o r → PinsOutside W slots x (j + 1) c r
  pins-outside-more {j} {c} {o} {r} p (inl (h, e)) = record { others = p.others; count = e ∙ p.count; all = λ i l. go i l (ℕ_discrete i j) }
    where
      go : (i : ℕ) → i < j + 1 → Dec (i ≡ j) → (0 < marked W slots (feeder W x i)) ⊎ (feeder W x i ∈ p.others)
      go i l (yes q) = inl (subst (λ (z : ℕ). 0 < marked W slots (feeder W x z)) (sym q) h)
      go i l (no n) = p.all i (omega (arith, l, n))
  pins-outside-more {j} {c} {o} {r} p (inr e) = record { others = feeder W x j ∷ p.others; count = omega (arith, e, p.count); all = λ i l. go i l (ℕ_discrete i j) }
    where
      old : (i : ℕ) → (0 < marked W slots (feeder W x i)) ⊎ (feeder W x i ∈ p.others) → (0 < marked W slots (feeder W x i)) ⊎ (feeder W x i ∈ feeder W x j ∷ p.others)
      old i (inl h) = inl h
      old i (inr m) = inr (there m)

      go : (i : ℕ) → i < j + 1 → Dec (i ≡ j) → (0 < marked W slots (feeder W x i)) ⊎ (feeder W x i ∈ feeder W x j ∷ p.others)
      go i l (yes q) = inr (here (ap (feeder W x) q))
      go i l (no n) = old i (p.all i (omega (arith, l, n)))

module _ {W : Circuit} {slots members : List ℕ} where
  pub outside-none : Outside W slots members 0 0
  outside-none = record { others = []; count = refl; all = λ a h. absurd (omega (arith, h)) }

  pub outside-all : {i n c : ℕ} → i ≡ n → Outside W slots members i c → Outside W slots members n c
  outside-all {c = c} e o = subst (λ (z : ℕ). Outside W slots members z c) e o

  pub outside-more : {i c r : ℕ} → Outside W slots members i c → PinsOutside W slots (get_or members i 0) (pins_of W (get_or members i 0)) c r → Outside W slots members (i + 1) r
  outside-more {i} {c} {r} o p = record {
    others = p.others ++ o.others;
    count = omega (arith, p.count, o.count, length-append p.others o.others);
    all = λ a l j b. go a l j b (ℕ_discrete a i);
  }
    where
      Read : ℕ → ℕ → List ℕ → Type 0
      Read a j l = (0 < marked W slots (feeder W (get_or members a 0) j)) ⊎ (feeder W (get_or members a 0) j ∈ l)

      left : (a j : ℕ) → Read a j p.others → Read a j (p.others ++ o.others)
      left a j (inl h) = inl h
      left a j (inr m) = inr (in_append_left o.others m)

      right : (a j : ℕ) → Read a j o.others → Read a j (p.others ++ o.others)
      right a j (inl h) = inl h
      right a j (inr m) = inr (in_append_right p.others m)

      go : (a : ℕ) → a < i + 1 → (j : ℕ) → j < pins_of W (get_or members a 0) → Dec (a ≡ i) → Read a j (p.others ++ o.others)
      go a l j b (yes q) =
          subst (λ (z : ℕ). Read z j (p.others ++ o.others)) (sym q) (left i j (p.all j (subst (λ (z : ℕ). j < pins_of W (get_or members z 0)) q b)))
      go a l j b (no n) = right a j (o.all a (omega (arith, l, n)) j b)
