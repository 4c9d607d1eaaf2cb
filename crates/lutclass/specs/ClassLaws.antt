-- Laws of classes: every turning does what one of the 96 does, so that the smallest table which these make is the class; tables share a class exactly
-- when one can be turned into the other.
use Rattle.std.specs.Prelude.{◌≡◌, refl, [], ◌∷◌, ◌⊎◌, ℕ, zero, suc, ◌+◌, ◌*◌, ◌/◌, ◌%◌, ◌≤◌, ◌<◌, min, get_or}
use Rattle.std.proofs.Common.{sym, ap, subst, ◌∙◌, inl, inr, not-suc-le-zero, le_antisymm, eq-or-lt_of_le, le_of_suc-le-suc, arith}
use Rattle.std.proofs.Math.Decide.{dec_lt}
use Rattle.std.proofs.Math.Nat.{min-le_left, min-le_right, min-eq_left, min-eq_right}
use Rattle.net_model.specs.Tables.{bit, as_number}
use Rattle.cone_values.specs.Words.{as_number_small, index-small, bit-low}
use Rattle.lutclass.specs.Classes.{LutLeaf, leaf0, leaf1, leaf2, LeafOrder, Turning, choice, turn, TurnsInto, IsClass}
use Rattle.lutclass.specs.Turnings.{by_leaf, straight, orders, turning_at, least_of, class_of}
use Rattle.lutclass.specs.TurningLaws.{choice_of, choice-of, SameTurning, turn-alike, turns-self, turns-back, turns-on}

-- ---- each turning by its number

-- the order by the leaves that it gives
abbrev At : LutLeaf → LutLeaf → LutLeaf → Type 0
At a b c = (k : ℕ) × (k < 6) × ((l : LutLeaf) → (get_or orders k straight).to l ≡ by_leaf a b c l)

at : (k : ℕ) (a b c : LutLeaf) → k < 6 → (get_or orders k straight).to leaf0 ≡ a → (get_or orders k straight).to leaf1 ≡ b → (get_or orders k straight).to leaf2 ≡ c → At a b c
at k a b c h p q r = (k, h, go)
  where
    go : (l : LutLeaf) → (get_or orders k straight).to l ≡ by_leaf a b c l
    go leaf0 = p
    go leaf1 = q
    go leaf2 = r

six : (a b c : LutLeaf) → ¬ (a ≡ b) → ¬ (b ≡ c) → ¬ (a ≡ c) → At a b c
unfolding orders
six leaf0 leaf1 leaf2 p q r = at 0 leaf0 leaf1 leaf2 (omega arith) refl refl refl
six leaf0 leaf2 leaf1 p q r = at 1 leaf0 leaf2 leaf1 (omega arith) refl refl refl
six leaf1 leaf0 leaf2 p q r = at 2 leaf1 leaf0 leaf2 (omega arith) refl refl refl
six leaf1 leaf2 leaf0 p q r = at 3 leaf1 leaf2 leaf0 (omega arith) refl refl refl
six leaf2 leaf0 leaf1 p q r = at 4 leaf2 leaf0 leaf1 (omega arith) refl refl refl
six leaf2 leaf1 leaf0 p q r = at 5 leaf2 leaf1 leaf0 (omega arith) refl refl refl
six leaf0 leaf0 c p q r = absurd (p refl)
six leaf1 leaf1 c p q r = absurd (p refl)
six leaf2 leaf2 c p q r = absurd (p refl)
six leaf0 leaf1 leaf0 p q r = absurd (r refl)
six leaf0 leaf1 leaf1 p q r = absurd (q refl)
six leaf0 leaf2 leaf0 p q r = absurd (r refl)
six leaf0 leaf2 leaf2 p q r = absurd (q refl)
six leaf1 leaf0 leaf1 p q r = absurd (r refl)
six leaf1 leaf0 leaf0 p q r = absurd (q refl)
six leaf1 leaf2 leaf1 p q r = absurd (r refl)
six leaf1 leaf2 leaf2 p q r = absurd (q refl)
six leaf2 leaf0 leaf2 p q r = absurd (r refl)
six leaf2 leaf0 leaf0 p q r = absurd (q refl)
six leaf2 leaf1 leaf2 p q r = absurd (r refl)
six leaf2 leaf1 leaf1 p q r = absurd (q refl)

order-at : (o : LeafOrder) → (k : ℕ) × (k < 6) × ((l : LutLeaf) → (get_or orders k straight).to l ≡ o.to l)
order-at o = let r = six (o.to leaf0) (o.to leaf1) (o.to leaf2) (apart leaf0 leaf1 zero_one) (apart leaf1 leaf2 one-two) (apart leaf0 leaf2 zero-two) in (r.0, r.1, λ l. r.2 l ∙ same l)
  where
    apart : (a b : LutLeaf) → ¬ (a ≡ b) → ¬ (o.to a ≡ o.to b)
    apart a b n e = n (sym (o.from-to a) ∙ ap o.from e ∙ o.from-to b)

    zero_one : ¬ (leaf0 ≡ leaf1)
    zero_one e = let z : ◌≡◌ {A = ℕ} 0 1 = cc in omega arith

    one-two : ¬ (leaf1 ≡ leaf2)
    one-two e = let z : ◌≡◌ {A = ℕ} 0 1 = cc in omega arith

    zero-two : ¬ (leaf0 ≡ leaf2)
    zero-two e = let z : ◌≡◌ {A = ℕ} 0 1 = cc in omega arith

    same : (l : LutLeaf) → by_leaf (o.to leaf0) (o.to leaf1) (o.to leaf2) l ≡ o.to l
    same leaf0 = refl
    same leaf1 = refl
    same leaf2 = refl

-- **Every turning does what one of the 96 does.**
pub numbered : (t : Turning) → (n : ℕ) × (n < 96) × SameTurning (turning_at n) t
unfolding turning_at
numbered t = (n, bound, alike)
  where
    r : (k : ℕ) × (k < 6) × ((l : LutLeaf) → (get_or orders k straight).to l ≡ t.order.to l)
    r = order-at t.order

    m : ℕ
    m = choice_of t.inverts

    n : ℕ
    n = as_number t.output + 2 * (m + 8 * r.0)

    small : m < 8
    small = index-small (t.inverts leaf0 ∷ t.inverts leaf1 ∷ t.inverts leaf2 ∷ [])

    bound : n < 96
    bound = let a = as_number_small t.output in let b = r.1 in let c = small in omega arith

    order-of : n / 16 ≡ r.0
    order-of = let a = as_number_small t.output in let c = small in omega arith

    inverts-of : n / 2 % 8 ≡ m
    inverts-of = let a = as_number_small t.output in let c = small in omega arith

    output-of : bit n 0 ≡ t.output
    output-of = bit-low t.output (m + 8 * r.0)

    alike : SameTurning (turning_at n) t
    alike = record {
      order = λ l. ap (λ (i : ℕ). (get_or orders i straight).to l) order-of ∙ r.2 l;
      inverts = λ l. ap (λ (i : ℕ). choice i l) inverts-of ∙ choice-of t.inverts l;
      output = output-of;
    }

-- ---- the smallest

pub least_start : (g : ℕ → ℕ) (s n : ℕ) → least_of g s n ≤ s
unfolding least_of
least_start g s zero = omega arith
least_start g s (suc n) = let a = least_start g s n in let b = min-le_right (g n) (least_of g s n) in omega arith

least-below : (g : ℕ → ℕ) (s n i : ℕ) → i < n → least_of g s n ≤ g i
unfolding least_of
least-below g s zero i h = absurd (not-suc-le-zero h)
least-below g s (suc n) i h = go (eq-or-lt_of_le (le_of_suc-le-suc h)) (least-below g s n i)
  where
    go : (i ≡ n) ⊎ (i < n) → (i < n → least_of g s n ≤ g i) → min (g n) (least_of g s n) ≤ g i
    go (inl e) rest = subst (λ (j : ℕ). min (g n) (least_of g s n) ≤ g j) (sym e) (min-le_left (g n) (least_of g s n))
    go (inr l) rest = let a = rest l in let b = min-le_right (g n) (least_of g s n) in omega arith

least-some : (g : ℕ → ℕ) (s n : ℕ) → (s ≡ least_of g s n) ⊎ ((i : ℕ) × (g i ≡ least_of g s n))
unfolding least_of
least-some g s zero = inl refl
least-some g s (suc n) = go (dec_lt (g n) (least_of g s n)) (least-some g s n)
  where
    go : Dec (g n < least_of g s n) → (s ≡ least_of g s n) ⊎ ((i : ℕ) × (g i ≡ least_of g s n)) → (s ≡ min (g n) (least_of g s n)) ⊎ ((i : ℕ) × (g i ≡ min (g n) (least_of g s n)))
    go (yes l) d = inr (n, sym (min-eq_left (omega arith)))
    go (no m) (inl e) = inl (e ∙ sym (min-eq_right (omega arith)))
    go (no m) (inr p) = inr (p.0, p.1 ∙ sym (min-eq_right (omega arith)))

-- **The smallest table that the 96 turnings make of f is the smallest that f can be turned into.**
pub class_is : (f : ℕ) → f < 256 → IsClass f (class_of f)
unfolding class_of
class_is f h = record { reached = go (least-some made f 96); least = λ g p. below g p (numbered p.by) }
  where
    made : ℕ → ℕ
    made n = turn (turning_at n) f

    go : (f ≡ least_of made f 96) ⊎ ((i : ℕ) × (made i ≡ least_of made f 96)) → TurnsInto f (least_of made f 96)
    go (inl e) = let p = turns-self f h in record { by = p.by; makes = p.makes ∙ e }
    go (inr p) = record { by = turning_at p.0; makes = p.1 }

    below : (g : ℕ) (p : TurnsInto f g) → (n : ℕ) × (n < 96) × SameTurning (turning_at n) p.by → least_of made f 96 ≤ g
    below g p r = let e = turn-alike (turning_at r.0) p.by f r.2 ∙ p.makes in let l = least-below made f 96 r.0 r.1 in omega arith

-- ---- classes

pub class_unique : {f c d : ℕ} → IsClass f c → IsClass f d → c ≡ d
class_unique {f} {c} {d} p q = le_antisymm (p.least d q.reached) (q.least c p.reached)

-- what f can be turned into has f's class
pub class_moved : {f g c : ℕ} → f < 256 → TurnsInto f g → IsClass f c → IsClass g c
class_moved h p q = record { reached = turns-on (turns-back h p) q.reached; least = λ x r. q.least x (turns-on p r) }

-- tables of one class can be turned into each other
pub class_shared : {f g c : ℕ} → g < 256 → IsClass f c → IsClass g c → TurnsInto f g
class_shared h p q = turns-on p.reached (turns-back h q.reached)
