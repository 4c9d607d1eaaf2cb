-- A least labelling has no label above G: else some number from 1 to G is no label, and all labels above it could fall by 1.
use Rattle.std.specs.Prelude.{◌≡◌, refl, List, [], ◌∷◌, ◌⊎◌, ℕ, zero, suc, ◌+◌, ◌*◌, ◌≤◌, ◌<◌, ℤ, pos, ◌+ℤ◌, ◌-ℤ◌, length, ◌≤ℤ◌, ◌<ℤ◌}
use Rattle.std.proofs.Common.{sym, subst, ap, ◌∙◌, inl, inr, arith}
use Rattle.std.specs.Int.Signed.{≤ℤ_refl}
use Rattle.integers.specs.Parts.{ints, +-parts, sub_parts}
use Rattle.integers.specs.Order.{≤ℤ_trans, ≤ℤ_total, <ℤ?, ℤ_dec}
use Rattle.integers.specs.Height.{height}
use Rattle.integers.proofs.Height.{height-parts}
use Rattle.sequences.specs.Member.{◌∈◌, here, there, not_in_nil}
use Rattle.sequences.specs.Decide.{any?, all?, not-all, count-from, in_count-from, count-from_in, length-count-from}
use Rattle.sequences.specs.Distinct.{inject, distinct-count-from, remove, length-remove, remove-cases}
use Rattle.net_model.specs.Net.{Net, Pin, IsGate, IsInput, IsNode, size}
use Rattle.net_model.specs.Checks.{Sound}
use Rattle.net_model.specs.Copies.{Copy, Cut}
use Rattle.cone_theory.specs.Basics.{is_gate?}
use Rattle.cone_theory.specs.FewCopies.{gate_numbers, in_gate_numbers, gate_numbers_in, length-gate_numbers}
use Rattle.label_theory.specs.Labels.{Low, Mode, LabellingIn, LeastIn}
use Rattle.label_theory.specs.Modes.{inside-lower}
use Rattle.label_theory.specs.Lower.{recut, remember, input_or_gate, leaf-node}

-- numbers above t fall by 1
fall_at : (t : ℕ) (z : ℤ) → Dec (pos t <ℤ z) → ℤ
fall_at t z (yes h) = z -ℤ pos 1
fall_at t z (no n) = z

fall : ℕ → ℤ → ℤ
fall t z = fall_at t z (<ℤ? (pos t) z)

fall-above : (t : ℕ) (z : ℤ) → pos t <ℤ z → fall t z ≡ (z -ℤ pos 1)
unfolding fall fall_at
fall-above t z h = go (<ℤ? (pos t) z)
  where
    go : (d : Dec (pos t <ℤ z)) → fall_at t z d ≡ (z -ℤ pos 1)
    go (yes k) = refl
    go (no n) = absurd (n h)

fall-below : (t : ℕ) (z : ℤ) → z ≤ℤ pos t → fall t z ≡ z
unfolding fall fall_at
fall-below t z h = go (<ℤ? (pos t) z)
  where
    clash : pos t <ℤ z → z ≤ℤ pos t → ⊥
    clash a b = omega (arith, ints)

    go : (d : Dec (pos t <ℤ z)) → fall_at t z d ≡ z
    go (yes k) = absurd (clash k h)
    go (no n) = refl

fall-under : (t : ℕ) (z : ℤ) → fall t z ≤ℤ z
fall-under t z = go (≤ℤ_total z (pos t))
  where
    go : (z ≤ℤ pos t) ⊎ (pos t <ℤ z) → fall t z ≤ℤ z
    go (inl h) = rw (fall-below t z h) (≤ℤ_refl z)
    go (inr h) = rw (fall-above t z h) (omega (arith, ints, sub_parts z (pos 1)))

-- where t itself is no label, heights of leaves fall with the labels
fall-height : (φ t d : ℕ) (l h : ℤ) → ¬ (l ≡ pos t) → ¬ (h ≡ pos t) → height φ l d ≤ℤ h → height φ (fall t l) d ≤ℤ fall t h
fall-height φ t d l h nl nh le = go (≤ℤ_total l (pos t)) (≤ℤ_total h (pos t))
  where
    under : (z : ℤ) → ¬ (z ≡ pos t) → z ≤ℤ pos t → z <ℤ pos t
    under z n q = pick (≤ℤ_total (pos t) z)
      where
        equal : pos t ≤ℤ z → z ≡ pos t
        equal r = omega (arith, ints)

        pick : (pos t ≤ℤ z) ⊎ (z <ℤ pos t) → z <ℤ pos t
        pick (inl r) = absurd (n (equal r))
        pick (inr r) = r

    go : (l ≤ℤ pos t) ⊎ (pos t <ℤ l) → (h ≤ℤ pos t) ⊎ (pos t <ℤ h) → height φ (fall t l) d ≤ℤ fall t h
    go (inl a) (inl b) = rw (fall-below t l a) (rw (fall-below t h b) le)
    go (inl a) (inr b) =
        let c = under l nl a in
        rw (fall-below t l a) (rw (fall-above t h b) (omega (arith, ints, height-parts φ l d, sub_parts h (pos 1))))
    go (inr a) (inl b) =
        let c = under h nh b in
        rw (fall-above t l a) (rw (fall-below t h b) (omega (arith, ints, height-parts φ l d, height-parts φ (l -ℤ pos 1) d, sub_parts l (pos 1))))
    go (inr a) (inr b) =
        rw (fall-above t l a) (rw (fall-above t h b) (omega (arith, ints, height-parts φ l d, height-parts φ (l -ℤ pos 1) d, sub_parts l (pos 1), sub_parts h (pos 1))))

module _ {M : Mode} (N : Net) (k φ : ℕ) (sound : Sound N) (lab : ℕ → ℤ) where
  -- all labels above an unused t may fall by 1
  fallen : (t : ℕ) → 1 ≤ t → ((v : ℕ) → IsGate N v → ¬ (lab v ≡ pos t)) → LabellingIn M N k φ lab → LabellingIn M N k φ (λ v. fall t (lab v))
  fallen t p unused l = record {
    inputs = λ v i. ap (fall t) (l.inputs v i) ∙ fall-below t (pos 0) (omega (arith, ints));
    gates = λ v g. remember (recut (l.gates v g)
        (λ y m a. fall-height φ t y.back (lab y.node) (lab v) (node y.node (leaf-node sound (l.gates v g).is_leaves m)) (unused v g) a))
        (λ x m. inside-lower M φ x (fall-under t (lab v)));
  }
    where
      node : (u : ℕ) → IsNode N u → ¬ (lab u ≡ pos t)
      node u h = go (input_or_gate N u h)
        where
          go : IsInput N u ⊎ IsGate N u → ¬ (lab u ≡ pos t)
          go (inl i) e = let z = l.inputs u i in omega (arith, ints)
          go (inr g) e = unused u g e

  -- **A least labelling has no label above G.**
  pub least-small : LeastIn M N k φ lab → (v : ℕ) → IsGate N v → lab v ≤ℤ pos (length N.gates)
  least-small b v g = go (≤ℤ_total (lab v) (pos (length N.gates)))
    where
      G : ℕ
      G = length N.gates

      Used : ℕ → Type 0
      Used t = (u : ℕ) × (u ∈ gate_numbers N) × (lab u ≡ pos t)

      used? : (t : ℕ) → Dec (Used t)
      used? t = any? (gate_numbers N) (λ u m. ℤ_dec (lab u) (pos t))

      crowded : pos G <ℤ lab v → ((t : ℕ) → t ∈ count-from 1 G → Used t) → ⊥
      crowded h f =
          let m = in_gate_numbers g in
          let a = inject {R = λ t u. lab u ≡ pos t} (distinct-count-from 1 G) (λ t i. other t i m (f t i)) (λ t t' u p q. let e = sym p ∙ q in omega (arith, ≡-pos e)) in
          let r = length-remove m in
          let c = length-count-from 1 G in
          let n = length-gate_numbers N in
          omega arith
        where
          ≡-pos : {a b : ℕ} → pos a ≡ pos b → a ≡ b
          ≡-pos e = omega (arith, ints)

          other : (t : ℕ) → t ∈ count-from 1 G → (m : v ∈ gate_numbers N) → Used t → (u : ℕ) × (u ∈ remove m) × (lab u ≡ pos t)
          other t i m (u, j, e) = pick (remove-cases m u j)
            where
              pick : (u ≡ v) ⊎ (u ∈ remove m) → (w : ℕ) × (w ∈ remove m) × (lab w ≡ pos t)
              pick (inl q) = absurd (high (subst (λ (w : ℕ). lab w ≡ pos t) q e) (count-from_in 1 G t i).1)
                where
                  high : lab v ≡ pos t → t < 1 + G → ⊥
                  high e' lt = omega (arith, ints)
              pick (inr w) = (u, w, e)

      go : (lab v ≤ℤ pos G) ⊎ (pos G <ℤ lab v) → lab v ≤ℤ pos G
      go (inl h) = h
      go (inr h) = absurd (lower (not-all (count-from 1 G) (crowded h) (λ t i. used? t)))
        where
          lower : (t : ℕ) × (t ∈ count-from 1 G) × (¬ Used t) → ⊥
          lower (t, i, n) =
              let r = count-from_in 1 G t i in
              let a = b.least (λ u. fall t (lab u)) (fallen t r.0 (λ u gu e. n (u, in_gate_numbers gu, e)) b.labelling) v g in
              let e = fall-above t (lab v) (omega (arith, ints, r.1)) in
              omega (arith, ints, sub_parts (lab v) (pos 1))
