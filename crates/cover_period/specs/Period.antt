-- The least period: a LUT for each gate alone meets the longest line of gates without registers, so G, and the first period that a cover meets exists, and is at most G.
use Rattle.std.specs.Prelude.{◌≡◌, List, [], ◌∷◌, map, ◌⊎◌, ◌↔◌, ℤ, ◌+ℤ◌, ◌-ℤ◌, ◌≤ℤ◌}
use Rattle.std.proofs.Math.Path.{refl, subst, ap}
use Rattle.std.proofs.Common.{sym, ◌∙◌, inl, inr, le_trans}
use Prim.Native.Nat.{ℕ, zero, suc, ◌+◌, ◌-◌, ◌*◌, ◌≤◌, ◌<◌, suc-le-suc, zero-le}
use Rattle.std.proofs.Math.Nat.{mul-le-mul_left}
use native.Mathlib.Omega.{arith}
use Rattle.std.proofs.Math.IntN.{pos}
use Rattle.std.proofs.Math.ListN.{length}
use Rattle.integers.specs.Parts.{ints, +-parts, sub_parts}
use Rattle.sequences.specs.Member.{◌∈◌}
use Rattle.sequences.specs.Decide.{least}
use Rattle.sequences.specs.Decide as Search
use Rattle.net_model.specs.Net.{Net, Pin, IsGate, IsInput, pins}
use Rattle.net_model.specs.Checks.{Passed, Drives}
use Rattle.net_model.specs.Copies.{copy}
use Rattle.cone_theory.specs.Basics.{leaves_of}
use Rattle.cone_theory.specs.CopyOrder.{Levels, levels}
use Rattle.label_theory.specs.Labels.{Mode, plain, forward, LowCutIn, LowCut, LabellingIn, Labelling, OutputsMet, ReachableIn, Reachable}
use Rattle.label_theory.specs.Lower.{outputs-from}
use Rattle.label_bounds.specs.Bounds.{alone-cut, alone-leaves}
use Rattle.label_theory.specs.Modes.{Topped}
use Rattle.label_bounds.specs.LabelDecision.{reachable?, labelling_reaches}
use Rattle.cover_theory.specs.Covers.{Met, LeastPeriod}
use Rattle.cover_theory.specs.Forward.{ForwardMet, LeastForwardPeriod}
use Rattle.cover_theory.specs.Key.{KeyIn, Key}
use Rattle.cover_period.specs.KeyOf.{key_of}
use Rattle.cover_period.specs.Joined.{reachable-met, met-reachable, reachable-forward, forward-reachable}

unfoldable pub levels_of : {N : Net} {k : ℕ} → Passed N k → Levels N
levels_of P = levels P.loopless

module _ {N : Net} {k : ℕ} (P : Passed N k) where
  module _ (O : Levels N) (φ : ℕ) (enough : (v : ℕ) → O.level v ≤ φ) where
    -- each gate labelled by its level, as that of the longest line of gates without registers that ends there
    unfoldable pub line_label : ℕ → ℤ
    line_label v = pos (O.level v)

    line-pins : (v : ℕ) → IsGate N v → (q : Pin) → q ∈ pins N v → (c : ℕ) → q.count ≡ c → (line_label q.src -ℤ pos (φ * q.count)) ≤ℤ pos (O.level v - 1)
    unfolding line_label
    line-pins v g q i zero e =
        let r = O.rises (record { gate = g; pin = q; is_pin = i; source = refl; free = e }) in
        omega (arith, ints, sub_parts (pos (O.level q.src)) (pos (φ * q.count)))
    line-pins v g q i (suc c) e =
        let a = enough q.src in
        let b : φ * 1 ≤ φ * q.count = mul-le-mul_left φ (omega arith) in
        omega (arith, ints, sub_parts (pos (O.level q.src)) (pos (φ * q.count)))

    line-top : (M : Mode) (v : ℕ) → IsGate N v → Topped M φ (pos (O.level v - 1) +ℤ pos 1)
    line-top plain v g = tt
    line-top forward v g = omega (arith, ints, +-parts (pos (O.level v - 1)) (pos 1), O.gate v g, enough v)

    -- the gate alone is a cut of that height, in each mode
    pub line-cut_in : (M : Mode) (v : ℕ) → IsGate N v → (J : LowCutIn M N k φ line_label v (line_label v)) × ((leaves_of N (copy v 0 ∷ [])).0 ≡ J.leaves)
    unfolding line_label
    line-cut_in M v g =
        let l = O.gate v g in
        let e : (pos (O.level v - 1) +ℤ pos 1) ≡ pos (O.level v) = omega (arith, ints, +-parts (pos (O.level v - 1)) (pos 1)) in
        let reach : (q : Pin) → q ∈ pins N v → (line_label q.src -ℤ pos (φ * q.count)) ≤ℤ pos (O.level v - 1) = λ q i. line-pins v g q i q.count refl in
        subst (λ (h : ℤ). (J : LowCutIn M N k φ line_label v h) × ((leaves_of N (copy v 0 ∷ [])).0 ≡ J.leaves)) e
        (alone-cut N k φ P.sound M line_label v (pos (O.level v - 1)) P.fits g reach (line-top M v g), alone-leaves N k φ P.sound M line_label v (pos (O.level v - 1)) P.fits g reach (line-top M v g))

    pub line-cut : (v : ℕ) → IsGate N v → (J : LowCut N k φ line_label v (line_label v)) × ((leaves_of N (copy v 0 ∷ [])).0 ≡ J.leaves)
    line-cut = line-cut_in plain

    pub line-labelling_in : (M : Mode) → LabellingIn M N k φ line_label
    unfolding line_label
    line-labelling_in M = record { inputs = λ v i. ap pos (O.input v (not-gate i)); gates = λ v g. (line-cut_in M v g).0 }
      where
        not-gate : {v : ℕ} → IsInput N v → ¬ IsGate N v
        not-gate i g = omega (arith, g)

    pub line-labelling : Labelling N k φ line_label
    line-labelling = line-labelling_in plain

    pub line-outputs : OutputsMet N φ line_label
    unfolding line_label
    line-outputs = outputs-from N φ line_label (λ o i. let a = enough o.src in omega (arith, ints))

    -- **Every period from the greatest level up is reachable.**
    pub lines_reach_in : (M : Mode) → ReachableIn M N k φ
    lines_reach_in M = labelling_reaches P φ line_label (line-labelling_in M) line-outputs

    pub lines_reach : Reachable N k φ
    lines_reach = lines_reach_in plain

  -- **Every period from G up is reachable**, in each mode.
  pub gates-reach_in : (M : Mode) (φ : ℕ) → length N.gates ≤ φ → ReachableIn M N k φ
  gates-reach_in M φ h = lines_reach_in (levels_of P) φ (λ v. le_trans ((levels_of P).bound v) h) M

  pub gates-reach : (φ : ℕ) → length N.gates ≤ φ → Reachable N k φ
  gates-reach = gates-reach_in plain

  -- ---- the least period

  module _ (M : Mode) where
    unfoldable pub first_period_in : Search.Least (λ n. ReachableIn M N k (suc n)) (length N.gates)
    first_period_in = least (λ n. ReachableIn M N k (suc n)) (λ n. reachable? P (suc n)) (length N.gates) (gates-reach_in M (suc (length N.gates)) (omega arith))

    unfoldable pub least_period_in : ℕ
    unfolding first_period_in
    least_period_in = suc first_period_in.value

    unfoldable pub least_key_in : KeyIn M N k least_period_in
    unfolding least_period_in
    least_key_in = key_of P first_period_in.holds

    pub least-reached : ReachableIn M N k least_period_in
    unfolding least_period_in
    least-reached = first_period_in.holds

    -- no smaller period is reachable
    pub none-smaller : (ψ : ℕ) → 1 ≤ ψ → ψ < least_period_in → ¬ ReachableIn M N k ψ
    unfolding least_period_in
    none-smaller zero h lt m = absurd (omega arith)
    none-smaller (suc n) h lt m = first_period_in.least n (omega arith) m

    pub least-some : 1 ≤ least_period_in
    unfolding least_period_in
    least-some = suc-le-suc zero-le

    -- **It is at most G**, where there is a gate.
    pub least_period_in-bound : 1 ≤ length N.gates → least_period_in ≤ length N.gates
    unfolding least_period_in
    least_period_in-bound some = go (length N.gates) refl
      where
        go : (n : ℕ) → length N.gates ≡ n → suc first_period_in.value ≤ length N.gates
        go zero e = absurd (none e)
          where
            none : length N.gates ≡ zero → ⊥
            none e = omega arith
        go (suc n) e = bounded (Rattle.sequences.specs.Rising.ℕ_cmp n first_period_in.value)
          where
            bounded : (n < first_period_in.value) ⊎ ((n ≡ first_period_in.value) ⊎ (first_period_in.value < n)) → suc first_period_in.value ≤ length N.gates
            bounded (inl lt) = absurd (first_period_in.least n lt (gates-reach_in M (suc n) (omega arith)))
            bounded (inr (inl q)) = omega arith
            bounded (inr (inr lt)) = omega arith

  abbrev pub least_period : ℕ
  least_period = least_period_in plain

  abbrev pub least_key : Key N k (least_period_in plain)
  least_key = least_key_in plain

  -- **The least period exists**: it is the first reachable one, a cover meets it, and no cover meets a smaller one.
  pub least_period-is : LeastPeriod N k least_period
  least_period-is = record {
    positive = least-some plain;
    met = reachable-met P (least-some plain) (least-reached plain);
    least = λ ψ h lt m. none-smaller plain ψ h lt (met-reachable P h m);
  }

  -- **So does the least forward period**, over forward covers.
  pub least_forward_period_is : LeastForwardPeriod N k (least_period_in forward)
  least_forward_period_is = record {
    positive = least-some forward;
    met = reachable-forward P (least-some forward) (least-reached forward);
    least = λ ψ h lt m. none-smaller forward ψ h lt (forward-reachable P h m);
  }

  pub least_period-bound : 1 ≤ length N.gates → least_period ≤ length N.gates
  least_period-bound = least_period_in-bound plain

-- the first number that has a property is one
first_one : (X : ℕ → Type 0) {φ ψ : ℕ} → 1 ≤ φ → X φ → ((χ : ℕ) → 1 ≤ χ → χ < φ → ¬ X χ) → 1 ≤ ψ → X ψ → ((χ : ℕ) → 1 ≤ χ → χ < ψ → ¬ X χ) → φ ≡ ψ
first_one X {φ} {ψ} p x a q y b = go (Rattle.sequences.specs.Rising.ℕ_cmp φ ψ)
  where
    go : (φ < ψ) ⊎ ((φ ≡ ψ) ⊎ (ψ < φ)) → φ ≡ ψ
    go (inl lt) = absurd (b φ p lt x)
    go (inr (inl e)) = e
    go (inr (inr lt)) = absurd (a ψ q lt y)

-- the least period is one number, and so is the least forward period
pub least_period_unique : {N : Net} {k φ ψ : ℕ} → LeastPeriod N k φ → LeastPeriod N k ψ → φ ≡ ψ
least_period_unique {N} {k} a b = first_one (Met N k) a.positive a.met a.least b.positive b.met b.least

pub least_forward_period_unique : {N : Net} {k φ ψ : ℕ} → LeastForwardPeriod N k φ → LeastForwardPeriod N k ψ → φ ≡ ψ
least_forward_period_unique {N} {k} a b = first_one (ForwardMet N k) a.positive a.met a.least b.positive b.met b.least
