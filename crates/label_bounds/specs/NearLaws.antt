-- Laws of labels near all labellings: a visit keeps them near, and a trial in which every raised label rose further leaves a lower bound.
use Rattle.std.specs.Prelude.{◌≡◌, ◌⊎◌, ℕ, zero, suc, ◌+◌, ◌*◌, ◌≤◌, ℤ, pos, ◌+ℤ◌, ◌-ℤ◌, ◌≤ℤ◌, ◌<ℤ◌}
use Rattle.std.proofs.Common.{subst, inl, inr, arith}
use Rattle.std.proofs.Math.Decide.{ℕ_discrete}
use Rattle.integers.specs.Parts.{ints, +-parts, sub_parts}
use Rattle.integers.specs.Order.{≤ℤ_total}
use Rattle.integers.specs.Height.{height}
use Rattle.integers.proofs.Height.{height-parts}
use Rattle.sequences.specs.Member.{◌∈◌}
use Rattle.net_model.specs.Net.{Net, Pin, IsGate, IsInput, pins}
use Rattle.net_model.specs.Checks.{Sound}
use Rattle.label_theory.specs.Labels.{Mode, LabellingIn}
use Rattle.label_theory.specs.Modes.{inside-lower}
use Rattle.label_theory.specs.Lower.{InputsZero, input_or_gate, leaf-node, recut, remember, replace, replace-same, replace-other}
use Rattle.label_theory.proofs.Pins.{pin_lemma, pin-input}
use Rattle.label_bounds.specs.Bounds.{LowerBoundIn}
use Rattle.label_theory.specs.Near.{Near, Keeps, TrialCut, Rose}

pub bound-near : {M : Mode} {N : Net} {k φ : ℕ} {lo : ℕ → ℤ} → LowerBoundIn M N k φ lo → Near M N k φ 0 lo
bound-near {N = N} {lo = lo} b lab l v n = go (input_or_gate N v n)
  where
    go : IsInput N v ⊎ IsGate N v → lo v ≤ℤ (lab v +ℤ pos 0)
    go (inl i) = let e = b.inputs v i in let f = l.inputs v i in omega (arith, ints, +-parts (lab v) (pos 0))
    go (inr g) = let a = b.below lab l v g in omega (arith, ints, +-parts (lab v) (pos 0))

pub near-bound : {M : Mode} {N : Net} {k φ : ℕ} {lo : ℕ → ℤ} → InputsZero N lo → Near M N k φ 0 lo → LowerBoundIn M N k φ lo
near-bound z n = record { inputs = z; below = λ lab l v g. let a = n lab l v g.high in omega (arith, ints, +-parts (lab v) (pos 0)) }

module _ {M : Mode} {N : Net} (k φ : ℕ) (sound : Sound N) where
  -- a pin's number is no higher than what every labelling, c higher, reaches
  near-pin : (c : ℕ) (m : ℕ → ℤ) (v : ℕ) (q : Pin) → Near M N k φ c m → IsGate N v → q ∈ pins N v → (lab : ℕ → ℤ) → LabellingIn M N k φ lab
      → (m q.src -ℤ pos (φ * q.count)) ≤ℤ (lab v +ℤ pos c)
  near-pin c m v q n g i lab l = go (input_or_gate N q.src (sound.pin v g q i))
    where
      go : IsInput N q.src ⊎ IsGate N q.src → (m q.src -ℤ pos (φ * q.count)) ≤ℤ (lab v +ℤ pos c)
      go (inl h) =
          let a = pin-input N k φ sound lab v q l g i h in
          let b = n lab l q.src (sound.pin v g q i) in
          let z = l.inputs q.src h in
          omega (arith, ints, height-parts φ (pos 0) q.count, sub_parts (m q.src) (pos (φ * q.count)), +-parts (lab v) (pos c), +-parts (lab q.src) (pos c))
      go (inr h) =
          let B = pin_lemma N k φ sound lab v q l g i h in
          let a = B.at in
          let b = n B.label B.labelling q.src h.high in
          omega (arith, ints, +-parts (lab v) (pos (φ * q.count)), sub_parts (m q.src) (pos (φ * q.count)), +-parts (lab v) (pos c), +-parts (B.label q.src) (pos c))

  -- a gate's number replaced by one that every labelling, c higher, reaches there
  near-replace : (c : ℕ) (m : ℕ → ℤ) (v : ℕ) (p : ℤ) → Near M N k φ c m → ((lab : ℕ → ℤ) → LabellingIn M N k φ lab → p ≤ℤ (lab v +ℤ pos c)) → Near M N k φ c (replace m v p)
  near-replace c m v p n f lab l u h = go (ℕ_discrete u v)
    where
      go : Dec (u ≡ v) → replace m v p u ≤ℤ (lab u +ℤ pos c)
      go (yes e) = rw e (rw (replace-same m v p) (f lab l))
      go (no d) = rw (replace-other m v p u d) (n lab l u h)

  -- **A visit that writes a pin's number keeps labels near.**
  pub keeps-pin : (δ : ℕ) (m : ℕ → ℤ) (v : ℕ) (q : Pin) → IsGate N v → q ∈ pins N v → (p : ℤ) → (m q.src -ℤ pos (φ * q.count)) ≡ p → Keeps M N k φ δ m (replace m v p)
  keeps-pin δ m v q g i p e c le n = near-replace c m v p n (λ lab l. subst (λ (z : ℤ). z ≤ℤ (lab v +ℤ pos c)) e (near-pin c m v q n g i lab l))

  -- a labelling c below p at v has a cut that is one of the trial
  lower-cut : (δ c : ℕ) (m : ℕ → ℤ) (v : ℕ) (p : ℤ) → c ≤ δ → Near M N k φ c m → (lab : ℕ → ℤ) → LabellingIn M N k φ lab → IsGate N v → (lab v +ℤ pos c) ≡ p → TrialCut M N k φ δ m v p
  lower-cut δ c m v p le n lab l g e =
      let K = l.gates v g in
      remember
      (recut K (λ y h a.
      let b = n lab l y.node (leaf-node sound K.is_leaves h) in
      omega (arith, ints, height-parts φ (lab y.node) y.back, height-parts φ (m y.node) y.back, +-parts (lab y.node) (pos c), +-parts (lab v) (pos c))))
      (λ x h a. inside-lower M φ x (omega (arith, ints, sub_parts p (pos δ), +-parts (lab v) (pos c))) a)

  -- **So does one that writes 1 more, where there is no cut of that number's height.**
  pub keeps-more : (δ : ℕ) (m : ℕ → ℤ) (v : ℕ) (q : Pin) → IsGate N v → q ∈ pins N v → (p : ℤ) → (m q.src -ℤ pos (φ * q.count)) ≡ p → ¬ TrialCut M N k φ δ m v p
      → Keeps M N k φ δ m (replace m v (p +ℤ pos 1))
  keeps-more δ m v q g i p e none c le n = near-replace c m v (p +ℤ pos 1) n (λ lab l. more lab l (≤ℤ_total (lab v +ℤ pos c) p))
    where
      more : (lab : ℕ → ℤ) → LabellingIn M N k φ lab → ((lab v +ℤ pos c) ≤ℤ p) ⊎ (p <ℤ (lab v +ℤ pos c)) → (p +ℤ pos 1) ≤ℤ (lab v +ℤ pos c)
      more lab l (inl h) =
          let a = near-pin c m v q n g i lab l in
          absurd (none (lower-cut δ c m v p le n lab l g (omega (arith, ints, e, sub_parts (m q.src) (pos (φ * q.count))))))
      more lab l (inr h) = omega (arith, ints, +-parts p (pos 1))

-- **Jump**: where every label raised by δ rose further, the labels are a lower bound.
pub jump : {M : Mode} {N : Net} {k φ : ℕ} {lo m m' : ℕ → ℤ} (δ : ℕ) → Near M N k φ 0 lo → Rose N lo m m' δ → Keeps M N k φ δ m m' → Near M N k φ 0 m'
jump {M} {N} {k} {φ} {lo} {m} {m'} δ n rose keeps = keeps 0 (omega arith) (down δ 0 (omega arith))
  where
    first : Near M N k φ δ m
    first lab l v h = go (rose v h)
      where
        go : (m v ≤ℤ lo v) ⊎ ((m v ≤ℤ (lo v +ℤ pos δ)) × ((lo v +ℤ pos δ) <ℤ m' v)) → m v ≤ℤ (lab v +ℤ pos δ)
        go (inl a) = let b = n lab l v h in omega (arith, ints, +-parts (lab v) (pos 0), +-parts (lab v) (pos δ))
        go (inr (a, d)) = let b = n lab l v h in omega (arith, ints, +-parts (lab v) (pos 0), +-parts (lab v) (pos δ), +-parts (lo v) (pos δ))

    next : (c : ℕ) → c + 1 ≤ δ → Near M N k φ (c + 1) m → Near M N k φ c m
    next c le r lab l v h = go (rose v h)
      where
        go : (m v ≤ℤ lo v) ⊎ ((m v ≤ℤ (lo v +ℤ pos δ)) × ((lo v +ℤ pos δ) <ℤ m' v)) → m v ≤ℤ (lab v +ℤ pos c)
        go (inl a) = let b = n lab l v h in omega (arith, ints, +-parts (lab v) (pos 0), +-parts (lab v) (pos c))
        go (inr (a, d)) = let b = keeps (c + 1) le r lab l v h in omega (arith, ints, +-parts (lab v) (pos (c + 1)), +-parts (lab v) (pos c), +-parts (lo v) (pos δ))

    down : (t c : ℕ) → c + t ≡ δ → Near M N k φ c m
    down zero c e = subst (λ (x : ℕ). Near M N k φ x m) (let d : δ ≡ c = omega arith in d) first
    down (suc t) c e = next c (omega arith) (down t (c + 1) (omega arith))
