-- Labels may be lowered: heights only fall. So the smaller of two labellings, gate by gate, is one, and the least one is unique.
use Rattle.std.specs.Prelude.{◌≡◌, refl, List, ◌⊎◌, ℕ, suc, ◌+◌, ◌*◌, ◌≤◌, ◌<◌, ℤ, pos, ◌+ℤ◌, ◌≤ℤ◌}
use Rattle.std.proofs.Common.{sym, subst, ◌∙◌, inl, inr, arith}
use Rattle.std.proofs.Math.Decide.{ℕ_discrete, dec_lt}
use Rattle.std.specs.Int.Signed.{≤ℤ_refl}
use Rattle.integers.specs.Parts.{ints, sub_parts}
use Rattle.integers.specs.Order.{≤ℤ_trans, ≤ℤ_antisym, minℤ, minℤ-left, minℤ-right, minℤ-cases}
use Rattle.integers.specs.Height.{height}
use Rattle.integers.proofs.Height.{height_mono}
use Rattle.sequences.specs.Member.{◌∈◌}
use Rattle.net_model.specs.Net.{Net, Pin, IsGate, IsInput, IsNode, size}
use Rattle.net_model.specs.Checks.{Sound}
use Rattle.net_model.specs.Copies.{Copy, Cut, IsLeaves}
use Rattle.label_theory.specs.Labels.{Low, Mode, LowCutIn, LabellingIn, LeastIn, OutputsMet}

-- a node is an input or a gate
pub input_or_gate : (N : Net) (u : ℕ) → IsNode N u → IsInput N u ⊎ IsGate N u
input_or_gate N u h = go (dec_lt u N.inputs)
  where
    go : Dec (IsInput N u) → IsInput N u ⊎ IsGate N u
    go (yes i) = inl i
    go (no n) = inr (record { low = omega arith; high = h })

-- a leaf is a node
pub leaf-node : {N : Net} {C L : List Copy} {y : Copy} → Sound N → IsLeaves N C L → y ∈ L → IsNode N y.node
leaf-node {N} {C} {L} {y} s l h =
    let f = (l.sound y h).feeds in
    subst (IsNode N) (sym f.source) (s.pin (l.sound y h).member.node f.gate f.pin f.is_pin)

-- a cut whose leaves satisfy something else too
unfoldable pub recut : {N : Net} {k v : ℕ} {A A' B : Copy → Type 0} (K : Cut N k v A B) → ((y : Copy) → y ∈ K.leaves → A y → A' y) → Cut N k v A' B
recut K f = record {
  cone = K.cone;
  leaves = K.leaves;
  is_cone = K.is_cone;
  is_leaves = K.is_leaves;
  few = K.few;
  allowed = λ y h. f y h (K.allowed y h);
  inside = K.inside;
}

-- the same, and whose members do
unfoldable pub remember : {N : Net} {k v : ℕ} {A B B' : Copy → Type 0} (K : Cut N k v A B) → ((x : Copy) → x ∈ K.cone → B x → B' x) → Cut N k v A B'
remember K f = record {
  cone = K.cone;
  leaves = K.leaves;
  is_cone = K.is_cone;
  is_leaves = K.is_leaves;
  few = K.few;
  allowed = K.allowed;
  inside = λ x h. f x h (K.inside x h);
}

-- `low` is nowhere above `lab`, gate by gate
abbrev pub Under : Net → (ℕ → ℤ) → (ℕ → ℤ) → Type 0
Under N low lab = (v : ℕ) → IsGate N v → low v ≤ℤ lab v

abbrev pub InputsZero : Net → (ℕ → ℤ) → Type 0
InputsZero N lab = (v : ℕ) → IsInput N v → lab v ≡ pos 0

-- on nodes, where both give inputs 0
pub under-node : {N : Net} {low lab : ℕ → ℤ} → InputsZero N low → InputsZero N lab → Under N low lab → (u : ℕ) → IsNode N u → low u ≤ℤ lab u
under-node {N} {low} {lab} z z' b u h = go (input_or_gate N u h)
  where
    go : IsInput N u ⊎ IsGate N u → low u ≤ℤ lab u
    go (inl i) = let e = z u i in let e' = z' u i in omega (arith, ints)
    go (inr g) = b u g

-- `lab` with gate v's number replaced by h
unfoldable pub replace_at : (ℕ → ℤ) → (v : ℕ) → ℤ → (u : ℕ) → Dec (u ≡ v) → ℤ
replace_at lab v h u (yes e) = h
replace_at lab v h u (no n) = lab u

unfoldable pub replace : (ℕ → ℤ) → ℕ → ℤ → ℕ → ℤ
unfolding replace_at
replace lab v h u = replace_at lab v h u (ℕ_discrete u v)

pub replace-same : (lab : ℕ → ℤ) (v : ℕ) (h : ℤ) → replace lab v h v ≡ h
unfolding replace replace_at
replace-same lab v h = go (ℕ_discrete v v)
  where
    go : (d : Dec (v ≡ v)) → replace_at lab v h v d ≡ h
    go (yes e) = refl
    go (no n) = absurd (n refl)

pub replace-other : (lab : ℕ → ℤ) (v : ℕ) (h : ℤ) (u : ℕ) → ¬ (u ≡ v) → replace lab v h u ≡ lab u
unfolding replace replace_at
replace-other lab v h u m = go (ℕ_discrete u v)
  where
    go : (d : Dec (u ≡ v)) → replace_at lab v h u d ≡ lab u
    go (yes e) = absurd (m e)
    go (no n) = refl

-- a replacement by a smaller number
pub replace-under : (lab : ℕ → ℤ) (v : ℕ) (h : ℤ) → h ≤ℤ lab v → (u : ℕ) → replace lab v h u ≤ℤ lab u
replace-under lab v h le u = go (ℕ_discrete u v)
  where
    go : Dec (u ≡ v) → replace lab v h u ≤ℤ lab u
    go (yes e) = rw e (rw (replace-same lab v h) le)
    go (no n) = rw (replace-other lab v h u n) (≤ℤ_refl (lab u))

module _ (N : Net) (k φ : ℕ) (s : Sound N) where
  -- with lower labels a cut is no higher
  pub relabel : (M : Mode) {low lab : ℕ → ℤ} {h : ℤ} (v : ℕ) → InputsZero N low → InputsZero N lab → Under N low lab → LowCutIn M N k φ lab v h → LowCutIn M N k φ low v h
  relabel M v z z' b K = recut K (λ y m a. ≤ℤ_trans (height_mono φ y.back (under-node z z' b y.node (leaf-node s K.is_leaves m))) a)

  pub replace-inputs : (lab : ℕ → ℤ) (v : ℕ) (h : ℤ) → IsGate N v → InputsZero N lab → InputsZero N (replace lab v h)
  replace-inputs lab v h g z u i =
      let other : ¬ (u ≡ v) = λ e. omega (arith, g) in
      rw (replace-other lab v h u other) (z u i)

  -- a gate's label may be lowered to any height at which it has a cut
  pub lowered : {M : Mode} (lab : ℕ → ℤ) (v : ℕ) (h : ℤ) → LabellingIn M N k φ lab → IsGate N v → h ≤ℤ lab v → LowCutIn M N k φ lab v h → LabellingIn M N k φ (replace lab v h)
  lowered {M} lab v h l g le K = record { inputs = z; gates = λ u i. go u i (ℕ_discrete u v) }
    where
      z : InputsZero N (replace lab v h)
      z = replace-inputs lab v h g l.inputs

      under : Under N (replace lab v h) lab
      under u i = replace-under lab v h le u

      go : (u : ℕ) → IsGate N u → Dec (u ≡ v) → LowCutIn M N k φ (replace lab v h) u (replace lab v h u)
      go u i (yes e) = rw e (rw (replace-same lab v h) (relabel M v z l.inputs under K))
      go u i (no n) = rw (replace-other lab v h u n) (relabel M u z l.inputs under (l.gates u i))

  -- the smaller of two labellings, gate by gate, is one
  pub minimum : {M : Mode} (lab lab' : ℕ → ℤ) → LabellingIn M N k φ lab → LabellingIn M N k φ lab' → LabellingIn M N k φ (λ u. minℤ (lab u) (lab' u))
  minimum {M} lab lab' l l' = record { inputs = z; gates = λ v g. go v g (minℤ-cases (lab v) (lab' v)) }
    where
      z : InputsZero N (λ u. minℤ (lab u) (lab' u))
      z v i = zero_of (minℤ-cases (lab v) (lab' v))
        where
          zero_of : (minℤ (lab v) (lab' v) ≡ lab v) ⊎ (minℤ (lab v) (lab' v) ≡ lab' v) → minℤ (lab v) (lab' v) ≡ pos 0
          zero_of (inl e) = e ∙ l.inputs v i
          zero_of (inr e) = e ∙ l'.inputs v i

      go : (v : ℕ) → IsGate N v → (minℤ (lab v) (lab' v) ≡ lab v) ⊎ (minℤ (lab v) (lab' v) ≡ lab' v)
          → LowCutIn M N k φ (λ u. minℤ (lab u) (lab' u)) v (minℤ (lab v) (lab' v))
      go v g (inl e) = subst (LowCutIn M N k φ (λ u. minℤ (lab u) (lab' u)) v) (sym e) (relabel M v z l.inputs (λ u i. minℤ-left (lab u) (lab' u)) (l.gates v g))
      go v g (inr e) = subst (LowCutIn M N k φ (λ u. minℤ (lab u) (lab' u)) v) (sym e) (relabel M v z l'.inputs (λ u i. minℤ-right (lab u) (lab' u)) (l'.gates v g))

-- the least labelling is unique on gates
pub least_unique : {M : Mode} (N : Net) (k φ : ℕ) (lab lab' : ℕ → ℤ) → LeastIn M N k φ lab → LeastIn M N k φ lab' → (v : ℕ) → IsGate N v → lab v ≡ lab' v
least_unique N k φ lab lab' l l' v g = ≤ℤ_antisym (l.least lab' l'.labelling v g) (l'.least lab l.labelling v g)

-- where a labelling satisfies the outputs, so does any lower one
pub outputs-under : (N : Net) (φ : ℕ) (low lab : ℕ → ℤ) → Sound N → InputsZero N low → InputsZero N lab → Under N low lab
    → OutputsMet N φ lab → OutputsMet N φ low
outputs-under N φ low lab s z z' b m o i =
    let le = under-node z z' b o.src (s.output o i) in
    let top = m o i in
    omega (arith, ints, sub_parts (low o.src) (pos (φ * o.count)), sub_parts (lab o.src) (pos (φ * o.count)))

-- the outputs are met exactly where no label exceeds φ·(w + 1)
pub outputs-from : (N : Net) (φ : ℕ) (lab : ℕ → ℤ) → ((o : Pin) → o ∈ N.outputs → lab o.src ≤ℤ pos (φ + φ * o.count)) → OutputsMet N φ lab
outputs-from N φ lab h o i = let a = h o i in omega (arith, ints, sub_parts (lab o.src) (pos (φ * o.count)))
