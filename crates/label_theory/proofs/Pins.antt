-- The pin lemma: a gate's label bounds the label of what it reads, for a labelling no higher. From it: the ceiling, along a path to an output.
use Rattle.std.specs.Prelude.{◌≡◌, refl, ◌⊎◌, ℕ, suc, ◌+◌, ◌*◌, ◌≤◌, ◌<◌, ℤ, pos, ◌+ℤ◌, ◌-ℤ◌, ◌≤ℤ◌, ◌<ℤ◌}
use Rattle.std.proofs.Common.{sym, subst, inl, inr, zero-add, arith}
use Rattle.std.specs.Int.Signed.{≤ℤ_refl}
use Rattle.integers.specs.Parts.{ints, +-parts, sub_parts}
use Rattle.integers.specs.Order.{≤ℤ_trans, minℤ, minℤ-left, minℤ-right, minℤ-cases}
use Rattle.integers.specs.Height.{height}
use Rattle.integers.proofs.Height.{height-parts, height-shift}
use Rattle.sequences.specs.Member.{◌∈◌}
use Rattle.net_model.specs.Net.{Net, Pin, IsGate, IsInput, IsNode, pins}
use Rattle.net_model.specs.Checks.{Sound, Leading, output, along}
use Rattle.net_model.specs.Copies.{Copy, copy, Feeds, Cut}
use Rattle.cone_theory.specs.Basics.{member?}
use Rattle.cone_theory.specs.Part.{part_cut, lift}
use Rattle.label_theory.specs.Labels.{Low, Mode, plain, LowCutIn, LabellingIn, OutputsMet}
use Rattle.label_theory.specs.Modes.{inside-shift}
use Rattle.label_theory.specs.Lower.{Under, recut, remember, replace, replace-same, replace-under, lowered}

-- some labelling nowhere above `lab` is at most h at v
pub record BelowIn (M : Mode) (N : Net) (k φ : ℕ) (lab : ℕ → ℤ) (v : ℕ) (h : ℤ) : Type 0 where
  pub label : ℕ → ℤ
  pub labelling : LabellingIn M N k φ label
  pub under : Under N label lab
  pub at : label v ≤ℤ h

-- pin p of gate x feeds the root's copy
pub pin-feeds : {N : Net} {x : ℕ} (p : Pin) → IsGate N x → p ∈ pins N x → Feeds N (copy p.src p.count) (copy x 0)
pin-feeds p g i = record { gate = g; pin = p; is_pin = i; source = refl; depth = sym (zero-add p.count) }

abbrev pub Below : Net → ℕ → ℕ → (ℕ → ℤ) → ℕ → ℤ → Type 0
Below = BelowIn plain

module _ {M : Mode} (N : Net) (k φ : ℕ) (s : Sound N) where
  -- a cut of height h at u bounds a labelling at u
  pub below-cut : (lab : ℕ → ℤ) (u : ℕ) (h : ℤ) → LabellingIn M N k φ lab → IsGate N u → LowCutIn M N k φ lab u h → BelowIn M N k φ lab u h
  below-cut lab u h l g K = go (minℤ-cases (lab u) h)
    where
      m : ℤ
      m = minℤ (lab u) h

      from : LowCutIn M N k φ lab u m → BelowIn M N k φ lab u h
      from J = record {
        label = replace lab u m;
        labelling = lowered N k φ s lab u m l g (minℤ-left (lab u) h) J;
        under = λ v i. replace-under lab u m (minℤ-left (lab u) h) v;
        at = rw (replace-same lab u m) (minℤ-right (lab u) h);
      }

      go : (minℤ (lab u) h ≡ lab u) ⊎ (minℤ (lab u) h ≡ h) → BelowIn M N k φ lab u h
      go (inl e) = from (rw e (l.gates u g))
      go (inr e) = from (rw e K)

  -- **Pin lemma**, for a pin whose source is a gate
  pub pin_lemma : (lab : ℕ → ℤ) (x : ℕ) (p : Pin) → LabellingIn M N k φ lab → IsGate N x → p ∈ pins N x → IsGate N p.src
      → BelowIn M N k φ lab p.src (lab x +ℤ pos (φ * p.count))
  pin_lemma lab x p l g i gs = go (member? (copy p.src p.count) (l.gates x g).cone)
    where
      K : LowCutIn M N k φ lab x (lab x)
      K = l.gates x g

      y : Copy
      y = copy p.src p.count

      go : Dec (y ∈ K.cone) → BelowIn M N k φ lab p.src (lab x +ℤ pos (φ * p.count))
      go (yes m) =
          below-cut lab p.src (lab x +ℤ pos (φ * p.count)) l gs
          (remember (recut (part_cut K p.src p.count m) (λ z h a. height-shift φ z.back p.count (lab z.node) (lab x) a))
          (λ z h a. inside-shift M φ (lab x) p.count z a))
      go (no n) = record {
        label = lab;
        labelling = l;
        under = λ v j. ≤ℤ_refl (lab v);
        at =
            let leaf = K.is_leaves.complete y (record { outside = n; member = copy x 0; is_member = K.is_cone.root; feeds = pin-feeds p g i }) in
            let low : height φ (lab p.src) p.count ≤ℤ lab x = K.allowed y leaf in
            omega (arith, ints, height-parts φ (lab p.src) p.count, +-parts (lab x) (pos (φ * p.count)));
      }

  -- the same for a pin whose source is an input: an input copy is never a member, so it is a leaf
  pub pin-input : (lab : ℕ → ℤ) (x : ℕ) (p : Pin) → LabellingIn M N k φ lab → IsGate N x → p ∈ pins N x → IsInput N p.src
      → height φ (pos 0) p.count ≤ℤ lab x
  pin-input lab x p l g i n =
      let K = l.gates x g in
      let out : ¬ (copy p.src p.count ∈ K.cone) = λ m. omega (arith, K.is_cone.gates (copy p.src p.count) m) in
      let leaf = K.is_leaves.complete (copy p.src p.count) (record { outside = out; member = copy x 0; is_member = K.is_cone.root; feeds = pin-feeds p g i }) in
      subst (λ (z : ℤ). height φ z p.count ≤ℤ lab x) (l.inputs p.src n) (K.allowed (copy p.src p.count) leaf)

-- A path from node v through pins to an output, with c registers on it, the output's own among them.
pub data OutPath (N : Net) : ℕ → ℕ → Type 0 where
  last : {v c : ℕ} (o : Pin) → o ∈ N.outputs → o.src ≡ v → c ≡ o.count → OutPath N v c
  then : {v c : ℕ} (u : ℕ) (p : Pin) (d : ℕ) → IsGate N u → p ∈ pins N u → p.src ≡ v → c ≡ p.count + d → OutPath N u d → OutPath N v c

pub out-path : {N : Net} {v : ℕ} → Leading N v → (c : ℕ) × OutPath N v c
out-path (output o i e) = (o.count, last o i e refl)
out-path (along u p g i e l) = let r = out-path l in (p.count + r.0, then u p r.0 g i e refl r.1)

module _ {M : Mode} (N : Net) (k φ : ℕ) (s : Sound N) where
  -- **Ceiling**: where the outputs are met, a labelling no higher is at most φ·(1 + c) at v, c the registers on a path from v to an output.
  pub ceiling : (lab : ℕ → ℤ) → LabellingIn M N k φ lab → OutputsMet N φ lab → {v c : ℕ} → IsGate N v → OutPath N v c → BelowIn M N k φ lab v (pos (φ * suc c))
  ceiling lab l m {v} {c} g (last o i e f) = record {
    label = lab;
    labelling = l;
    under = λ u j. ≤ℤ_refl (lab u);
    at =
        let top : (lab v -ℤ pos (φ * c)) ≤ℤ pos φ = rw (f, ← e) (m o i) in
        omega (arith, ints, sub_parts (lab v) (pos (φ * c)));
  }
  ceiling lab l m {v} {c} g (then u p d gu i e f path) =
      let B = ceiling lab l m gu path in
      let gs : IsGate N p.src = rw e g in
      let P = pin_lemma N k φ s B.label u p B.labelling gu i gs in
      let a : P.label v ≤ℤ (B.label u +ℤ pos (φ * p.count)) = rw (← e) P.at in
      let b = B.at in
      record {
        label = P.label;
        labelling = P.labelling;
        under = λ w j. ≤ℤ_trans (P.under w j) (B.under w j);
        at = rw f (omega (arith, ints, +-parts (B.label u) (pos (φ * p.count))));
      }
