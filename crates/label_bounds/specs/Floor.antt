-- The floor: a labelling gives gate v at least 1 − φ times the registers on v's input path, so at least 1 − φ·M. Floors a gate, pin by pin.
use Rattle.std.specs.Prelude.{◌≡◌, refl, ◌⊎◌, ℕ, suc, ◌+◌, ◌*◌, ◌≤◌, ◌<◌, ℤ, pos, ◌+ℤ◌, ◌-ℤ◌, ◌≤ℤ◌}
use Rattle.std.proofs.Common.{sym, subst, ap, inl, inr, zero-add, mul-le-mul_left, arith}
use Rattle.integers.specs.Parts.{ints, +-parts, sub_parts, scale}
use Rattle.integers.specs.Height.{height}
use Rattle.integers.proofs.Height.{height-parts}
use Rattle.sequences.specs.Member.{◌∈◌}
use Rattle.net_model.specs.Net.{Net, Pin, IsGate, IsInput, IsNode, pins}
use Rattle.net_model.specs.Checks.{Sound}
use Rattle.net_model.specs.Copies.{Copy, copy}
use Rattle.cone_theory.specs.Basics.{member?}
use Rattle.cone_theory.specs.Ranks.{Ranked, OnPath, starts, follows, behind, behind-feeds, path_end}
use Rattle.cone_theory.specs.Reach.{reach_of, on_path_count}
use Rattle.label_theory.specs.Labels.{Low, Mode, plain, LowCutIn, LabellingIn}
use Rattle.label_theory.specs.Lower.{Under, input_or_gate}
use Rattle.label_theory.proofs.Pins.{pin_lemma, pin-input}

-- an input is no gate
not-both : {N : Net} {u : ℕ} → IsInput N u → IsGate N u → ⊥
not-both i g = omega (arith, g)

module _ {M : Mode} {N : Net} (k φ : ℕ) (sound : Sound N) (R : Ranked N) (lab : ℕ → ℤ) (l : LabellingIn M N k φ lab) where
  -- a path from an input ends where it begins
  ends_there : {u s c : ℕ} → IsInput N u → OnPath R u s c → c ≡ 0
  ends_there i (starts e z) = z
  ends_there i (follows d g p e) = absurd (not-both i g)

  -- for any member x:e of v's cone, c the registers from x to its input
  path-floor : {x s c : ℕ} → OnPath R x s c → IsInput N s → (v : ℕ) (g : IsGate N v) (e : ℕ) → copy x e ∈ (l.gates v g).cone → height φ (pos 0) (e + c) ≤ℤ lab v
  path-floor {x} {s} (starts q z) i v g e m = absurd (not-both i (subst (IsGate N) q ((l.gates v g).is_cone.gates (copy x e) m)))
  path-floor {x} {s} {c} (follows d gx p q) i v g e m =
      go (path-floor p i) (member? (behind R (copy x e)) (l.gates v g).cone) (input_or_gate N (R.pin x).src (sound.pin x gx (R.pin x) (R.is_pin x gx)))
    where
      w : ℕ
      w = (R.pin x).count

      u : ℕ
      u = (R.pin x).src

      K : LowCutIn M N k φ lab v (lab v)
      K = l.gates v g

      depth : e + w + d ≡ e + c
      depth = omega arith

      leaf : ¬ (copy u (e + w) ∈ K.cone) → height φ (lab u) (e + w) ≤ℤ lab v
      leaf n = K.allowed (copy u (e + w)) (K.is_leaves.complete (copy u (e + w)) (record { outside = n; member = copy x e; is_member = m; feeds = behind-feeds R (copy x e) gx }))

      go : ((v : ℕ) (g : IsGate N v) (e : ℕ) → copy u e ∈ (l.gates v g).cone → height φ (pos 0) (e + d) ≤ℤ lab v)
          → Dec (copy u (e + w) ∈ K.cone) → IsInput N u ⊎ IsGate N u → height φ (pos 0) (e + c) ≤ℤ lab v
      go rest (yes h) t = subst (λ (n : ℕ). height φ (pos 0) n ≤ℤ lab v) depth (rest v g (e + w) h)
      go rest (no n) (inl iu) =
          let a = leaf n in
          let z = l.inputs u iu in
          let y = ends_there iu p in
          let t : e + w ≡ e + c = omega arith in
          subst (λ (j : ℕ). height φ (pos 0) j ≤ℤ lab v) t (subst (λ (b : ℤ). height φ b (e + w) ≤ℤ lab v) z a)
      go rest (no n) (inr gu) =
          let a = leaf n in
          let b = rest u gu 0 (l.gates u gu).is_cone.root in
          omega (arith, ints, height-parts φ (lab u) (e + w), height-parts φ (pos 0) (0 + d), height-parts φ (pos 0) (e + c), scale φ depth)

  -- **Floor**: 1 − φ·M ≤ lab v
  pub floor : (v : ℕ) → IsGate N v → height φ (pos 0) (reach_of N) ≤ℤ lab v
  floor v g =
      let t = path_end R sound v g.high in
      let a : height φ (pos 0) (0 + t.1) ≤ℤ lab v = path-floor t.3 t.2 v g 0 (l.gates v g).is_cone.root in
      let b = mul-le-mul_left φ (on_path_count R t.3) in
      omega (arith, ints, height-parts φ (pos 0) (0 + t.1), height-parts φ (pos 0) (reach_of N))

-- ---- floors a gate: numbers no higher than any labelling's at gates, 1 at inputs
pub record FloorsIn (M : Mode) (N : Net) (k φ : ℕ) (m : ℕ → ℤ) : Type 0 where
  pub inputs : (v : ℕ) → IsInput N v → m v ≡ pos 1
  pub below : (lab : ℕ → ℤ) → LabellingIn M N k φ lab → Under N m lab

abbrev pub Floors : Net → ℕ → ℕ → (ℕ → ℤ) → Type 0
Floors = FloorsIn plain

-- **A floor less φ for each register of a pin is a floor of the gate that reads it**; an input's is 1.
pub floor-pin : {M : Mode} {N : Net} {k φ : ℕ} (sound : Sound N) {m : ℕ → ℤ} → FloorsIn M N k φ m → (v : ℕ) (q : Pin) → IsGate N v → q ∈ pins N v → (lab : ℕ → ℤ) → LabellingIn M N k φ lab
    → (m q.src -ℤ pos (φ * q.count)) ≤ℤ lab v
floor-pin {M} {N} {k} {φ} sound {m} F v q g i lab l = go (input_or_gate N q.src (sound.pin v g q i))
  where
    go : IsInput N q.src ⊎ IsGate N q.src → (m q.src -ℤ pos (φ * q.count)) ≤ℤ lab v
    go (inl h) =
        let a = pin-input N k φ sound lab v q l g i h in
        let b = F.inputs q.src h in
        omega (arith, ints, height-parts φ (pos 0) q.count, sub_parts (m q.src) (pos (φ * q.count)))
    go (inr h) =
        let B = pin_lemma N k φ sound lab v q l g i h in
        let a = B.at in
        let b = F.below B.label B.labelling q.src h in
        omega (arith, ints, +-parts (lab v) (pos (φ * q.count)), sub_parts (m q.src) (pos (φ * q.count)))
