-- Laws of modes: what a mode asks of a cone's members is decided, goes over to a part of the cone, to a smaller height and to nearer copies.
use Rattle.std.specs.Prelude.{◌⊎◌, ℕ, suc, ◌+◌, ◌*◌, ◌≤◌, ◌<◌, ℤ, pos, ◌+ℤ◌, ◌≤ℤ◌, ◌<ℤ◌}
use Rattle.std.proofs.Common.{inl, inr, mul-le-mul_left, arith}
use Rattle.std.proofs.Math.Decide.{dec_le}
use Rattle.integers.specs.Parts.{ints, +-parts}
use Rattle.integers.specs.Order.{≤ℤ?}
use Rattle.net_model.specs.Net.{Net, IsGate}
use Rattle.net_model.specs.Copies.{Copy, copy}
use Rattle.cone_theory.specs.Part.{lift}
use Rattle.label_theory.specs.Labels.{Mode, plain, forward, Inside, LabellingIn}

unfoldable pub inside? : (M : Mode) (φ : ℕ) (h : ℤ) (x : Copy) → Dec (Inside M φ h x)
inside? plain φ h x = yes tt
inside? forward φ h x = ≤ℤ? (h +ℤ pos (φ * x.back)) (pos φ)

pub inside-shift : (M : Mode) (φ : ℕ) (h : ℤ) (e : ℕ) (x : Copy) → Inside M φ h (lift e x) → Inside M φ (h +ℤ pos (φ * e)) x
inside-shift plain φ h e x i = tt
inside-shift forward φ h e x i =
    omega (arith, ints, +-parts h (pos (φ * (e + x.back))), +-parts h (pos (φ * e)), +-parts (h +ℤ pos (φ * e)) (pos (φ * x.back)))

pub inside-lower : (M : Mode) (φ : ℕ) (x : Copy) {h h' : ℤ} → h' ≤ℤ h → Inside M φ h x → Inside M φ h' x
inside-lower plain φ x le i = tt
inside-lower forward φ x {h} {h'} le i = omega (arith, ints, +-parts h (pos (φ * x.back)), +-parts h' (pos (φ * x.back)))

pub inside_nearer : (M : Mode) (φ : ℕ) (h : ℤ) (x y : Copy) → y.back ≤ x.back → Inside M φ h x → Inside M φ h y
inside_nearer plain φ h x y le i = tt
inside_nearer forward φ h x y le i = omega (arith, ints, mul-le-mul_left φ le, +-parts h (pos (φ * x.back)), +-parts h (pos (φ * y.back)))

-- a height at which the root's copy may stand
abbrev pub Topped : Mode → ℕ → ℤ → Type 0
Topped plain φ h = Unit {0}
Topped forward φ h = h ≤ℤ pos φ

pub topped-inside : (M : Mode) (φ : ℕ) (h : ℤ) (v : ℕ) → Topped M φ h → Inside M φ h (copy v 0)
topped-inside plain φ h v t = tt
topped-inside forward φ h v t = omega (arith, ints, +-parts h (pos (φ * 0)))

pub inside-topped : (M : Mode) (φ : ℕ) (h : ℤ) (v : ℕ) → Inside M φ h (copy v 0) → Topped M φ h
inside-topped plain φ h v i = tt
inside-topped forward φ h v i = omega (arith, ints, +-parts h (pos (φ * 0)))

pub labelling-top : {M : Mode} {N : Net} {k φ : ℕ} {lab : ℕ → ℤ} → LabellingIn M N k φ lab → (v : ℕ) → IsGate N v → Topped M φ (lab v)
labelling-top {M} {φ} {lab} l v g = inside-topped M φ (lab v) v ((l.gates v g).inside (copy v 0) (l.gates v g).is_cone.root)

-- ---- a border on d: up to the reach it is what B asks
pub record Bordered (B : Copy → Type 0) (reach border : ℕ) : Type 0 where
  pub within : (x : Copy) → B x → x.back ≤ reach → x.back ≤ border
  pub inside : (x : Copy) → x.back ≤ border → B x

pub bordered-plain : (φ : ℕ) (h : ℤ) {reach border : ℕ} → reach ≤ border → Bordered (Inside plain φ h) reach border
bordered-plain φ h le = record { within = λ x i r. omega (arith, le, r); inside = λ x i. tt }

pub bordered-forward : (φ : ℕ) (h : ℤ) {reach border : ℕ} → (h +ℤ pos (φ * border)) ≤ℤ pos φ → (reach ≤ border) ⊎ (pos φ <ℤ (h +ℤ pos (φ * suc border)))
    → Bordered (Inside forward φ h) reach border
bordered-forward φ h {reach} {border} le far = record { within = λ x i r. go x i r far (dec_le x.back border); inside = λ x i. inside_nearer forward φ h (copy x.node border) x i le }
  where
    go : (x : Copy) → Inside forward φ h x → x.back ≤ reach → (reach ≤ border) ⊎ (pos φ <ℤ (h +ℤ pos (φ * suc border))) → Dec (x.back ≤ border) → x.back ≤ border
    go x i r f (yes b) = b
    go x i r (inl f) (no b) = omega (arith, r, f)
    go x i r (inr f) (no b) = absurd (omega (arith, ints, mul-le-mul_left {m = suc border} {n = x.back} φ (omega arith), +-parts h (pos (φ * suc border)), +-parts h (pos (φ * x.back))))
