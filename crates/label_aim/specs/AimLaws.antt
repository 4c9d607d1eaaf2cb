-- Laws of a question's border.
use Rattle.std.specs.Prelude.{◌≡◌, refl, Bool, true, false, cond, ℕ, zero, suc, ◌+◌, ◌*◌, ◌/◌, ◌≤◌, ◌<◌, ℤ, pos, negsuc, ◌-ℤ◌, ◌≤ℤ◌, ◌<ℤ◌}
use Rattle.std.proofs.Common.{sym, ap, subst, ◌∙◌, inl, inr, mod-lt, mul-le-mul_left, arith, to_z, of_z}
use Rattle.std.proofs.Math.Nat.{div-add-mod, lt_of_mul-lt-mul_left}
use Rattle.std.specs.Int.Signed.{mag}
use Rattle.std.specs.Int.{w64}
use Rattle.integers.specs.Parts.{up, ints, +-parts, sub_parts, pos-up}
use Rattle.label_theory.specs.Labels.{Mode, plain, forward}
use Rattle.label_theory.specs.Modes.{bordered-plain, bordered-forward}
use Rattle.signed.specs.Range.{Small, room}
use Rattle.signed.specs.RangeLaws.{mag-parts, other-zero, back, fits-of, small-fits, small-between, minus_mag}
use Rattle.cut_circuit.specs.declared.Extent.{Extent}
use Rattle.label_aim.specs.Aims.{rise_in, BorderTold, Bordering}
use Rattle.label_aim.specs.declared.Aim.{Aim}

-- the whole border, where it suits
pub border-all : (φ : ℕ) (h : ℤ) (border : ℕ) → h ≤ℤ (pos φ -ℤ pos (φ * border)) → BorderTold forward φ h border border
border-all φ h border le = record {
  most = omega arith;
  bordered = λ reach r t. bordered-forward φ h (omega (arith, ints, le, sub_parts (pos φ) (pos (φ * border)), +-parts h (pos (φ * border)))) (inl r);
}

-- none, where no height suits
pub border-none : (φ : ℕ) (h : ℤ) (border : ℕ) → pos φ <ℤ h → BorderTold forward φ h border 0
border-none φ h border lt = record { most = omega arith; bordered = λ reach r t. absurd (none t) }
  where
    none : h ≤ℤ pos φ → ⊥
    none t = omega (arith, ints, t, lt)

-- else by division
pub border-some : (φ : ℕ) (h : ℤ) (border n : ℕ) → (pos φ -ℤ pos (φ * border)) <ℤ h → h ≤ℤ pos φ → pos n ≡ (pos φ -ℤ h) → BorderTold forward φ h border (n / φ)
border-some φ h border n lt le e =
    let m : n < φ * border = omega (arith, ints, lt, e, sub_parts (pos φ) (pos (φ * border)), sub_parts (pos φ) h) in
    let one : 1 ≤ φ = positive φ border n m in
    let d = div-add-mod n φ in
    let l = mod-lt n one in
    let q : n / φ < border = lt_of_mul-lt-mul_left φ (omega arith) in
    record {
      most = omega arith;
      bordered = λ reach r t. bordered-forward φ h (omega (arith, ints, e, d, l, sub_parts (pos φ) h, +-parts h (pos (φ * (n / φ))))) (inr (omega (arith, ints, e, d, l, sub_parts (pos φ) h, +-parts h (pos (φ * suc (n / φ))))));
    }
  where
    positive : (φ border n : ℕ) → n < φ * border → 1 ≤ φ
    positive zero border n m = absurd (omega (arith, m))
    positive (suc φ) border n m = omega arith

-- the same, with what is to be divided by
pub some-positive : (φ : ℕ) (h : ℤ) (border : ℕ) → (pos φ -ℤ pos (φ * border)) <ℤ h → h ≤ℤ pos φ → 1 ≤ φ
some-positive zero h border lt le = absurd (omega (arith, ints, lt, le, sub_parts (pos 0) (pos (0 * border))))
some-positive (suc φ) h border lt le = omega arith

-- h is small there
pub some-small : (φ : ℕ) (h : ℤ) (border : ℕ) → φ * (border + 1) ≤ room → (pos φ -ℤ pos (φ * border)) <ℤ h → h ≤ℤ pos φ → Small h
some-small φ h border r lt le =
    small-between (pos φ -ℤ pos (φ * border)) (pos φ) h (small-less φ (φ * border) (omega (arith, r)) (omega (arith, r))) (record { size = omega (arith, r) })
    (omega (arith, ints, lt)) le
  where
    small-less : (a b : ℕ) → a ≤ room → b ≤ room → Small (pos a -ℤ pos b)
    small-less a b h l =
        small-between (negsuc room) (pos a) (pos a -ℤ pos b) (record { size = omega arith }) (record { size = h }) (omega (arith, ints, sub_parts (pos a) (pos b))) (omega (arith, ints, sub_parts (pos a) (pos b)))

pub narrowed_plain : (φ : ℕ) (h : ℤ) (s : Extent) → Bordering plain φ h s s
narrowed_plain φ h s = record { inputs = refl; gates = refl; width = refl; border = record { most = omega arith; bordered = λ reach r t. bordered-plain φ h r } }

-- a trial's rise is no more than the labels' range
pub rise-room : (s : Extent) (a : Aim) → a.phi * s.width ≤ room → rise_in s a ≤ room
rise-room s a h = go a.trial
  where
    go : (t : Bool) → cond t (a.phi * s.width) 0 ≤ room
    go true = h
    go false = omega arith

-- a period is no more than as many times the width
pub period-room : (φ w : ℕ) → 1 ≤ w → φ * w ≤ room → φ ≤ room
period-room φ w one h = let m : φ * 1 ≤ φ * w = mul-le-mul_left φ one in omega arith

-- nor is it times a border and one
pub border-room : (φ b w : ℕ) → b < w → φ * w ≤ room → φ * (b + 1) ≤ room
border-room φ b w lt h = let m : φ * (b + 1) ≤ φ * w = mul-le-mul_left φ (omega arith) in omega arith

-- ---- numbers that fit
pub whole-small : {z : ℤ} (n : ℕ) → n ≤ room → z ≡ pos n → Small (to_z w64 (of_z w64 z))
whole-small n h e = subst (λ (x : ℤ). Small (to_z w64 (of_z w64 x))) (sym e) (subst Small (sym (back (pos n) (fits-of (pos n) room (omega arith) h))) (record { size = h }))

pub up-size : (n : ℕ) (h : ℤ) → n ≤ room → Small h → h ≤ℤ pos n → up (pos n -ℤ h) ≤ room + suc room
up-size n h r s l =
    let p = mag-parts h room s.size in
    let z = other-zero (pos n -ℤ h) 0 (omega (arith, ints, l, sub_parts (pos n) h)) in
    omega (arith, ints, p.0, p.1, z, sub_parts (pos n) h)

pub gap-size : (n : ℕ) (h : ℤ) → n ≤ room → Small h → h ≤ℤ pos n → mag (pos n -ℤ h) ≤ room + suc room
gap-size n h r s l = let e : pos (up (pos n -ℤ h)) ≡ (pos n -ℤ h) = pos-up (pos n -ℤ h) (omega (arith, ints, l, sub_parts (pos n) h)) in subst (λ (z : ℤ). mag z ≤ room + suc room) e (up-size n h r s l)

pub lowered-back : {z : ℤ} (s : Extent) (a : Aim) (p : ℤ) → Small p → a.phi * s.width ≤ room → z ≡ (to_z w64 (of_z w64 p) -ℤ pos (rise_in s a)) → to_z w64 (of_z w64 z) ≡ (p -ℤ pos (rise_in s a))
lowered-back s a p h r e =
    rw e (rw (back p (small-fits p h)) (back (p -ℤ pos (rise_in s a)) (fits-of (p -ℤ pos (rise_in s a)) (room + room) (omega arith) (minus_mag p (rise_in s a) room room h.size (rise-room s a r)))))

pub small-stored : (p : ℤ) → Small p → Small (to_z w64 (of_z w64 p))
small-stored p h = subst Small (sym (back p (small-fits p h))) h

-- ---- the extent of a question
abbrev extent : ℕ → ℕ → ℕ → ℕ → Extent
extent i g w b = record { inputs = i; gates = g; width = w; border = b }

-- an extent with another border
abbrev pub bordered : Extent → ℕ → Extent
bordered s b = extent s.inputs s.gates s.width b

pub bordering_is : {M : Mode} {φ : ℕ} {h : ℤ} {s e : Extent} → Bordering M φ h s e → e ≡ bordered s e.border
bordering_is {s = s} {e = e} B = same B.inputs B.gates B.width
  where
    same : {i g w b i' g' w' : ℕ} → i ≡ i' → g ≡ g' → w ≡ w' → extent i g w b ≡ extent i' g' w' b
    same {i} {g} {w} {b} {i'} {g'} {w'} x y z = ap (λ (n : ℕ). extent n g w b) x ∙ ap (λ (n : ℕ). extent i' n w b) y ∙ ap (λ (n : ℕ). extent i' g' n b) z

-- a trial's rise, where there is none
pub rise-none : (s : Extent) (a : Aim) → a.trial ≡ false → rise_in s a ≡ 0
rise-none s a e = ap (λ (t : Bool). cond t (a.phi * s.width) 0) e

-- then the height is the gate's own
pub bordering_own : {M : Mode} {φ : ℕ} {h : ℤ} {s e : Extent} (a : Aim) → a.trial ≡ false → Bordering M φ (h -ℤ pos (rise_in s a)) s e → Bordering M φ h s e
bordering_own {M} {φ} {h} {s} {e} a t B =
    subst (λ (z : ℤ). Bordering M φ z s e) (ap (λ (n : ℕ). h -ℤ pos n) (rise-none s a t) ∙ let z : (h -ℤ pos 0) ≡ h = omega (arith, ints, sub_parts h (pos 0)) in z) B
