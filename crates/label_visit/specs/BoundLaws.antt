-- Labels that no labelling is below: raised to what every labelling reaches, past a ceiling, and where all gates are quiet.
use Rattle.std.specs.Prelude.{◌≡◌, refl, Bool, false, List, ℕ, suc, ◌+◌, ◌-◌, ◌*◌, ◌≤◌, ◌<◌, ℤ, pos, ◌+ℤ◌, ◌-ℤ◌, length, get_or, set, ◌≤ℤ◌, ◌<ℤ◌}
use Rattle.std.proofs.Common.{sym, ap, ◌∙◌, subst, mul-le-mul_left, arith, get_or-set_same, get_or-set_other}
use Rattle.std.proofs.Math.Path.{fun_ext}
use Rattle.std.proofs.Math.Decide.{ℕ_discrete}
use Rattle.integers.specs.Parts.{ints, +-parts, sub_parts}
use Rattle.integers.specs.Order.{≤ℤ_trans}
use Rattle.sequences.specs.Member.{◌∈◌}
use Rattle.net_model.specs.Net.{Net, Pin, IsGate, pins}
use Rattle.net_model.specs.Arrays.{stride}
use Rattle.net_model.specs.ArrayLaws.{pin_at, pins_in_in, in_pins_in}
use Rattle.net_model.specs.Checks.{Sound}
use Rattle.label_theory.specs.Labels.{Mode, plain, forward, Inside, LowCutIn, LeastIn}
use Rattle.label_theory.specs.Lower.{remember, replace, replace-same, replace-other}
use Rattle.label_bounds.specs.Bounds.{PinsReach, refutes, alone-cut, settled-least}
use Rattle.label_theory.specs.Near.{Keeps, TrialCut}
use Rattle.label_bounds.specs.NearLaws.{bound-near, near-bound, keeps-pin, keeps-more}
use Rattle.label_theory.specs.Modes.{Topped, labelling-top}
use Rattle.label_theory.specs.Forced.{Falling}
use Rattle.signed.specs.Range.{label_in}
use Rattle.cut_circuit.specs.Circuit.{Circuit}
use Rattle.cut_circuit.specs.Bridge.{Holds, gate-of}
use Rattle.label_visit.specs.LabelVisits.{Suits, Sane, pin_height, PinMax, Quiet, higher, level, Bounds, Kept, Refuted, Answered}

-- gates and pins of a net with this wiring
place_of : {C : Circuit} {N : Net} → Holds C N → (v : ℕ) → IsGate N v → (g : ℕ) × (g < C.gates) × (v ≡ C.inputs + g)
place_of {C} h v i = let a = h.inputs in let b = h.gates in let l = i.low in let u = i.high in (v - C.inputs, omega arith, omega arith)

pin_of : {C : Circuit} {N : Net} → Holds C N → (g : ℕ) → g < C.gates → (p : Pin) → p ∈ pins N (C.inputs + g) → (j : ℕ) × (j < get_or C.pins g 0) × (p ≡ pin_at C.sources C.counts (stride * g + j))
pin_of {C} h g l p m = pins_in_in C.sources C.counts (stride * g) (get_or C.pins g 0) p (subst (λ (q : List Pin). p ∈ q) (h.lists g l) m)

pub is-pin : {C : Circuit} {N : Net} → Holds C N → (g j : ℕ) → g < C.gates → j < get_or C.pins g 0 → pin_at C.sources C.counts (stride * g + j) ∈ pins N (C.inputs + g)
is-pin {C} h g j l k' = rw (h.lists g l) (in_pins_in C.sources C.counts (stride * g) (get_or C.pins g 0) j k')

-- the pins reach p
pins-reach : {C : Circuit} (k φ : ℕ) {N : Net} {ls : List ℤ} {p : ℤ} (H : Holds C N) (s : Sound N) (g : ℕ) → g < C.gates → PinMax C ls φ g p → PinsReach N k φ s (label_in ls) (C.inputs + g) p
pins-reach {C} k φ {N} {ls} {p} H s g l m q i =
    let t = pin_of H g l q i in
    subst (λ (x : Pin). (label_in ls x.src -ℤ pos (φ * x.count)) ≤ℤ p) (sym t.2) (m.above t.0 t.1)

-- an array with one label replaced
label-set : (ls : List ℤ) (v u : ℕ) (h : ℤ) → v < length ls → label_in (set ls v h) u ≡ replace (label_in ls) v h u
label-set ls v u h l = go (ℕ_discrete u v)
  where
    go : Dec (u ≡ v) → label_in (set ls v h) u ≡ replace (label_in ls) v h u
    go (yes e) = rw e (get_or-set_same ls v h (pos 0) l ∙ sym (replace-same (label_in ls) v h))
    go (no n) = get_or-set_other ls v u h (pos 0) n ∙ sym (replace-other (label_in ls) v h u n)

pub sane_of : {M : Mode} {C : Circuit} {k : ℕ} {tops : List ℕ} {N : Net} → Suits M C k tops N → Sane C k N
sane_of S = record { holds = S.holds; ranked = S.ranked; loopless = S.loopless; sound = S.sound; border = S.border }

-- ---- what visits keep of labels
module _ {M : Mode} {δ : ℕ} {C : Circuit} {k φ : ℕ} where
  pub kept_same : (ls : List ℤ) → Kept M δ C k φ ls ls
  kept_same ls = record { inputs = λ u h. refl; near = λ N S c l n. n }

  pub kept_then : {ls ls' ls'' : List ℤ} → Kept M δ C k φ ls ls' → Kept M δ C k φ ls' ls'' → Kept M δ C k φ ls ls''
  kept_then a b = record { inputs = λ u h. b.inputs u h ∙ a.inputs u h; near = λ N S c l n. b.near N S c l (a.near N S c l n) }

  -- **Labels kept near stay a lower bound.**
  pub kept-bounds : {tops : List ℕ} {ls ls' : List ℤ} → Kept M δ C k φ ls ls' → Bounds M C k φ tops ls → Bounds M C k φ tops ls'
  kept-bounds {ls = ls} {ls' = ls'} K b N S =
      near-bound (λ u i. K.inputs u (let h = S.holds.inputs in omega arith) ∙ (b N S).inputs u i) (K.near N (sane_of S) 0 (omega arith) (bound-near (b N S)))

  -- a gate's label replaced
  kept_set : (ls : List ℤ) (g : ℕ) (h : ℤ) → C.inputs + g < length ls
      → ((N : Net) → Sane C k N → Keeps M N k φ δ (label_in ls) (replace (label_in ls) (C.inputs + g) h)) → Kept M δ C k φ ls (set ls (C.inputs + g) h)
  kept_set ls g h r f = record {
    inputs = λ u i. get_or-set_other ls (C.inputs + g) u h (pos 0) (λ e. omega (arith, e, i));
    near = λ N S. subst (λ (m : ℕ → ℤ). Keeps M N k φ δ (label_in ls) m) (sym (fun_ext (λ u. label-set ls (C.inputs + g) u h r))) (f N S);
  }

  -- **p is kept near**
  pub kept-p : (ls : List ℤ) (g : ℕ) (p : ℤ) → g < C.gates → C.inputs + g < length ls → PinMax C ls φ g p → Kept M δ C k φ ls (set ls (C.inputs + g) p)
  kept-p ls g p l r m = kept_set ls g p r (λ N S.
      keeps-pin k φ S.sound δ (label_in ls) (C.inputs + g) (pin_at C.sources C.counts (stride * g + m.pin)) (gate-of S.holds g l) (is-pin S.holds g m.pin l m.is_pin) p m.attained)

  -- **and p + 1 where there is no cut of height p**
  pub kept_more : (ls : List ℤ) (g : ℕ) (q : Bool) (p : ℤ) → g < C.gates → C.inputs + g < length ls → PinMax C ls φ g p → Answered M δ C k φ ls g p q → q ≡ false
      → Kept M δ C k φ ls (set ls (C.inputs + g) (p +ℤ pos 1))
  kept_more ls g q p l r m a few = kept_set ls g (p +ℤ pos 1) r (λ N S.
      keeps-more k φ S.sound δ (label_in ls) (C.inputs + g) (pin_at C.sources C.counts (stride * g + m.pin)) (gate-of S.holds g l) (is-pin S.holds g m.pin l m.is_pin) p m.attained
      (a.none N S few))

-- **past its ceiling a gate refutes**
pub past_top : (M : Mode) {C : Circuit} {k φ : ℕ} {tops : List ℕ} (ls : List ℤ) (g : ℕ) → g < C.gates → Bounds M C k φ tops ls → pos (φ * get_or tops g 0) <ℤ label_in ls (C.inputs + g)
    → Refuted M C k φ tops
past_top plain {C} {k} {φ} {tops} ls g l b h N S =
    let t = S.path g l in
    let a = t.0 in
    let e : φ * suc (get_or tops g 0 - 1) ≡ φ * get_or tops g 0 = ap (λ (x : ℕ). φ * x) (omega arith) in
    refutes N k φ S.sound (label_in ls) (C.inputs + g) (get_or tops g 0 - 1) (b N S) (gate-of S.holds g l) t.1 (omega (arith, ints))
past_top forward {C} {k} {φ} {tops} ls g l b h N S = λ lab a m.
    let v = gate-of S.holds g l in
    let t : lab (C.inputs + g) ≤ℤ pos φ = labelling-top a (C.inputs + g) v in
    let u = (b N S).below lab a (C.inputs + g) v in
    let c : φ * 1 ≤ φ * get_or tops g 0 = mul-le-mul_left φ (S.path g l) in
    omega (arith, ints, t, u, c, h)

-- ---- all gates quiet
module _ {M : Mode} {δ : ℕ} {C : Circuit} {k φ : ℕ} {tops : List ℕ} where
  quiet-falls : {ls : List ℤ} (g : ℕ) → Quiet M δ C k φ tops ls g → (j : ℕ) → j < get_or C.pins g 0 → pin_height C ls φ g j ≤ℤ label_in ls (C.inputs + g)
  quiet-falls {ls} g (higher p m h) j l = let a = m.above j l in omega (arith, ints, +-parts p (pos 1))
  quiet-falls {ls} g (level p m e s) j l = let a = m.above j l in omega (arith, ints)

  falling : {N : Net} {ls : List ℤ} → Holds C N → ((g : ℕ) → g < C.gates → Quiet M δ C k φ tops ls g) → Falling N φ (label_in ls)
  falling {N} {ls} H q v i p m =
      let t = place_of H v i in
      let w = pin_of H t.0 t.1 p (subst (λ (x : ℕ). p ∈ pins N x) t.2 m) in
      subst (λ (x : ℕ). (label_in ls p.src -ℤ pos (φ * p.count)) ≤ℤ label_in ls x) (sym t.2)
      (subst (λ (x : Pin). (label_in ls x.src -ℤ pos (φ * x.count)) ≤ℤ label_in ls (C.inputs + t.0)) (sym w.2) (quiet-falls t.0 (q t.0 t.1) w.0 w.1))

-- a cut of a trial that raises nothing is a low cut
trial_none : (M : Mode) (N : Net) (k φ : ℕ) (lab : ℕ → ℤ) (v : ℕ) (p : ℤ) → TrialCut M N k φ 0 lab v p → LowCutIn M N k φ lab v p
trial_none M N k φ lab v p c =
    remember c (λ x m i. subst (λ (z : ℤ). Inside M φ z x) (let e : (p -ℤ pos 0) ≡ p = omega (arith, ints, sub_parts p (pos 0)) in e) i)

module _ {M : Mode} {C : Circuit} {k φ : ℕ} {tops : List ℕ} where
  quiet-cut : {N : Net} {ls : List ℤ} (S : Suits M C k tops N) → Falling N φ (label_in ls) → (g : ℕ) → g < C.gates → Topped M φ (label_in ls (C.inputs + g)) → Quiet M 0 C k φ tops ls g
      → LowCutIn M N k φ (label_in ls) (C.inputs + g) (label_in ls (C.inputs + g))
  quiet-cut {N} {ls} S f g l t (higher p m h) =
      let x = label_in ls (C.inputs + g) in
      let e : ((x -ℤ pos 1) +ℤ pos 1) ≡ x = omega (arith, ints, sub_parts x (pos 1), +-parts (x -ℤ pos 1) (pos 1)) in
      let r = pins-reach k φ {ls = ls} S.holds S.sound g l m in
      subst (LowCutIn M N k φ (label_in ls) (C.inputs + g)) e
      (alone-cut N k φ S.sound M (label_in ls) (C.inputs + g) (x -ℤ pos 1) S.fits (gate-of S.holds g l)
      (λ q i. ≤ℤ_trans (r q i) (omega (arith, ints, +-parts p (pos 1), sub_parts x (pos 1)))) (subst (Topped M φ) (sym e) t))
  quiet-cut {N} {ls} S f g l t (level p m e s) =
      subst (LowCutIn M N k φ (label_in ls) (C.inputs + g)) (sym e) (trial_none M N k φ (label_in ls) (C.inputs + g) p (s N S f))

  -- **Where all gates are quiet, and none too high for the mode, a lower bound is the least labelling.**
  pub quiet-least : {ls : List ℤ} → Bounds M C k φ tops ls → ((g : ℕ) → g < C.gates → Quiet M 0 C k φ tops ls g) → ((g : ℕ) → g < C.gates → Topped M φ (label_in ls (C.inputs + g)))
      → (N : Net) → Suits M C k tops N → LeastIn M N k φ (label_in ls)
  quiet-least {ls} b q top N S =
      settled-least k φ (b N S) (λ v i. let t = place_of S.holds v i in
      subst (λ (x : ℕ). LowCutIn M N k φ (label_in ls) x (label_in ls x)) (sym t.2) (quiet-cut S (falling S.holds q) t.0 t.1 (top t.0 t.1) (q t.0 t.1)))
