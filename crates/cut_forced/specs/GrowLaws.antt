-- The forced set grown from its root, member by member, and taken back.
use Rattle.std.specs.Prelude.{◌≡◌, refl, Result, Ok, Err, List, ◌++◌, ℕ, zero, suc, ◌+◌, ◌-◌, ◌*◌, ◌/◌, ◌%◌, ◌^◌, ◌≤◌, ◌<◌, ℤ, length, get_or, set, take, drop}
use Rattle.std.proofs.Common.{sym, ap, subst, ◌∙◌, not-suc-le-zero, mul-le-mul_right, arith, length-set, length-append, get_or-set_same, get_or-set_other, get_or-append-add, get_or-take, get_or-drop, length-take-le}
use Rattle.std.proofs.Math.Decide.{ℕ_discrete}
use Rattle.std.proofs.Math.ListN.{get_or-append}
use Rattle.cone_theory.specs.Basics.{copy-path}
use Rattle.label_theory.specs.Forced.{Forced}
use Rattle.cut_circuit.specs.Circuit.{Circuit, total}
use Rattle.cut_circuit.specs.CircuitLaws.{wide-positive, node_of, back-of, copy-inside}
use Rattle.cut_forced.specs.Slots.{marked, Inner, gate_at, slot_at, holding, Slotted, Unmarked}
use Rattle.cut_forced.specs.SlotLaws.{gate-inside, marked-inner, none-held, none-marked, none-slotted, slot-node, slot-marked, slotted-holding, marked-new, marked-before}
use Rattle.cut_forced.specs.Forcing.{Target, target, Growing, Grown, Refutes, AllSettled, HoldAsked, AllForced, ForceTold, Progress, ForceAsked, SameFrom, Listed}
use Rattle.cut_forced.specs.ForcedPinLaws.{settled-grew}

-- ---- the members
module _ {W : Circuit} {T : Target} {k : ℕ} where
  pub progress_start : {slots members : List ℕ} → Growing W T k slots members 1 → Progress W T k slots members 1 0
  progress_start G = record { growing = G; closed = λ a h. absurd (not-suc-le-zero h) }

  module _ {slots members : List ℕ} {m i : ℕ} (w : Progress W T k slots members m i) where
    pub progress_step : {slots' members' : List ℕ} {r : ℕ} → i < m → Grown W T k (AllSettled W T (get_or members i 0)) slots members m slots' members' r
        → Progress W T k slots' members' r (i + 1)
    progress_step {slots'} {members'} h o = record { growing = o.growing; closed = λ a p. closed a p (ℕ_discrete a i) }
      where
        closed : (a : ℕ) → a < i + 1 → Dec (a ≡ i) → AllSettled W T (get_or members' a 0) slots'
        closed a p (yes e) = subst (λ (x : ℕ). AllSettled W T x slots') (sym (ap (λ (n : ℕ). get_or members' n 0) e ∙ o.grew.listed i h)) o.done
        closed a p (no n) =
            let q : a < i = omega (arith, p, n) in
            subst (λ (x : ℕ). AllSettled W T x slots') (sym (o.grew.listed a (omega (arith, q, h))))
            (λ j b. settled-grew W T slots slots' (get_or members a 0) j o.grew.marked (w.closed a q j b))

    pub progress_end : m ≤ i → AllForced W T k slots members m
    progress_end h = record {
      growing = w.growing;
      closed = λ x p. let r = w.growing.all x p in subst (λ (y : ℕ). AllSettled W T y slots) r.2 (w.closed r.0 (omega (arith, r.1, h)));
    }

-- what stands behind the first n places, where those were written anew
get_or_behind : (x l : List ℕ) (n : ℕ) → length x ≡ n → SameFrom n l (x ++ drop n l)
get_or_behind x l n e i h =
    ap (λ (j : ℕ). get_or (x ++ drop n l) j 0) (omega (arith, e, h))
    ∙ (get_or-append-add x (drop n l) (i - n) 0 ∙ (get_or-drop n l (i - n) 0 ∙ ap (λ (j : ℕ). get_or l j 0) (omega (arith, h))))

-- ---- the root
module _ {W : Circuit} {ls : List ℤ} {φ k g : ℕ} {slots members : List ℕ} (a : ForceAsked W ls φ k g slots members) where
  abbrev x : ℕ
  x = (W.inputs + g) * W.width

  wide : 0 < W.width
  wide = wide-positive a.grounded.layout

  root_below : x < total W
  root_below = omega (arith, copy-inside (W.inputs + g) 0 W.width (W.inputs + W.gates) (omega (arith, a.gate)) wide)

  pub root-fits : x < 2 ^ 32
  root-fits = omega (arith, root_below, a.grounded.fits)

  some-members : 0 < k * W.gates
  some-members = omega (arith, a.gate, mul-le-mul_right {m = 1} {n = k} W.gates a.some)

  pub members-inside : 0 < length members
  members-inside = omega (arith, some-members, a.space)

  pub root-held : HoldAsked W.gates slots g 0 0
  root-held = record { gate = a.gate; slot = omega arith; places = a.places; fits = omega arith }

  root-node : x / W.width ≡ W.inputs + g
  root-node = ap (λ (n : ℕ). n / W.width) (omega arith) ∙ node_of (W.inputs + g) 0 W.width wide

  root-back : x % W.width ≡ 0
  root-back = ap (λ (n : ℕ). n % W.width) (omega arith) ∙ back-of (W.inputs + g) 0 W.width wide

  root-gate : gate_at W x ≡ g
  root-gate = omega (arith, root-node)

  root-inner : Inner W x
  root-inner = record { below = root_below; ends = omega (arith, root-node, root-back) }

  empty : Slotted W k slots
  empty = none-slotted a.grounded.layout.wide a.places a.grounded.limit a.unforced

  abbrev slots₁ : List ℕ
  slots₁ = holding W.gates slots g 0 0

  root-marked : 0 < marked W slots₁ x
  root-marked = marked-new empty g 0 0 a.gate (a.unforced g a.gate) a.some x root-inner root-gate root-back

  root-only : (z : ℕ) → 0 < marked W slots₁ z → z ≡ x
  root-only z p = go (ℕ_discrete z x)
    where
      go : Dec (z ≡ x) → z ≡ x
      go (yes e) = e
      go (no n) = absurd (omega (
        arith,
        none-marked W slots a.grounded.layout.wide a.unforced z,
        marked-before empty g 0 0 a.gate (a.unforced g a.gate) a.some x root-inner root-gate root-back z n p,
      ))

  growing-start : (h : ℤ) → Growing W (target ls φ (W.inputs + g) h) k slots₁ (set members 0 x) 1
  growing-start h = record {
    slotted = slotted-holding empty g 0 0 a.gate (a.unforced g a.gate) a.some (omega arith) (none-held W.gates slots a.unforced g 0 a.gate);
    space = omega (arith, length-set members 0 x, a.space);
    some = omega arith;
    few = omega (arith, some-members);
    root = root-marked;
    listed = λ b p. subst (λ (z : ℕ). 0 < marked W slots₁ z) (sym (ap (λ (n : ℕ). get_or (set members 0 x) n 0) (omega (arith, p)) ∙ head)) root-marked;
    all = λ z p. (0, omega arith, head ∙ sym (root-only z p));
    once = λ b c p q. absurd (omega (arith, p, q));
    forced = λ z p N H. Forced.root (copy-path (ap (λ (n : ℕ). n / W.width) (root-only z p) ∙ root-node) (ap (λ (n : ℕ). n % W.width) (root-only z p) ∙ root-back));
  }
    where
      head : get_or (set members 0 x) 0 0 ≡ x
      head = get_or-set_same members 0 x 0 members-inside

  pub growing-root : (h : ℤ) {slots' members' : List ℕ} → slots' ≡ slots₁ → members' ≡ set members 0 x → Growing W (target ls φ (W.inputs + g) h) k slots' members' 1
  growing-root h e f = rw e (rw f (growing-start h))

  -- what stands behind the members is kept
  pub force_behind : (first : List ℕ) {members' : List ℕ} → members' ≡ set members 0 x → length first ≡ length (take (k * W.gates) members')
      → SameFrom (k * W.gates) members (first ++ drop (k * W.gates) members')
  force_behind first {members'} e l i h =
      let s = ap length e ∙ length-set members 0 x in
      get_or_behind first members' (k * W.gates) (l ∙ length-take-le (k * W.gates) members' (omega (arith, s, a.space))) i h
      ∙ (ap (λ (m : List ℕ). get_or m i 0) e ∙ get_or-set_other members 0 i x 0 (λ q. absurd (omega (arith, q, h, some-members))))

-- ---- the members in another array
module _ {W : Circuit} {T : Target} {k : ℕ} {slots members : List ℕ} where
  pub growing-same : {members' : List ℕ} {m : ℕ} → k * W.gates ≤ length members' → ((i : ℕ) → i < k * W.gates → get_or members' i 0 ≡ get_or members i 0) → Growing W T k slots members m
      → Growing W T k slots members' m
  growing-same {members'} {m} space e G = record {
    slotted = G.slotted;
    space = space;
    some = G.some;
    few = G.few;
    root = G.root;
    listed = λ a h. subst (λ (x : ℕ). 0 < marked W slots x) (sym (at a h)) (G.listed a h);
    all = λ x h. let r = G.all x h in (r.0, r.1, at r.0 r.1 ∙ r.2);
    once = λ a b p q z. G.once a b p q (sym (at a (omega (arith, p, q))) ∙ (z ∙ at b q));
    forced = G.forced;
  }
    where
      at : (a : ℕ) → a < m → get_or members' a 0 ≡ get_or members a 0
      at a h = e a (omega (arith, h, G.few))

  -- in the places that they may take
  pub growing-part : {m : ℕ} → Growing W T k slots members m → Growing W T k slots (take (k * W.gates) members) m
  growing-part G =
      growing-same (let l = length-take-le (k * W.gates) members G.space in omega (arith, l)) (λ i h. get_or-take (k * W.gates) members i 0 h) G

  -- with other numbers behind them
  growing-front : (rest : List ℕ) {m : ℕ} → Growing W T k slots members m → Growing W T k slots (members ++ rest) m
  growing-front rest G =
      growing-same (omega (arith, G.space, length-append members rest)) (λ i h. get_or-append members rest 0 i (omega (arith, h, G.space))) G

pub told-front : (W : Circuit) (T : Target) (k : ℕ) (slots members rest : List ℕ) (r : Result ℕ ℕ) → ForceTold W T k slots members r → ForceTold W T k slots (members ++ rest) r
told-front W T k slots members rest (Ok r) o = record { growing = growing-front rest o.growing; closed = o.closed }
told-front W T k slots members rest (Err c) o = record { growing = growing-front rest o.growing; refuted = o.refuted }

-- ---- forced copies taken away
listed-step : {inputs gates width : ℕ} {slots members : List ℕ} {i : ℕ} → Listed inputs gates width slots members i → i < length members
    → Listed inputs gates width (set slots (get_or members i 0 / width - inputs) 0) members (i + 1)
listed-step {inputs} {gates} {width} {slots} {members} {i} w h = record {
  wide = w.wide;
  places = omega (arith, length-set slots u 0, w.places);
  low = w.low;
  high = w.high;
  rest = λ g b p. go g b p (ℕ_discrete g u);
}
  where
    u : ℕ
    u = get_or members i 0 / width - inputs

    further : (g : ℕ) → ¬ (g ≡ u) → (a : ℕ) × (i ≤ a) × (a < length members) × (get_or members a 0 / width - inputs ≡ g)
        → (a : ℕ) × (i + 1 ≤ a) × (a < length members) × (get_or members a 0 / width - inputs ≡ g)
    further g n (a, p, q, e) = (a, at (ℕ_discrete a i), q, e)
      where
        at : Dec (a ≡ i) → i + 1 ≤ a
        at (yes t) = absurd (n (sym e ∙ ap (λ (j : ℕ). get_or members j 0 / width - inputs) t))
        at (no m) = omega (arith, p, m)

    go : (g : ℕ) → g < gates → 0 < get_or (set slots u 0) g 0 → Dec (g ≡ u)
        → (a : ℕ) × (i + 1 ≤ a) × (a < length members) × (get_or members a 0 / width - inputs ≡ g)
    go g b p (yes e) = absurd (omega (arith, p, ap (λ (z : ℕ). get_or (set slots u 0) z 0) e, get_or-set_same slots u 0 0 (omega (arith, w.high i h, w.places))))
    go g b p (no n) = further g n (w.rest g b (subst (λ (z : ℕ). 0 < z) (get_or-set_other slots u g 0 0 n) p))

-- the count of the gate of member x is 0
pub listed-put : {inputs gates width : ℕ} {slots slots' members : List ℕ} {i x : ℕ} → Listed inputs gates width slots members i → i < length members → x ≡ get_or members i 0
    → slots' ≡ set slots (x / width - inputs) 0 → Listed inputs gates width slots' members (i + 1)
listed-put {inputs} {gates} {width} {slots} {members = members} {i = i} w h e f =
    subst (λ (l : List ℕ). Listed inputs gates width l members (i + 1)) (sym (f ∙ ap (λ (y : ℕ). set slots (y / width - inputs) 0) e)) (listed-step w h)

pub listed_end : {inputs gates width : ℕ} {slots members : List ℕ} {i : ℕ} → Listed inputs gates width slots members i → length members ≤ i → Unmarked gates slots
listed_end {slots = slots} w h g b = go (get_or slots g 0) refl
  where
    go : (n : ℕ) → get_or slots g 0 ≡ n → get_or slots g 0 ≡ 0
    go zero e = e
    go (suc n) e = let r = w.rest g b (omega (arith, e)) in absurd (omega (arith, r.1, r.2, h))

-- ---- the members as a part of their array
module _ {W : Circuit} {T : Target} {k : ℕ} {slots members : List ℕ} {m : ℕ} (G : Growing W T k slots members m) where
  pub part-inside : m ≤ length members
  part-inside = omega (arith, G.few, G.space)

  pub part_length : length (take m members) ≡ m
  part_length = length-take-le m members part-inside

  pub part_at : (i : ℕ) → i < m → get_or (take m members) i 0 ≡ get_or members i 0
  part_at i h = get_or-take m members i 0 h

  part-inner : (i : ℕ) → i < length (take m members) → Inner W (get_or (take m members) i 0)
  part-inner i h =
      let j : i < m = omega (arith, h, part_length) in
      subst (Inner W) (sym (part_at i j)) (marked-inner W slots (get_or members i 0) (G.listed i j))

  pub listed_of : Listed W.inputs W.gates W.width slots (take m members) 0
  listed_of = record {
    wide = omega (arith, G.slotted.wide);
    places = omega (arith, G.slotted.places);
    low = λ i h. let n = part-inner i h in omega (arith, n.ends);
    high = λ i h. gate-inside (omega (arith, G.slotted.wide)) (part-inner i h);
    rest = λ g b h.
        let z = (W.inputs + g) * W.width + get_or slots (slot_at W.gates g 0) 0 in
        let r = G.all z (slot-marked G.slotted g 0 b h) in (
          r.0,
          omega arith,
          omega (arith, r.1, part_length),
          ap (λ (y : ℕ). y / W.width - W.inputs) (part_at r.0 r.1 ∙ r.2) ∙ omega (arith, slot-node G.slotted g 0 b h),
        );
  }

-- the same where every cut is refuted
module _ {W : Circuit} {T : Target} {k : ℕ} {slots members : List ℕ} {c : ℕ} (f : Refutes W T k slots members c) where
  pub excess-inside : c ≤ length members
  excess-inside = part-inside f.growing

  pub excess-listed : Listed W.inputs W.gates W.width slots (take c members) 0
  excess-listed = listed_of f.growing
