-- The pins of a member: the source of each may be a leaf, or is forced.
use Rattle.std.specs.Prelude.{◌≡◌, Result, Ok, Err, List, ℕ, ◌+◌, ◌*◌, ◌/◌, ◌%◌, ◌^◌, ◌≤◌, ◌<◌, ℤ, pos, ◌-ℤ◌, ◌≤ℤ◌, ◌<ℤ◌}
use Rattle.std.proofs.Common.{sym, subst, ◌∙◌, inl, inr, not-suc-le-zero, mul-le-mul_left, mod-lt, arith}
use Rattle.std.proofs.Math.Decide.{ℕ_discrete}
use Rattle.integers.specs.Parts.{ints, sub_parts}
use Rattle.integers.proofs.Height.{height-parts}
use Rattle.net_model.specs.Net.{Net}
use Rattle.net_model.specs.Copies.{Copy, copy, Feeds}
use Rattle.label_theory.specs.Labels.{Low}
use Rattle.label_theory.specs.Forced.{Forced}
use Rattle.signed.specs.Range.{room, label_in}
use Rattle.cut_circuit.specs.Circuit.{Circuit, total, ending, feeder, pins_of}
use Rattle.cut_circuit.specs.CircuitLaws.{terminal-is, pins-is, pin-below, source_is, wide-positive, place-below, source-below, node-below}
use Rattle.cut_circuit.specs.Packed.{GateAsked, SourceAsked}
use Rattle.cut_circuit.specs.Bridge.{Holds, decode, encode, to-feeds, from-feeds}
use Rattle.cut_forced.specs.Slots.{marked, Inner}
use Rattle.cut_forced.specs.SlotLaws.{gate-inside}
use Rattle.cut_forced.specs.Forcing.{filled, Target, target, LowOf, ForcedAt, Ground, Growing, Grown, Told, Settled, Looked, LowAsked, PinAsked, PinTold, leaf, forced}
use Rattle.cut_forced.specs.AddLaws.{grew_trans, told_same, told_added, few-fits, room_for}

-- ---- a leaf low enough
pub low-shift : {width φ y : ℕ} {ls : List ℤ} → LowAsked width ls φ y → φ * (y % width) ≤ room
low-shift {width} {φ} {y} a = omega (arith, a.shift, mul-le-mul_left {m = y % width} {n = width} φ (omega (arith, mod-lt y {m = width} a.wide)))

pub low_yes : (φ : ℕ) (ls : List ℤ) (h : ℤ) (u d : ℕ) → (label_in ls u -ℤ pos (φ * d)) <ℤ h → Low φ (label_in ls) h (copy u d)
low_yes φ ls h u d k = omega (arith, ints, height-parts φ (label_in ls u) d, sub_parts (label_in ls u) (pos (φ * d)))

pub low_no : (φ : ℕ) (ls : List ℤ) (h : ℤ) (u d : ℕ) → h ≤ℤ (label_in ls u -ℤ pos (φ * d)) → ¬ Low φ (label_in ls) h (copy u d)
low_no φ ls h u d k l = omega (arith, ints, height-parts φ (label_in ls u) d, sub_parts (label_in ls u) (pos (φ * d)))

-- the same copy and height, written otherwise
pub low_same : (width φ : ℕ) (ls : List ℤ) {h h' : ℤ} {y y' : ℕ} → h ≡ h' → y ≡ y' → Low φ (label_in ls) h (copy (y / width) (y % width))
    → Low φ (label_in ls) h' (copy (y' / width) (y' % width))
low_same width φ ls {h} {h'} {y} {y'} e p l =
    subst (λ (z : ℤ). Low φ (label_in ls) z (copy (y' / width) (y' % width))) e (subst (λ (x : ℕ). Low φ (label_in ls) h (copy (x / width) (x % width))) p l)

-- ---- the numbered pins of a net
module _ {W : Circuit} {N : Net} (H : Holds W N) where
  holds-filled : (slots : List ℕ) → Holds (filled W slots) N
  holds-filled slots = record { inputs = H.inputs; gates = H.gates; lists = H.lists }

  module _ {ls : List ℤ} {φ k : ℕ} (B : Ground W ls φ k) {x : ℕ} (i : Inner W x) where
    abbrev C : Circuit
    C = filled W B.slots

    inner-ends : ending C x ≡ 0
    inner-ends = omega (arith, i.below, i.ends)

    pub pin-feeds : {j : ℕ} → j < pins_of W x → Feeds N (decode W (feeder W x j)) (decode W x)
    pin-feeds {j} b = to-feeds B.layout (holds-filled B.slots) (record {
      pin = j;
      below = subst (λ (n : ℕ). j < n) (sym (pins-is C x (terminal-is C x ∙ inner-ends))) b;
      source = source_is C x j;
    })

    pub feeds-pin : {c : Copy} → Feeds N c (decode W x) → (j : ℕ) × (j < pins_of W x) × (feeder W x j ≡ encode W c) × (c.back < W.width)
    feeds-pin {c} f =
        let n = from-feeds B.layout (holds-filled B.slots) inner-ends f in
        let l = pin-below C x n.feeding.pin n.feeding.below in
        (n.feeding.pin, l.1, sym (source_is C x n.feeding.pin) ∙ n.feeding.source, n.back)

-- ---- the ways of a pin
module _ {W : Circuit} {T : Target} {k : ℕ} {P Q : List ℕ → Type 0} {slots members : List ℕ} {m : ℕ} {slots' members' : List ℕ} {r : ℕ} where
  pub told-then : ((s : List ℕ) → P s → Q s) → Grown W T k P slots members m slots' members' r → Grown W T k Q slots members m slots' members' r
  told-then f o = record { growing = o.growing; grew = o.grew; done = f slots' o.done }

-- ---- the pins of a member
pub settled-grew : (W : Circuit) (T : Target) (slots slots' : List ℕ) (x j : ℕ) → ((z : ℕ) → 0 < marked W slots z → 0 < marked W slots' z)
    → Settled W T slots x j → Settled W T slots' x j
settled-grew W T slots slots' x j f (inl l) = inl l
settled-grew W T slots slots' x j f (inr h) = inr (f (feeder W x j) h)

pub ground-fits : {W : Circuit} {ls : List ℤ} {φ k : ℕ} → Ground W ls φ k → k * W.gates < 2 ^ 32
ground-fits {W} {k = k} B = few-fits W.inputs W.gates W.width k (wide-positive B.layout) B.fits B.limit

module _ {W : Circuit} {ls : List ℤ} {φ k : ℕ} (B : Ground W ls φ k) {x : ℕ} (i : Inner W x) where
  ground-ends : ending (filled W B.slots) x ≡ 0
  ground-ends = omega (arith, i.below, i.ends)

  wide : 0 < W.width
  wide = wide-positive B.layout

  pub gate-asked : GateAsked W W.pins x
  gate-asked = record { wide = wide; gate = omega (arith, i.ends); below = omega (arith, gate-inside wide i, B.layout.pins) }

  module _ {j : ℕ} (b : j < pins_of W x) where
    pub feeder-below : feeder W x j < total W
    feeder-below = source-below B.layout x j i.below ground-ends b

    pub source-asked : SourceAsked W x j
    source-asked =
        let a = place-below B.layout x j i.below ground-ends b in
        record {
          wide = wide;
          gate = omega (arith, i.ends);
          source = omega (arith, a, B.layout.sources);
          count = omega (arith, a, B.layout.counts);
          fits = omega (arith, feeder-below, B.fits);
        }

    pub pin-asked : {T : Target} {slots members : List ℕ} {m : ℕ} → Growing W T k slots members m → PinAsked W ls φ k slots members m x j
    pin-asked G = record {
      source = source-asked;
      low = record {
        wide = wide;
        label = omega (arith, B.labels, node-below (feeder W x j) W.width (W.inputs + W.gates) wide feeder-below);
        small = B.small;
        shift = B.shift;
      };
      add = record {
        wide = wide;
        below = feeder-below;
        places = G.slotted.places;
        held = λ g h. omega (arith, G.slotted.held g h, B.limit);
        limit = B.limit;
        few = G.few;
        fits = B.fits;
        room = λ z ends h. room_for G (feeder W x j) (record { below = feeder-below; ends = ends }) z h;
      };
    }

    module _ {v : ℕ} {h : ℤ} {slots members : List ℕ} {m : ℕ} {slots₁ members₁ : List ℕ} {c : ℕ} (member : 0 < marked W slots x)
        (o : Grown W (target ls φ v h) k (Looked W (target ls φ v h) x j) slots members m slots₁ members₁ c) where
      abbrev T : Target
      T = target ls φ v h

      feeder-forced : ¬ LowOf T (decode W (feeder W x j)) → ForcedAt W T (feeder W x j)
      feeder-forced n N H = Forced.behind (decode W x) (o.growing.forced x (o.grew.marked x member) N H) (pin-feeds H B i b) n

      pub told-pin : {slots₂ members₂ : List ℕ} {r : Result ℕ ℕ} → PinTold W.inputs W.gates W.width W.border ls φ h k slots₁ members₁ c (feeder W x j) slots₂ members₂ r
          → Told W T k (Looked W T x (j + 1)) slots members m slots₂ members₂ r
      told-pin (leaf e p q l) = rw e (rw p (rw q (record {
        growing = o.growing;
        grew = o.grew;
        done = λ z s. next z s (ℕ_discrete z j);
      })))
        where
          next : (z : ℕ) → z < j + 1 → Dec (z ≡ j) → Settled W T slots₁ x z
          next z s (yes t) = subst (Settled W T slots₁ x) (sym t) (inl l)
          next z s (no n) = o.done z (omega (arith, s, n))
      told-pin {slots₂} {members₂} {r} (forced n a) = go r (told_added o.growing (feeder W x j) (feeder-forced n) feeder-below a)
        where
          next : {r : ℕ} → Grown W T k (λ (s : List ℕ). 0 < marked W s (feeder W x j)) slots₁ members₁ c slots₂ members₂ r → (z : ℕ) → z < j + 1 → Dec (z ≡ j) → Settled W T slots₂ x z
          next u z s (yes e) = subst (Settled W T slots₂ x) (sym e) (inr u.done)
          next u z s (no m) = settled-grew W T slots₁ slots₂ x z u.grew.marked (o.done z (omega (arith, s, m)))

          go : (r : Result ℕ ℕ) → Told W T k (λ (s : List ℕ). 0 < marked W s (feeder W x j)) slots₁ members₁ c slots₂ members₂ r → Told W T k (Looked W T x (j + 1)) slots members m slots₂ members₂ r
          go (Ok r) u = record { growing = u.growing; grew = grew_trans o.grew u.grew; done = λ z s. next u z s (ℕ_discrete z j) }
          go (Err e) u = u

pub told-start : {W : Circuit} {T : Target} {k : ℕ} {slots members : List ℕ} {m : ℕ} (x : ℕ) → Growing W T k slots members m
    → Grown W T k (Looked W T x 0) slots members m slots members m
told-start {W} {T} {k} {slots} x G = told_same G (Looked W T x 0) (λ j h. absurd (not-suc-le-zero h))
