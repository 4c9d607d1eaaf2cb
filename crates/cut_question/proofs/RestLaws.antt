-- What is asked of the forced set, and the circuit with its slots.
use Rattle.std.specs.Prelude.{◌≡◌, false, List, ℕ, suc, ◌+◌, ◌*◌, ◌≤◌, ◌<◌, ℤ, length, get_or}
use Rattle.std.proofs.Common.{le_trans, mul-le-mul_right, arith}
use Rattle.std.proofs.lemmas.Bool.{false≢true}
use Rattle.limits.specs.Limits.{most_k}
use Rattle.net_model.specs.Net.{Net}
use Rattle.cut_circuit.specs.Circuit.{Circuit, Layout}
use Rattle.cut_circuit.specs.Chains.{Chains}
use Rattle.cut_circuit.specs.Bridge.{Holds}
use Rattle.cut_forced.specs.Slots.{Slotted, Unmarked}
use Rattle.cut_forced.specs.Forcing.{filled, wires_of, target, Refuted, Ground, ForceAsked}
use Rattle.cut_question.specs.Question.{Resting, Asks, Decides, Takes}

-- ---- other slots
pub holds-filled : {C : Circuit} {N : Net} (slots : List ℕ) → Holds C N → Holds (filled C slots) N
holds-filled slots H = record { inputs = H.inputs; gates = H.gates; lists = H.lists }

pub layout-filled : {C : Circuit} {slots : List ℕ} → Layout C → suc most_k * C.gates ≤ length slots → ((g : ℕ) → g < C.gates → get_or slots g 0 ≤ most_k) → Layout (filled C slots)
layout-filled L p f = record {
  wide = L.wide;
  pins = L.pins;
  sources = L.sources;
  counts = L.counts;
  firsts = L.firsts;
  slots = p;
  held = f;
  first = L.first;
  few = L.few;
  source = L.source;
  count = L.count;
}

pub layout-slotted : {C : Circuit} {k : ℕ} {slots : List ℕ} → Layout C → Slotted (wires_of C) k slots → Layout (filled C slots)
layout-slotted L S = layout-filled L S.places (λ g h. omega (arith, S.held g h, S.limit))

pub chains-filled : {C : Circuit} (slots : List ℕ) → Chains C → Chains (filled C slots)
chains-filled slots c = record { nodes = c.nodes; places = c.places; low = c.low; falls = c.falls; all = c.all }

pub takes_filled : {C : Circuit} {k : ℕ} {nodes backs : List ℕ} (slots : List ℕ) → Takes C k nodes backs → Takes (filled C slots) k nodes backs
takes_filled slots a = record { net = a.net; holds = holds-filled slots a.holds; ranked = a.ranked; loopless = a.loopless; at_nodes = a.at_nodes; at_backs = a.at_backs }

-- ---- what is asked of `force`
module _ {C : Circuit} {members : List ℕ} {ls : List ℤ} {φ k g : ℕ} (a : Resting C members) (q : Asks C ls φ k g) where
  pub ground-of : Ground (wires_of C) ls φ k
  ground-of = record {
    slots = C.slots;
    layout = layout-filled a.layout a.layout.slots a.layout.held;
    labels = q.labels;
    small = q.small;
    shift = q.shift;
    limit = q.limit;
    fits = q.fits;
  }

  pub force_asked : ForceAsked (wires_of C) ls φ k g C.slots members
  force_asked = record {
    grounded = ground-of;
    places = a.layout.slots;
    space = le_trans (mul-le-mul_right {m = k} {n = most_k} C.gates q.limit) a.space;
    gate = q.gate;
    some = q.least;
    unforced = a.unforced;
  }

-- ---- at rest again
pub resting-again : {C : Circuit} {members slots members' : List ℕ} → Resting C members → length slots ≡ length C.slots → Unmarked C.gates slots
    → length members' ≡ length members → Resting (filled C slots) members'
resting-again {C} {slots = slots} a p z f = record {
  layout = layout-filled a.layout (omega (arith, p, a.layout.slots)) (λ g h. omega (arith, z g h));
  chains = chains-filled slots a.chains;
  unforced = z;
  space = omega (arith, f, a.space);
}

-- ---- every cut is refuted
pub decides_none : {C : Circuit} {ls : List ℤ} {φ k g : ℕ} {h : ℤ} → Refuted (wires_of C) (target ls φ (C.inputs + g) h) k → Decides C ls φ k g h false
decides_none {k} f = record {
  none = λ N H R loopless M b near p. f N (holds-filled _ H) R M b near;
  some = λ N H R loopless p. absurd (false≢true p);
}
