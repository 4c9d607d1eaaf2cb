-- Definitions: the circuit of a net in one slice of numbers; what is asked of its parts, and of a slot.
use Rattle.std.specs.Prelude.{List, ℕ, suc, ◌+◌, ◌*◌, ◌/◌, ◌-◌, ◌^◌, ◌≤◌, ◌<◌, length, get_or, drop}
use Rattle.limits.specs.Limits.{most_k}
pub use Rattle.net_model.specs.PackedNet.{first_at, sources_at, counts_at, nexts_at, heads_at}
use Rattle.cut_circuit.specs.Circuit.{Circuit, circuit, place, feeding_at}
use Rattle.cut_circuit.specs.declared.Extent.{Extent}
use Rattle.cut_circuit.specs.declared.Wires.{Wires}

-- the circuit in a slice, with the forced copies in slots
abbrev pub packed_of : Extent → List ℕ → List ℕ → Circuit
packed_of s net slots =
    circuit s.inputs s.gates s.width s.border net (drop (first_at s.gates) net) (drop (sources_at s.gates) net) (drop (counts_at s.gates) net)
    (drop (heads_at s.gates) net) (drop (nexts_at s.gates) net) slots

abbrev pub wired : Wires → Circuit
wired w = packed_of w.s w.net.now w.slots.now

-- The pin j of the copy x can be looked at; its source is a number of 64 bits.
pub record SourceAsked (C : Circuit) (x j : ℕ) : Type 0 where
  pub wide : 0 < C.width
  pub gate : C.inputs ≤ x / C.width
  pub source : place C x j < length C.sources
  pub count : place C x j < length C.counts
  pub fits : feeding_at C.width C.sources C.counts x (place C x j) < 2 ^ 64

-- The copy x is a gate's, and `l` has a number for it.
pub record GateAsked (C : Circuit) (l : List ℕ) (x : ℕ) : Type 0 where
  pub wide : 0 < C.width
  pub gate : C.inputs ≤ x / C.width
  pub below : x / C.width - C.inputs < length l

-- The slots of the copy x can be looked at.
pub record SlotAsked (s : Extent) (slots : List ℕ) (x : ℕ) : Type 0 where
  pub wide : 0 < s.width
  pub inside : x < (s.inputs + s.gates) * s.width
  pub room : suc most_k * s.gates ≤ length slots
  pub held : (g : ℕ) → g < s.gates → get_or slots g 0 ≤ most_k
