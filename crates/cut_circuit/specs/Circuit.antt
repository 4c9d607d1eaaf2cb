-- Definitions: the expanded circuit as a graph: the copy u:d has the number u·width + d. Terminals are the copies of inputs and those beyond the border; the forced set stands in `slots`: for each gate the number of its forced copies, then for each gate places for their d. `first` has for each gate the pin to be searched first, `heads` and `nexts` the pins that read a node.
use Rattle.std.specs.Prelude.{List, ℕ, zero, suc, ◌+◌, ◌-◌, ◌*◌, ◌/◌, ◌%◌, ◌≤◌, ◌<◌, length, get_or}
use Rattle.std.proofs.Math.Decide.{ℕ_discrete}
use Rattle.limits.specs.Limits.{most_k, most_pins}
use Rattle.sequences.specs.Keep.{bit}
use Rattle.cut_flow.specs.Graph.{Graph}

pub record Circuit : Type 0 where
  pub inputs : ℕ
  pub gates : ℕ
  pub width : ℕ
  pub border : ℕ
  pub pins : List ℕ
  pub first : List ℕ
  pub sources : List ℕ
  pub counts : List ℕ
  pub heads : List ℕ
  pub nexts : List ℕ
  pub slots : List ℕ

abbrev pub circuit : ℕ → ℕ → ℕ → ℕ → List ℕ → List ℕ → List ℕ → List ℕ → List ℕ → List ℕ → List ℕ → Circuit
circuit inputs gates width border pins first sources counts heads nexts slots = record {
  inputs = inputs;
  gates = gates;
  width = width;
  border = border;
  pins = pins;
  first = first;
  sources = sources;
  counts = counts;
  heads = heads;
  nexts = nexts;
  slots = slots;
}

abbrev pub total : Circuit → ℕ
total C = (C.inputs + C.gates) * C.width

-- the place of pin j of copy x in the arrays of pins
abbrev pub place : Circuit → ℕ → ℕ → ℕ
place C x j = most_pins * (x / C.width - C.inputs) + j

-- positive at copies of inputs and at copies beyond the border
abbrev pub ending_at : ℕ → ℕ → ℕ → ℕ → ℕ
ending_at inputs width border x = (inputs - x / width) + (x % width - border)

-- the same, and positive beyond the last copy
abbrev pub ending : Circuit → ℕ → ℕ
ending C x = ending_at C.inputs C.width C.border x + (suc x - total C)

-- the copy that feeds copy x by the pin at place p
abbrev pub feeding_at : ℕ → List ℕ → List ℕ → ℕ → ℕ → ℕ
feeding_at width sources counts x p = get_or sources p 0 * width + (x % width + get_or counts p 0)

-- the number of pins of copy x, and the copy that feeds it by pin j
abbrev pub pins_of : Circuit → ℕ → ℕ
pins_of C x = get_or C.pins (x / C.width - C.inputs) 0

abbrev pub feeder : Circuit → ℕ → ℕ → ℕ
feeder C x j = feeding_at C.width C.sources C.counts x (place C x j)

-- n where the first number is 0, else 0
abbrev pub unless : ℕ → ℕ → ℕ
unless zero n = n
unless (suc e) n = 0

-- how many of the n numbers from place p are d
unfoldable pub among : List ℕ → ℕ → ℕ → ℕ → ℕ
among slots p zero d = 0
among slots p (suc n) d = bit (ℕ_discrete (get_or slots p 0) d) + among slots (suc p) n d

-- positive where d stands in a slot of gate g
abbrev pub held_at : ℕ → List ℕ → ℕ → ℕ → ℕ
held_at gates slots g d = among slots (gates + most_k * g) (get_or slots g 0) d

-- positive at the forced copies
unfoldable pub forced_at : ℕ → ℕ → ℕ → ℕ → List ℕ → ℕ → ℕ
forced_at inputs gates width border slots x =
    unless (ending_at inputs width border x + (suc x - (inputs + gates) * width)) (held_at gates slots (x / width - inputs) (x % width))

abbrev pub forced_in : Circuit → ℕ → ℕ
forced_in C x = forced_at C.inputs C.gates C.width C.border C.slots x

unfoldable pub graph_of : Circuit → Graph
graph_of C = record {
  size = total C;
  pins = λ x. unless (ending C x) (get_or C.pins (x / C.width - C.inputs) 0);
  source = λ x j. feeding_at C.width C.sources C.counts x (place C x j);
  terminal = ending C;
  forced = forced_in C;
}

-- The arrays are long enough, pins read nodes, and what feeds a copy inside the border is below the width.
pub record Layout (C : Circuit) : Type 0 where
  pub wide : C.border < C.width
  pub pins : C.gates ≤ length C.pins
  pub sources : most_pins * C.gates ≤ length C.sources
  pub counts : most_pins * C.gates ≤ length C.counts
  pub firsts : C.gates ≤ length C.first
  pub slots : suc most_k * C.gates ≤ length C.slots
  pub held : (g : ℕ) → g < C.gates → get_or C.slots g 0 ≤ most_k
  pub first : (g : ℕ) → g < C.gates → get_or C.first g 0 < get_or C.pins g 0
  pub few : (g : ℕ) → g < C.gates → get_or C.pins g 0 ≤ most_pins
  pub source : (g j : ℕ) → g < C.gates → j < get_or C.pins g 0 → get_or C.sources (most_pins * g + j) 0 < C.inputs + C.gates
  pub count : (g j : ℕ) → g < C.gates → j < get_or C.pins g 0 → C.border + get_or C.counts (most_pins * g + j) 0 < C.width
