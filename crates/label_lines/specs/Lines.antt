-- Definitions: depths of gates along lines without registers, and what the longest line bounds.
use Rattle.std.specs.Prelude.{◌≡◌, List, ℕ, ◌+◌, ◌*◌, ◌≤◌, ◌<◌, length, get_or}
use Rattle.net_model.specs.Net.{Net}
use Rattle.net_model.specs.Arrays.{stride}
use Rattle.net_model.specs.Wired.{Wires}
use Rattle.net_model.specs.Checks.{Loopless}
use Rattle.cone_theory.specs.CopyOrder.{Levels}
use Rattle.cut_circuit.specs.Circuit.{Circuit}
use Rattle.cut_circuit.specs.Bridge.{Holds}
use Rattle.cut_circuit.specs.declared.Extent.{Extent}
use Rattle.label_visit.specs.LabelVisits.{wiring}

-- n pins from place `at` on can be read, and each source has a depth
pub record DepthsRead (sources counts depths : List ℕ) (at n : ℕ) : Type 0 where
  pub source : (j : ℕ) → j < n → at + j < length sources
  pub count : (j : ℕ) → j < n → at + j < length counts
  pub node : (j : ℕ) → j < n → get_or sources (at + j) 0 < length depths

-- of these, no source without a register is deeper than r
pub record Deepest (sources counts depths : List ℕ) (at n r : ℕ) : Type 0 where
  pub above : (j : ℕ) → j < n → get_or counts (at + j) 0 ≡ 0 → get_or depths (get_or sources (at + j) 0) 0 ≤ r

-- the pins of all gates can be read, and each node has a depth
pub record DepthsHeld (s : Extent) (net depths : List ℕ) : Type 0 where
  pub wires : Wires s.inputs s.gates net (wiring s net).sources (wiring s net).counts
  pub size : s.inputs + s.gates ≤ length depths

-- gate g is deeper than what it reads without registers
pub record Rises (C : Circuit) (depths : List ℕ) (g : ℕ) : Type 0 where
  pub some : 1 ≤ get_or depths (C.inputs + g) 0
  pub most : get_or depths (C.inputs + g) 0 ≤ C.gates
  pub above : (j : ℕ) → j < get_or C.pins g 0 → get_or C.counts (stride * g + j) 0 ≡ 0 → get_or depths (get_or C.sources (stride * g + j) 0) 0 < get_or depths (C.inputs + g) 0

-- so are the first n gates, none of them deeper than r
pub record Levelled (C : Circuit) (depths : List ℕ) (n low r : ℕ) : Type 0 where
  pub place : n ≤ C.gates
  pub least : low ≤ r
  pub most : r ≤ C.gates
  pub rises : (g : ℕ) → g < n → Rises C depths g
  pub below : (g : ℕ) → g < n → get_or depths (C.inputs + g) 0 ≤ r

-- r bounds the levels of every net with this wiring
pub record LongestTold (C : Circuit) (low r : ℕ) : Type 0 where
  pub least : low ≤ r
  pub most : r ≤ C.gates
  pub levels : (N : Net) → Holds C N → Loopless N → (O : Levels N) × ((v : ℕ) → O.level v ≤ r)
