-- Definitions: the pins that read a node, as chains: `heads` has, for each node, one more than a place that reads it, and `nexts` for each place one more than the next; 0 ends a chain.
use Rattle.std.specs.Prelude.{◌≡◌, List, ℕ, suc, ◌+◌, ◌*◌, ◌≤◌, ◌<◌, length, get_or}
use Rattle.limits.specs.Limits.{most_pins}
use Rattle.cut_circuit.specs.Circuit.{Circuit}

-- Place p is met from `at`.
pub data Chain (nexts : List ℕ) : ℕ → ℕ → Type 0 where
  found : {at p : ℕ} → at ≡ suc p → Chain nexts at p
  further : {at p : ℕ} (q : ℕ) → at ≡ suc q → Chain nexts (get_or nexts q 0) p → Chain nexts at p

-- Each pin is met from its source.
pub record Chains (C : Circuit) : Type 0 where
  pub nodes : C.inputs + C.gates ≤ length C.heads
  pub places : most_pins * C.gates ≤ length C.nexts
  pub low : (s : ℕ) → s < C.inputs + C.gates → get_or C.heads s 0 ≤ most_pins * C.gates
  pub falls : (p : ℕ) → p < most_pins * C.gates → get_or C.nexts p 0 ≤ p
  pub all : (g j : ℕ) → g < C.gates → j < get_or C.pins g 0 → Chain C.nexts (get_or C.heads (get_or C.sources (most_pins * g + j) 0) 0) (most_pins * g + j)
