-- Definitions: the largest counts of the gates, and their sum M.
use Rattle.std.specs.Prelude.{◌≡◌, List, ℕ, ◌+◌, ◌-◌, ◌*◌, ◌≤◌, ◌<◌, length, get_or, drop}
use Rattle.sequences.specs.Decide.{count-from}
use Rattle.sequences.specs.Sum.{sum}
use Rattle.net_model.specs.Net.{Net}
use Rattle.net_model.specs.Arrays.{stride}
use Rattle.net_model.specs.Wired.{Wired}
use Rattle.net_model.specs.PackedNet.{counts_at}
use Rattle.limits.specs.Limits.{most_beyond, most_count, most_gates, most_k}
use Rattle.net_reader.specs.declared.NetSizes.{NetSizes}
use Rattle.cut_circuit.specs.declared.Extent.{Extent}
use Rattle.cone_theory.specs.Reach.{most}

-- r is the largest of n counts from place `at` on
pub record MostCount (co : List ℕ) (at n r : ℕ) : Type 0 where
  pub above : (j : ℕ) → j < n → get_or co (at + j) 0 ≤ r
  pub least : (c : ℕ) → ((j : ℕ) → j < n → get_or co (at + j) 0 ≤ c) → r ≤ c

-- pins and counts of G gates
pub record Counted (G : ℕ) (ps co : List ℕ) : Type 0 where
  pub gates : G ≤ most_gates
  pub at_pins : G ≤ length ps
  pub at_counts : stride * G ≤ length co
  pub few : (g : ℕ) → g < G → get_or ps g 0 ≤ stride
  pub count : (g j : ℕ) → g < G → j < get_or ps g 0 → get_or co (stride * g + j) 0 ≤ most_count

-- r is the sum of the largest counts of the gates from g on, for every net with this wiring
pub record SumCounts (G : ℕ) (ps co : List ℕ) (g r : ℕ) : Type 0 where
  pub small : r ≤ most_count * (G - g)
  pub enough : (N : Net) (I : ℕ) (so : List ℕ) → Wired N I G ps so co → sum (most N) (count-from (I + g) (G - g)) ≤ r

-- pins and counts of a net in a slice, and k within the limits
pub record Extending (z : NetSizes) (net : List ℕ) (k : ℕ) : Type 0 where
  pub counted : Counted z.gates net (drop (counts_at z.gates) net)
  pub parts : counts_at z.gates ≤ length net
  pub high : k ≤ most_k

-- the extent of the circuit whose border is k times the sum
abbrev pub extent_by : NetSizes → ℕ → ℕ → Extent
extent_by z k m = record { inputs = z.inputs; gates = z.gates; width = k * m + most_beyond; border = k * m }

pub record ExtentOf (z : NetSizes) (net : List ℕ) (k : ℕ) (r : Extent) : Type 0 where
  pub most : ℕ
  pub sum : SumCounts z.gates net (drop (counts_at z.gates) net) 0 most
  pub is : r ≡ extent_by z k most
