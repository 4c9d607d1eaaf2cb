-- Definitions: building the chains of the pins that read a node, place by place, in the slice of a net.
use Rattle.std.specs.Prelude.{◌≡◌, List, ℕ, ◌+◌, ◌*◌, ◌≤◌, ◌<◌, length, get_or, drop}
use Rattle.limits.specs.Limits.{most_pins}
use Rattle.net_model.specs.PackedNet.{sources_at, nexts_at, heads_at, Apart}
use Rattle.cut_circuit.specs.Chains.{Chain}

-- The slice holds the pins of so many gates, each reading one of so many nodes.
pub record LinkAsked (nodes gates : ℕ) (net : List ℕ) : Type 0 where
  pub room : heads_at gates + nodes ≤ length net
  pub few : (g : ℕ) → g < gates → get_or net g 0 ≤ most_pins
  pub node : (g j : ℕ) → g < gates → j < get_or net g 0 → get_or (drop (sources_at gates) net) (most_pins * g + j) 0 < nodes

-- The places below n are linked.
pub record Linked (nodes gates : ℕ) (pins sources heads nexts : List ℕ) (n : ℕ) : Type 0 where
  pub low : (s : ℕ) → s < nodes → get_or heads s 0 ≤ n
  pub falls : (p : ℕ) → p < n → get_or nexts p 0 ≤ p
  pub all : (g j : ℕ) → g < gates → j < get_or pins g 0 → most_pins * g + j < n → Chain nexts (get_or heads (get_or sources (most_pins * g + j) 0) 0) (most_pins * g + j)

abbrev pub LinkedIn : ℕ → ℕ → List ℕ → ℕ → Type 0
LinkedIn nodes gates net n = Linked nodes gates net (drop (sources_at gates) net) (drop (heads_at gates) net) (drop (nexts_at gates) net) n

-- What linking one place asks and tells.
pub record PlaceAsked (nodes gates : ℕ) (net : List ℕ) (p : ℕ) : Type 0 where
  pub sizes : LinkAsked nodes gates net
  pub linked : LinkedIn nodes gates net p
  pub below : p < most_pins * gates

pub record PlaceLinked (nodes gates : ℕ) (net net' : List ℕ) (p : ℕ) : Type 0 where
  pub linked : LinkedIn nodes gates net' (p + 1)
  pub apart : Apart (nexts_at gates) (heads_at gates + nodes) net net'

-- All places are linked; the rest of the slice stays.
pub record Links (nodes gates : ℕ) (net net' : List ℕ) : Type 0 where
  pub linked : LinkedIn nodes gates net' (most_pins * gates)
  pub apart : Apart (nexts_at gates) (heads_at gates + nodes) net net'

-- So many numbers from place `at` on are 0; the rest stays.
pub record Emptied (net net' : List ℕ) (at n : ℕ) : Type 0 where
  pub zero : (u : ℕ) → u < n → get_or net' (at + u) 0 ≡ 0
  pub apart : Apart at (at + n) net net'
