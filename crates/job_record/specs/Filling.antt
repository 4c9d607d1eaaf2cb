-- Definitions: what the contents ask, where a contents area is lent.
use Rattle.std.specs.Prelude.{◌≡◌, List, ℕ, ◌≤◌, length}
use Rattle.limits.specs.Limits.{most_nodes}
use Rattle.cover_records.specs.Kept.{Kept}
use Rattle.net_reader.specs.declared.NetSizes.{NetSizes}
use Rattle.cover_contents.specs.Traces.{Contenting}

-- the run starts from a copy of the section
pub record Filling (z : NetSizes) (net tables section known : List ℕ) (a : Kept) (work contents : List ℕ) : Type 0 where
  pub short : length section ≤ most_nodes
  pub asks : ¬ (length contents ≡ 0) → Contenting z net tables section known a work contents
