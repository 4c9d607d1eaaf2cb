-- Definitions: slices with room for a net.
use Rattle.std.specs.Prelude.{List, ℕ, ◌≤◌, length}
use Rattle.limits.specs.Limits.{most_inputs, most_outputs}
use Rattle.limits.specs.declared.Rules.{Rules}
use Rattle.net_model.specs.PackedNet.{packed_room}
use Rattle.net_reader.specs.declared.NetSizes.{NetSizes}

-- room for a net of these sizes
pub record NetRoom (s : NetSizes) (net tables : List ℕ) : Type 0 where
  pub packed : packed_room s.inputs s.gates s.outputs ≤ length net
  pub tabled : s.gates ≤ length tables

-- room for every net under the rules
pub record ReadRoom (R : Rules) (net tables : List ℕ) : Type 0 where
  pub packed : packed_room most_inputs R.gates most_outputs ≤ length net
  pub tabled : R.gates ≤ length tables
