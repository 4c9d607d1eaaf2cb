-- Definitions: the walk's answer as the reader's result.
use Rattle.std.specs.Prelude.{List, [], ℕ, drop, Result}
use Rattle.net_model.specs.Net.{Net}
use Rattle.net_model.specs.Arrays.{Arrays, net_in}
use Rattle.net_model.specs.PackedNet.{packed_net}
use Rattle.refusals.specs.declared.Refusal.{Refusal}
use Rattle.net_bytes.specs.Reading.{Result as Outcome, got}
use Rattle.net_bytes.specs.Walk.{Drawn, drawn}
use Rattle.net_fields.specs.Outcomes.{onward}
use Rattle.net_reader.specs.declared.NetSizes.{NetSizes}
use Rattle.net_reader.specs.declared.DrawnRead.{DrawnRead}

-- the arrays of a net of these sizes in the slices
abbrev pub arrays_of : NetSizes → List ℕ → List ℕ → Arrays
arrays_of s net tables = packed_net s.inputs s.gates s.outputs net tables

-- the net and its section, which stands from its place to the end, and no byte left, or the number of the refusal
abbrev pub drawn_of : Result DrawnRead Refusal → List ℕ → List ℕ → List ℕ → Outcome Drawn
drawn_of r net tables bytes = onward (λ d. got (drawn (net_in (arrays_of d.sizes net tables)) (drop d.at bytes)) []) r

-- the net and no byte left, or the number of the refusal
abbrev pub result_of : Result NetSizes Refusal → List ℕ → List ℕ → Outcome Net
result_of r net tables = onward (λ z. got (net_in (arrays_of z net tables)) []) r
