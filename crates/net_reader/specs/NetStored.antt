-- Definitions: what the functions of the walk ask and promise.
use Rattle.std.specs.Prelude.{◌≡◌, Bool, List, [], ◌∷◌, ◌++◌, ℕ, ◌+◌, ◌≤◌, ◌<◌, length, get_or, drop, set, Result, IfOk}
use Rattle.limits.specs.Limits.{most_inputs, most_outputs}
use Rattle.limits.specs.declared.Rules.{Rules}
use Rattle.refusals.specs.declared.Refusal.{Refusal}
use Rattle.net_model.specs.Net.{Gate, Pin}
use Rattle.net_model.specs.Arrays.{net_in, pins_in, gates_in, stride}
use Rattle.net_model.specs.PackedNet.{sources_at, counts_at, nexts_at, outs_at, delays_at}
use Rattle.net_bytes.specs.Reading.{times, got}
use Rattle.net_bytes.specs.Walk.{Head, head_reader, body_reader, gate_reader, output_reader}
use Rattle.net_bytes.specs.Stages.{from_sizes}
use Rattle.net_fields.specs.declared.Read.{Read}
use Rattle.net_fields.specs.Outcomes.{outcome, onward}
use Rattle.net_rows.specs.declared.GateRow.{GateRow}
use Rattle.net_rows.specs.RowParts.{row_gate}
use Rattle.net_reader.specs.declared.NetSizes.{NetSizes}
use Rattle.net_reader.specs.declared.NetHead.{NetHead}
use Rattle.net_reader.specs.declared.BodySizes.{BodySizes}
use Rattle.net_reader.specs.ReadAnswer.{arrays_of}

-- the first n gates of slices with places for so many
abbrev pub gates_of : ℕ → List ℕ → List ℕ → ℕ → List Gate
gates_of gates net tables n = gates_in net (drop (sources_at gates) net) (drop (counts_at gates) net) tables 0 n

-- the first n outputs
abbrev pub outputs_of : NetSizes → List ℕ → ℕ → List Pin
outputs_of s net n = pins_in (drop (outs_at s.inputs s.gates) net) (drop (delays_at s.inputs s.gates s.outputs) net) 0 n

-- none of the first g gates has more pins than there are places
abbrev pub Narrow : List ℕ → ℕ → Type 0
Narrow net g = (i : ℕ) → i < g → get_or net i 0 ≤ stride

-- a row can be stored as gate g
pub record GateAsked (net tables : List ℕ) (gates g : ℕ) (row : GateRow) : Type 0 where
  pub gate : g < gates
  pub room : nexts_at gates ≤ length net
  pub tabled : gates ≤ length tables
  pub most : row.pins ≤ stride
  pub few : Narrow net g

-- gate g is stored behind the gates below it, which stay
pub record GateStored (net tables : List ℕ) (gates g : ℕ) (row : GateRow) (net' tables' : List ℕ) : Type 0 where
  pub list : gates_of gates net' tables' (g + 1) ≡ gates_of gates net tables g ++ (row_gate row ∷ [])
  pub few : Narrow net' (g + 1)

-- all gates are read and stored
pub record GatesRead (wide : Bool) (s : List ℕ) (at k : ℕ) (z : NetSizes) (net tables : List ℕ) (r : Result ℕ Refusal) : Type 0 where
  pub result : times z.gates (gate_reader wide k (z.inputs + z.gates)) (drop at s) ≡ onward (λ end. got (gates_of z.gates net tables z.gates) (drop end s)) r
  pub few : IfOk r (λ end. Narrow net z.gates)

-- the slice with one more output
abbrev pub with_output : List ℕ → NetSizes → ℕ → ℕ → ℕ → List ℕ
with_output net s o source count = set (set net (outs_at s.inputs s.gates + o) source) (delays_at s.inputs s.gates s.outputs + o) count

-- all below the outputs stays
abbrev pub Below : NetSizes → List ℕ → List ℕ → Type 0
Below z net net' = (i : ℕ) → i < outs_at z.inputs z.gates → get_or net' i 0 ≡ get_or net i 0

-- all outputs are read and stored
pub record OutputsRead (wide : Bool) (s : List ℕ) (at : ℕ) (z : NetSizes) (net net' : List ℕ) (r : Result ℕ Refusal) : Type 0 where
  pub result : times z.outputs (output_reader wide (z.inputs + z.gates)) (drop at s) ≡ onward (λ end. got (outputs_of z net' z.outputs) (drop end s)) r
  pub below : Below z net net'

-- what the head says
abbrev pub head_in : NetHead → Head
head_in r = record { inputs = r.inputs; section = r.section }

-- the head is read
pub record HeadRead (s : List ℕ) (r : Result (Read NetHead) Refusal) : Type 0 where
  pub result : head_reader s ≡ outcome head_in s r
  pub inputs : IfOk r (λ x. x.value.inputs ≤ most_inputs)

-- the numbers of gates and outputs are read: the body is what the readers behind them make of it
pub record SizesRead (R : Rules) (s : List ℕ) (at : ℕ) (r : Result (Read BodySizes) Refusal) : Type 0 where
  pub result : (k i : ℕ) → body_reader R k i (drop at s) ≡ onward (λ x. from_sizes R.wide k i x.value.gates x.value.outputs (drop x.at s)) r
  pub gates : IfOk r (λ x. x.value.gates ≤ R.gates)
  pub outputs : IfOk r (λ x. x.value.outputs ≤ most_outputs)

-- the body is read and stored
pub record BodyRead (R : Rules) (s : List ℕ) (at k i : ℕ) (net tables : List ℕ) (r : Result (Read NetSizes) Refusal) : Type 0 where
  pub result : body_reader R k i (drop at s) ≡ outcome (λ z. net_in (arrays_of z net tables)) s r
  pub inputs : IfOk r (λ x. x.value.inputs ≤ most_inputs)
  pub gates : IfOk r (λ x. x.value.gates ≤ R.gates)
