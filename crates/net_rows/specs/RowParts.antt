-- Definitions: what the functions that read a row promise.
use Rattle.std.specs.Prelude.{◌≡◌, Bool, List, ◌++◌, ℕ, ◌-◌, ◌≤◌, ◌<◌, length, drop, Result, IfOk}
use Rattle.std.specs.Int.Count.{ones}
use Rattle.limits.specs.Limits.{most_items, most_pins}
use Rattle.refusals.specs.declared.Refusal.{Refusal}
use Rattle.net_model.specs.Net.{Gate, Pin}
use Rattle.net_model.specs.Arrays.{pins_in}
use Rattle.net_bytes.specs.Walk.{gate_reader, output_reader, pins_from}
use Rattle.net_bytes.specs.Stages.{from_maps, made_gate}
use Rattle.net_fields.specs.declared.Read.{Read}
use Rattle.net_fields.specs.Outcomes.{outcome, onward}
use Rattle.net_rows.specs.declared.Maps.{Maps}
use Rattle.net_rows.specs.declared.Lists.{Lists}
use Rattle.net_rows.specs.declared.SpreadSoFar.{SpreadSoFar}
use Rattle.net_rows.specs.declared.GateRow.{GateRow}
use Rattle.net_rows.specs.declared.OutputRow.{OutputRow}

-- the first i places of the maps are spread, whatever the sources
pub record Spreading (p r : ℕ) (counts : List ℕ) (i : ℕ) (so : SpreadSoFar) : Type 0 where
  pub result : (s : List ℕ) → pins_from most_pins 0 p r s counts ≡ pins_in s so.counts 0 so.pin ++ pins_from (most_pins - i) i p r (drop so.pin s) (drop so.used counts)
  pub pins : so.pin ≤ i
  pub used : so.used ≤ i
  pub long : length so.counts ≡ most_items

-- the maps are read: the gate is what the readers behind them make of it
pub record MapsRead (s : List ℕ) (at k : ℕ) (m : Result (Read Maps) Refusal) : Type 0 where
  pub result : (wide : Bool) (nodes : ℕ) → gate_reader wide k nodes (drop at s)
      ≡ onward (λ x. from_maps wide nodes x.value.pins (ones x.value.pins) x.value.registers (drop x.at s)) m
  pub small : IfOk m (λ x. x.value.pins < 64)

-- the lists behind the maps are read, zeros behind each
abbrev pub ListsRead : Bool → List ℕ → ℕ → ℕ → ℕ → ℕ → Result (Read Lists) Refusal → Type 0
ListsRead wide s at p r nodes l = from_maps wide nodes p (ones p) r (drop at s) ≡ outcome (λ x. made_gate p r x.sources x.counts x.table) s l

-- the gate of a row
abbrev pub row_gate : GateRow → Gate
row_gate g = record { pins = pins_in g.sources g.counts 0 g.pins; table = g.table }

-- a gate is read as a row
pub record GateRead (wide : Bool) (s : List ℕ) (at k nodes : ℕ) (g : Result (Read GateRow) Refusal) : Type 0 where
  pub result : gate_reader wide k nodes (drop at s) ≡ outcome row_gate s g
  pub most : IfOk g (λ x. x.value.pins ≤ most_pins)

-- the output of a row
abbrev pub row_pin : OutputRow → Pin
row_pin o = record { src = o.source; count = o.count }

-- an output is read
abbrev pub OutputRead : Bool → List ℕ → ℕ → ℕ → Result (Read OutputRow) Refusal → Type 0
OutputRead wide s at nodes o = output_reader wide nodes (drop at s) ≡ outcome row_pin s o
