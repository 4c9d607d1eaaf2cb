-- The walk under document 01's rules is document 01's text, every number one byte.
use Rattle.std.specs.Prelude.{◌≡◌, refl, List, ℕ, ◌+◌, leb, ltb}
use Rattle.std.specs.Int.Count.{ones}
use Rattle.limits.specs.Limits.{most_count, most_gates, most_outputs, most_pins}
use Rattle.limits.specs.Courses.{long}
use Rattle.net_model.specs.Net.{Net, Pin, Gate}
use Rattle.net_bytes.specs.Reading.{Reader, ◌>>=◌, give, check, times, between}
use Rattle.net_bytes.specs.Walk.{body_reader, gate_reader, output_reader, net_byte, only_bits, table_byte, table_bytes, pins_from, from_bytes, first}

-- "Gate: pin map, register map, one source byte per pin rising, one count byte 1..3 per register bit rising, table."
abbrev plain_gate : ℕ → ℕ → Reader Gate
plain_gate k nodes = do
  pin_map ← net_byte 6 (between 1 63)
  m ← check (leb (ones pin_map) k) 7 (ones pin_map)
  reg_map ← net_byte 6 (only_bits 8 pin_map)
  sources ← times m (net_byte 6 (λ b. ltb b nodes))
  counts ← times (ones reg_map) (net_byte 6 (between 1 most_count))
  table ← times (table_bytes m) (net_byte 6 (table_byte m))
  give (record { pins = pins_from most_pins 0 pin_map reg_map sources counts; table = from_bytes table })

-- "Output: map (0 or 1), source byte, and a count 1..3 if the map is 1."
abbrev plain_output : ℕ → Reader Pin
plain_output nodes = do
  map ← net_byte 6 (λ b. leb b 1)
  source ← net_byte 6 (λ b. ltb b nodes)
  counts ← times map (net_byte 6 (between 1 most_count))
  give (record { src = source; count = first counts })

-- "Net record, bytes: I, G, O; then the gates; then the outputs." behind I
abbrev plain_body : ℕ → ℕ → Reader Net
plain_body k inputs = do
  gates ← net_byte 5 (between 1 most_gates)
  outputs ← net_byte 5 (between 1 most_outputs)
  gate_list ← times gates (plain_gate k (inputs + gates))
  output_list ← times outputs (plain_output (inputs + gates))
  give (record { inputs = inputs; gates = gate_list; outputs = output_list })

pub body-long : (k inputs : ℕ) (s : List ℕ) → body_reader long k inputs s ≡ plain_body k inputs s
unfolding body_reader gate_reader output_reader
body-long k inputs s = refl
