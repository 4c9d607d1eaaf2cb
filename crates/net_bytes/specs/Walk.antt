-- Definitions: the net record (document 01, "The net") and the walk over it, under rules R, that gives the net or the first of the refusals 4 to 8.
use Rattle.std.specs.Prelude.{Bool, true, false, cond, not, ◌||◌, ◌&&◌, List, [], ◌∷◌, ℕ, zero, suc, ◌+◌, ◌-◌, ◌*◌, ◌/◌, ◌%◌, ◌^◌, leb, ltb, length}
use Rattle.std.specs.Int.Count.{ones}
use Rattle.net_model.specs.Net.{Net, Pin, Gate, size}
use Rattle.net_model.specs.Tables.{bit}
use Rattle.limits.specs.Limits.{most_count, most_inputs, most_outputs, most_pins}
use Rattle.limits.specs.declared.Rules.{Rules}
use Rattle.net_bytes.specs.Reading.{Result, Reader, ◌>>=◌, and_then, give, check, byte, number, times, at_end, between, got, refused}

-- each of the low n bits that r has, p has
abbrev pub only_bits : ℕ → ℕ → ℕ → Bool
only_bits zero p r = true
only_bits (suc n) p r = (not (bit r n) || bit p n) && only_bits n p r

-- "4. The net ends where a byte is still due", "6. A map, source, register count or table byte has a value its place forbids."
abbrev pub net_byte : ℕ → (ℕ → Bool) → Reader ℕ
net_byte = byte 4

-- G and node numbers: one byte each, two where the layout is wide
abbrev pub net_number : Bool → ℕ → (ℕ → Bool) → Reader ℕ
net_number wide = number wide 4

-- "With m pins the table has 2^m bits ... low byte first, at least one byte"
abbrev pub table_bytes : ℕ → ℕ
table_bytes m = (2 ^ m + 7) / 8

-- "spare bits 0": a table byte of m pins is below 2 to the number of its bits in use
abbrev pub table_byte : ℕ → ℕ → Bool
table_byte m b = ltb b (cond (ltb m 3) (2 ^ (2 ^ m)) 256)

-- bytes as one number, low first
unfoldable pub from_bytes : List ℕ → ℕ
from_bytes [] = 0
from_bytes (b ∷ bs) = b + 256 * from_bytes bs

abbrev pub first : List ℕ → ℕ
first [] = 0
first (a ∷ l) = a

abbrev pub rest : List ℕ → List ℕ
rest [] = []
rest (a ∷ l) = l

-- "one source byte per pin rising, one count byte 1..3 per register bit rising": the present pins among the n places from place j on.
unfoldable pub pins_from : ℕ → ℕ → ℕ → ℕ → List ℕ → List ℕ → List Pin
pins_from zero j pin_map reg_map sources counts = []
pins_from (suc n) j pin_map reg_map sources counts =
    let absent : List Pin = pins_from n (suc j) pin_map reg_map sources counts in
    let plain : List Pin = record { src = first sources; count = 0 } ∷ pins_from n (suc j) pin_map reg_map (rest sources) counts in
    let registered : List Pin = record { src = first sources; count = first counts } ∷ pins_from n (suc j) pin_map reg_map (rest sources) (rest counts) in
    cond (bit pin_map j) (cond (bit reg_map j) registered plain) absent

-- "Gate: pin map (bits 0..5, at least one; holes allowed; the number of pins is its count of ones), register map (only bits of the pin map), one source byte per pin
-- rising, one count byte 1..3 per register bit rising, table." 7 is "told after its pin map passed 6".
unfoldable pub gate_reader : Bool → ℕ → ℕ → Reader Gate
gate_reader wide k nodes = do
  pin_map ← net_byte 6 (between 1 63)
  m ← check (leb (ones pin_map) k) 7 (ones pin_map)
  reg_map ← net_byte 6 (only_bits 8 pin_map)
  sources ← times m (net_number wide 6 (λ b. ltb b nodes))
  counts ← times (ones reg_map) (net_byte 6 (between 1 most_count))
  table ← times (table_bytes m) (net_byte 6 (table_byte m))
  give (record { pins = pins_from most_pins 0 pin_map reg_map sources counts; table = from_bytes table })

-- "Output: map (0 or 1), source byte, and a count 1..3 if the map is 1."
unfoldable pub output_reader : Bool → ℕ → Reader Pin
output_reader wide nodes = do
  map ← net_byte 6 (λ b. leb b 1)
  source ← net_number wide 6 (λ b. ltb b nodes)
  counts ← times map (net_byte 6 (between 1 most_count))
  give (record { src = source; count = first counts })

-- "Net record, bytes: I, G, O; then the gates; then the outputs." The head is the first byte: I, and (document 02, E5) "Bit 7 of the first net byte now says that a
-- last section follows".
pub record Head : Type 0 where
  pub inputs : ℕ
  pub section : Bool

abbrev pub head_of : ℕ → Head
head_of b = record { inputs = b % 128; section = bit b 7 }

-- "Range tests read I without bit 7"
abbrev pub is_head : ℕ → Bool
is_head b = between 1 most_inputs (head_of b).inputs

abbrev pub head_reader : Reader Head
head_reader = net_byte 5 is_head >>= λ b. give (head_of b)

-- The body: G, O, the gates, the outputs.
unfoldable pub body_reader : Rules → ℕ → ℕ → Reader Net
body_reader R k inputs = do
  gates ← net_number R.wide 5 (between 1 R.gates)
  outputs ← net_byte 5 (between 1 most_outputs)
  gate_list ← times gates (gate_reader R.wide k (inputs + gates))
  output_list ← times outputs (output_reader R.wide (inputs + gates))
  give (record { inputs = inputs; gates = gate_list; outputs = output_list })

-- The section: "one byte per node"; "section bytes above 7 are 6".
abbrev pub is_past : ℕ → Bool
is_past b = leb b 7

abbrev pub section_reader : Bool → Net → Reader (List ℕ)
section_reader follows N = times (cond follows (size N) 0) (net_byte 6 is_past)

-- A net and its section; no byte where it has none.
pub record Drawn : Type 0 where
  pub net : Net
  pub section : List ℕ

abbrev pub drawn : Net → List ℕ → Drawn
drawn N section = record { net = N; section = section }

-- "8. Bytes follow the last output."; with a section "8 then means bytes behind it."
unfoldable pub drawn_reader : Rules → ℕ → Reader Drawn
unfolding body_reader
drawn_reader R k = do
  head ← head_reader
  net ← body_reader R k head.inputs
  section ← section_reader head.section net
  at_end 8 (drawn net section)

-- The net of a record; its section, where it has one, is walked over.
unfoldable pub net_reader : Rules → ℕ → Reader Net
unfolding drawn_reader
net_reader R k = do
  d ← drawn_reader R k
  give d.net
