-- Definitions: document 01's limits and the sizes that follow from them, in one place. The constants of src/lib.rt are the same numbers for the programs.
use Rattle.std.specs.Prelude.{ℕ, suc, ◌+◌, ◌*◌, ◌/◌, ◌^◌}

-- "I is 1..16, G 1..32, outputs O 1..16. k is 2..6. ... w 0..3."
abbrev pub most_inputs : ℕ
most_inputs = 16

abbrev pub most_gates : ℕ
most_gates = 32

abbrev pub most_outputs : ℕ
most_outputs = 16

abbrev pub least_k : ℕ
least_k = 2

abbrev pub most_k : ℕ
most_k = 6

abbrev pub most_count : ℕ
most_count = 3

-- "The target is above 32"; a candidate's "period outside 1..32, LUT count outside 1..32"
abbrev pub most_period : ℕ
most_period = 32

abbrev pub most_luts : ℕ
most_luts = 32

-- "The cover area is under 962 bytes (map only) or the scratch is under 65,536."
abbrev pub cover_area : ℕ
cover_area = 962

abbrev pub scratch_area : ℕ
scratch_area = 65536

-- document 02, E4: "20, a lent loader area is under 256 bytes"
abbrev pub loader_area : ℕ
loader_area = 256

-- document 02, E6: "3, a lent contents area is under 20,592 bytes"
abbrev pub contents_area : ℕ
contents_area = 20592

-- document 02, E8: "nets of at most 8 gates and k at most 4"
abbrev pub short_gates : ℕ
short_gates = 8

abbrev pub short_k : ℕ
short_k = 4

-- document 02, E5: "for 65,535 steps at most"
abbrev pub most_steps : ℕ
most_steps = 65535

-- ---- what follows

-- pins of a gate, "bits 0..5" of its map, and leaves of a LUT; also the places for them in arrays
abbrev pub most_pins : ℕ
most_pins = 6

-- bytes of the longest table, 2^mostPins bits; also the places for what is read of one field of a gate or a LUT
abbrev pub most_items : ℕ
most_items = 2 ^ most_pins / 8

-- nodes of a net
abbrev pub most_nodes : ℕ
most_nodes = most_inputs + most_gates

-- places for the pins of all gates, and for the leaves of all LUTs
abbrev pub most_places : ℕ
most_places = most_pins * most_gates

abbrev pub most_rows : ℕ
most_rows = (2 + 2 * most_pins) * most_luts

-- a k-cut's cone: "so at most 192 copies", and no d above 576
abbrev pub most_copies : ℕ
most_copies = most_k * most_gates

abbrev pub most_reach : ℕ
most_reach = most_k * (most_gates * most_count)

-- a lag: "always within −96..96"
abbrev pub most_lag : ℕ
most_lag = most_gates * most_count

-- the table of the minimum cut: a byte a copy u:d, where d may go beyond the border by the registers of a pin
abbrev pub most_beyond : ℕ
most_beyond = suc most_count

abbrev pub most_table : ℕ
most_table = most_nodes * (most_reach + most_beyond)

-- the search of a unit, with at most mostK of them there: the list of the copies touched and the stack, behind their lengths; the forced copies by gate, their
-- numbers and places for them; the arrays of a net in one slice
abbrev pub most_list : ℕ
most_list = 63 * most_gates + 7

abbrev pub most_stack : ℕ
most_stack = 28 * most_gates + 7

abbrev pub most_held : ℕ
most_held = suc most_k * most_gates

abbrev pub most_packed : ℕ
most_packed = (4 + 3 * most_pins) * most_gates + most_nodes + 2 * most_outputs

-- "for each bit its d, two bytes": a stored d is below
abbrev pub depth_room : ℕ
depth_room = 65536

-- bytes of a net record: three numbers; a gate's two maps, sources, counts and table; an output's map, source and count; a section of a byte a node
abbrev pub most_gate_bytes : ℕ
most_gate_bytes = 2 + (most_pins + (most_pins + most_items))

abbrev pub most_output_bytes : ℕ
most_output_bytes = 3

abbrev pub most_net_bytes : ℕ
most_net_bytes = 3 + (most_gates * most_gate_bytes + most_outputs * most_output_bytes) + most_nodes

-- bytes of a LUT in a cover record: root, leaf count and map; a node and a d for each leaf; a lag and a table
abbrev pub most_depth_bytes : ℕ
most_depth_bytes = 2

abbrev pub most_lut_bytes : ℕ
most_lut_bytes = 3 + (most_pins + (most_pins * most_depth_bytes + (1 + most_items)))

-- bytes that the programs take from their input
abbrev pub input_room : ℕ
input_room = 65536

-- bytes for the listing: 86 for the first line and 361 for each LUT
abbrev pub text_room : ℕ
text_room = 12288

-- bytes that the bench takes from its input: k and a length, the longest net that it tells, two for each step
abbrev pub bench_input : ℕ
bench_input = 3 + 65535 + 2 * most_steps

-- bytes for its text: a digit for each output and a newline, for each step
abbrev pub bench_room : ℕ
bench_room = most_steps * suc most_outputs

-- bytes for a refusal or an excess
abbrev pub refusal_room : ℕ
refusal_room = 29

-- bytes for a line about a net read
abbrev pub line_room : ℕ
line_room = 68
