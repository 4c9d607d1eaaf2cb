-- The walk in stages: the same readers, each field with what comes behind it.
use Rattle.std.specs.Prelude.{◌≡◌, refl, Bool, List, [], ◌∷◌, ℕ, ◌+◌, leb, ltb}
use Rattle.std.specs.Int.Count.{ones}
use Rattle.net_model.specs.Net.{Net, Pin, Gate}
use Rattle.limits.specs.Limits.{most_count, most_outputs, most_pins}
use Rattle.limits.specs.declared.Rules.{Rules}
use Rattle.net_bytes.specs.Reading.{Reader, and_then, ◌>>=◌, give, check, times, at_end, between}
use Rattle.net_bytes.specs.Walk.{Head, Drawn, drawn, net_reader, drawn_reader, head_reader, body_reader, section_reader, gate_reader, output_reader, net_byte, net_number, only_bits, table_byte, table_bytes, pins_from, from_bytes, first}

abbrev pub made_gate : ℕ → ℕ → List ℕ → List ℕ → List ℕ → Gate
made_gate p r s c t = record { pins = pins_from most_pins 0 p r s c; table = from_bytes t }

abbrev pub from_table : ℕ → ℕ → List ℕ → List ℕ → List ℕ → Reader Gate
from_table p r s c t = give (made_gate p r s c t)

abbrev pub from_counts : ℕ → ℕ → ℕ → List ℕ → List ℕ → Reader Gate
from_counts m p r s c = times (table_bytes m) (net_byte 6 (table_byte m)) >>= from_table p r s c

abbrev pub from_sources : ℕ → ℕ → ℕ → List ℕ → Reader Gate
from_sources m p r s = times (ones r) (net_byte 6 (between 1 most_count)) >>= from_counts m p r s

abbrev pub from_maps : Bool → ℕ → ℕ → ℕ → ℕ → Reader Gate
from_maps wide nodes p m r = times m (net_number wide 6 (λ b. ltb b nodes)) >>= from_sources m p r

abbrev pub from_width : Bool → ℕ → ℕ → ℕ → Reader Gate
from_width wide nodes p m = net_byte 6 (only_bits 8 p) >>= from_maps wide nodes p m

abbrev pub from_pin_map : Bool → ℕ → ℕ → ℕ → Reader Gate
from_pin_map wide k nodes p = check (leb (ones p) k) 7 (ones p) >>= from_width wide nodes p

pub gate_stages : (wide : Bool) (k nodes : ℕ) (s : List ℕ) → gate_reader wide k nodes s ≡ and_then (net_byte 6 (between 1 63) s) (from_pin_map wide k nodes)
unfolding gate_reader
gate_stages wide k nodes s = refl

abbrev pub from_out_counts : ℕ → List ℕ → Reader Pin
from_out_counts source c = give (record { src = source; count = first c })

abbrev pub from_out_source : ℕ → ℕ → Reader Pin
from_out_source m source = times m (net_byte 6 (between 1 most_count)) >>= from_out_counts source

abbrev pub from_out_map : Bool → ℕ → ℕ → Reader Pin
from_out_map wide nodes m = net_number wide 6 (λ b. ltb b nodes) >>= from_out_source m

pub output_stages : (wide : Bool) (nodes : ℕ) (s : List ℕ) → output_reader wide nodes s ≡ and_then (net_byte 6 (λ b. leb b 1) s) (from_out_map wide nodes)
unfolding output_reader
output_stages wide nodes s = refl

abbrev pub from_output_list : ℕ → List Gate → List Pin → Reader Net
from_output_list i gs os = give (record { inputs = i; gates = gs; outputs = os })

abbrev pub from_gate_list : Bool → ℕ → ℕ → ℕ → List Gate → Reader Net
from_gate_list wide i g o gs = times o (output_reader wide (i + g)) >>= from_output_list i gs

abbrev pub from_sizes : Bool → ℕ → ℕ → ℕ → ℕ → Reader Net
from_sizes wide k i g o = times g (gate_reader wide k (i + g)) >>= from_gate_list wide i g o

abbrev pub from_gates : Bool → ℕ → ℕ → ℕ → Reader Net
from_gates wide k i g = net_byte 5 (between 1 most_outputs) >>= from_sizes wide k i g

pub body_stages : (R : Rules) (k i : ℕ) (s : List ℕ)
    → body_reader R k i s ≡ and_then (net_number R.wide 5 (between 1 R.gates) s) (from_gates R.wide k i)
unfolding body_reader
body_stages R k i s = refl

abbrev pub from_body : Bool → Net → Reader Drawn
from_body follows N = section_reader follows N >>= λ section. at_end 8 (drawn N section)

abbrev pub from_head : Rules → ℕ → Head → Reader Drawn
from_head R k head = body_reader R k head.inputs >>= from_body head.section

pub drawn_stages : (R : Rules) (k : ℕ) (s : List ℕ) → drawn_reader R k s ≡ and_then (head_reader s) (from_head R k)
unfolding drawn_reader
drawn_stages R k s = refl

abbrev pub net_of : Drawn → Reader Net
net_of d = give d.net

pub net_stages : (R : Rules) (k : ℕ) (s : List ℕ) → net_reader R k s ≡ and_then (drawn_reader R k s) net_of
unfolding net_reader
net_stages R k s = refl
