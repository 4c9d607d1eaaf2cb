-- Definitions: what a cover record takes at most under some rules, and rules that give room for every written cover.
use Rattle.std.specs.Prelude.{Bool, cond, ℕ, ◌+◌, ◌*◌, ◌≤◌, ◌<◌}
use Rattle.limits.specs.Limits.{depth_room, most_count, most_depth_bytes, most_items, most_k, most_pins}
use Rattle.limits.specs.declared.Rules.{Rules}
use Rattle.net_bytes.specs.Short.{number_bytes}
use Rattle.cover_records.specs.CoverBytes.{half_range}

-- bytes of a LUT at most: root, leaf count and map; a node and a d for each leaf; a lag and a table
abbrev pub lut_room : Bool → ℕ
lut_room w = number_bytes w + (2 + (most_pins * number_bytes w + (most_pins * most_depth_bytes + (number_bytes w + most_items))))

-- bytes before the first LUT: what stands before the period, the period, the LUT count
abbrev pub head_room : Bool → ℕ
head_room w = cond w 1 0 + (number_bytes w + number_bytes w)

-- bytes of a record with so many LUTs at most: "At most 962 bytes."
abbrev pub record_bytes : Rules → ℕ
record_bytes R = head_room R.wide + R.luts * lut_room R.wide

-- room for every written cover: a LUT for each gate, the cover area, lags and d's
pub record Roomy (R : Rules) : Type 0 where
  pub luts : R.gates ≤ R.luts
  pub area : record_bytes R ≤ R.area
  pub lag : R.gates * most_count < half_range R.wide
  pub depth : most_k * (R.gates * most_count) < depth_room
