-- Definitions: limits and layout as one value, and the values that are offered.
use Rattle.std.specs.Prelude.{true, false}
use Rattle.limits.specs.Limits.{most_gates, most_k, most_period, most_luts, cover_area, scratch_area, short_gates, short_k}
use Rattle.limits.specs.declared.Rules.{Rules}

-- Document 01's own: every number one byte, 32 gates, k up to 6, periods and LUT counts up to 32, areas of 962 and 65,536 bytes.
abbrev pub long : Rules
long = record { wide = false; gates = most_gates; most = most_k; period = most_period; luts = most_luts; area = cover_area; scratch = scratch_area }

-- "The one-week course uses nets of at most 8 gates and k at most 4": all else as above.
abbrev pub short : Rules
short = record { wide = false; gates = short_gates; most = short_k; period = most_period; luts = most_luts; area = cover_area; scratch = scratch_area }

-- The rules that are offered.
pub data Offered : Rules → Type 0 where
  is-long : Offered long
  is-short : Offered short
