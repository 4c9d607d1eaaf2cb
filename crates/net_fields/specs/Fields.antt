-- Definitions: what each field of a net record and of a cover record allows, the refusal's number where it does not, and the readers of one byte and of one number of a field.
use Rattle.std.specs.Prelude.{Bool, not, ◌&&◌, ℕ, ◌%◌, leb, ltb, eqb}
use Rattle.limits.specs.Limits.{most_gates, most_outputs, most_count, most_period, most_luts, short_gates}
use Rattle.net_bytes.specs.Reading.{Reader, byte, number, between}
use Rattle.net_bytes.specs.Walk.{is_head, is_past, only_bits, table_byte}
use Rattle.net_fields.specs.declared.Field.{Field}
use Rattle.net_fields.specs.declared.Field.TheVariants.{Net, Cover}
use Rattle.net_fields.specs.declared.NetField.TheVariants.{Inputs, Outputs, PinMap, RegisterMap, Count, Table, OutputMap, Past}
use Rattle.net_fields.specs.declared.CoverField.TheVariants as cover
use Rattle.net_fields.specs.declared.NumberField.{NumberField}
use Rattle.net_fields.specs.declared.NumberField.TheVariants.{Gates, Source, Period, Luts, Root, Leaf, Depth, Lag, ShortGates}

abbrev pub allowed_of : Field → ℕ → Bool
allowed_of (Net Inputs) = is_head
allowed_of (Net Outputs) = between 1 most_outputs
allowed_of (Net PinMap) = between 1 63
allowed_of (Net (RegisterMap pins)) = only_bits 8 pins
allowed_of (Net Count) = between 1 most_count
allowed_of (Net (Table pins)) = table_byte pins
allowed_of (Net OutputMap) = λ b. leb b 1
allowed_of (Net Past) = is_past
allowed_of (Cover (cover.Size k)) = between 1 k
allowed_of (Cover (cover.Map maps)) = λ b. ltb b 128 && ltb (b % 64) maps
allowed_of (Cover (cover.Table leaves)) = table_byte leaves

abbrev pub refusal_of : Field → ℕ
refusal_of (Net Inputs) = 5
refusal_of (Net Outputs) = 5
refusal_of (Net PinMap) = 6
refusal_of (Net (RegisterMap pins)) = 6
refusal_of (Net Count) = 6
refusal_of (Net (Table pins)) = 6
refusal_of (Net OutputMap) = 6
refusal_of (Net Past) = 6
refusal_of (Cover f) = 13

-- where the bytes end: "4. The net ends where a byte is still due"; in a cover record every breach is 13
abbrev pub early_of : Field → ℕ
early_of (Net f) = 4
early_of (Cover f) = 13

-- one byte of a field
abbrev pub field_byte : Field → Reader ℕ
field_byte f = byte (early_of f) (refusal_of f) (allowed_of f)

-- ---- numbers, of one byte or two

abbrev pub allowed_number : NumberField → ℕ → Bool
allowed_number Gates = between 1 most_gates
allowed_number (Source nodes) = λ n. ltb n nodes
allowed_number Period = between 1 most_period
allowed_number Luts = between 1 most_luts
allowed_number (Root least nodes) = λ n. leb least n && ltb n nodes
allowed_number (Leaf nodes) = λ n. ltb n nodes
allowed_number Depth = λ n. not (eqb n 0)
allowed_number Lag = λ n. not (eqb n 0)
allowed_number ShortGates = between 1 short_gates

abbrev pub number_refusal : NumberField → ℕ
number_refusal Gates = 5
number_refusal (Source nodes) = 6
number_refusal Period = 13
number_refusal Luts = 13
number_refusal (Root least nodes) = 13
number_refusal (Leaf nodes) = 13
number_refusal Depth = 13
number_refusal Lag = 13
number_refusal ShortGates = 5

abbrev pub number_early : NumberField → ℕ
number_early Gates = 4
number_early (Source nodes) = 4
number_early Period = 13
number_early Luts = 13
number_early (Root least nodes) = 13
number_early (Leaf nodes) = 13
number_early Depth = 13
number_early Lag = 13
number_early ShortGates = 4

-- one number of a field
abbrev pub field_number : Bool → NumberField → Reader ℕ
field_number two f = number two (number_early f) (number_refusal f) (allowed_number f)
