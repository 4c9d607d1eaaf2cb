-- Definitions: whether gate g has a LUT in a stored cover record (document 02, E1), by a reading that stops.
use Rattle.std.specs.Prelude.{Bool, cond, List, ℕ, zero, suc, ◌-◌, ltb, eqb, length}
use Rattle.limits.specs.Courses.{long}
use Rattle.limits.specs.Limits.{most_k}
use Rattle.limits.specs.declared.Rules.{Rules}
use Rattle.net_bytes.specs.Reading.{Result, Reader, and_then, got, refused}
use Rattle.cover_records.specs.CoverBytes.{root_reader, lut_body, behind_front}

-- yes, with the place of the root's first byte; no; or the number of a refusal
pub data Lookup : Type 0 where
  found : ℕ → Lookup
  absent : Lookup
  turned_back : ℕ → Lookup

-- "whatever nodes a net has": every number of two bytes may be a node
abbrev pub any_node : ℕ
any_node = 65536

-- n LUTs of a record of `total` bytes, the first root at least `least`. "Roots rise, so reading may stop at the first root not below g": the root is read, and nothing behind it.
-- "13's layout is read with leaf counts 1..6, roots rising and leaves rising by node, then d".
unfoldable pub look_luts : Bool → ℕ → ℕ → ℕ → ℕ → Reader Lookup
look_luts w total g zero least s = got absent s
look_luts w total g (suc n) least s =
    and_then (root_reader w any_node least s) (λ root behind. cond (ltb root g)
    (and_then (lut_body w any_node most_k root behind) (λ e after. look_luts w total g n (suc root) after))
    (got (cond (eqb root g) (found (total - length s)) absent) behind))

-- Period and LUT count stand before any stop.
unfoldable pub look_reader : Rules → ℕ → ℕ → Reader Lookup
unfolding look_luts
look_reader R total g = behind_front R λ period n. look_luts R.wide total g n 0

-- "Answers: 19, the bytes end or break that layout before that stop, or the last LUT's end if none."
abbrev pub told : Result Lookup → Lookup
told (got a rest) = a
told (refused n) = turned_back 19

unfoldable pub look_up : Rules → ℕ → List ℕ → Lookup
unfolding look_reader
look_up R g bytes = told (look_reader R (length bytes) g bytes)

-- The answer for every gate and every record: every number of a record is one byte.
abbrev pub find_root : ℕ → List ℕ → Lookup
find_root g bytes = look_up long g bytes
