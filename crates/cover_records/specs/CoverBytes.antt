-- Definitions: the cover record (document 01, "Labels and the written cover"), written and read with check 13.
use Rattle.std.specs.Prelude.{Bool, true, false, cond, not, ◌||◌, ◌&&◌, List, [], ◌∷◌, ◌++◌, map, ℕ, zero, suc, ◌+◌, ◌-◌, ◌*◌, ◌/◌, ◌%◌, ◌^◌, leb, ltb, eqb, ℤ, pos, negsuc, length}
use Rattle.std.specs.Int.Count.{ones}
use Rattle.net_model.specs.Net.{Net, size}
use Rattle.net_model.specs.Copies.{Copy, copy}
use Rattle.net_model.specs.Tables.{bit, as_number}
use Rattle.cover_theory.specs.Key.{Entry}
use Rattle.limits.specs.declared.Rules.{Rules}
use Rattle.net_bytes.specs.Reading.{Result, Reader, ◌>>=◌, and_then, give, check, byte, number, times, at_end, between, got, refused}
use Rattle.net_bytes.specs.Walk.{table_bytes, table_byte, from_bytes, first, rest}

-- ---- written

-- n bytes of a number, low first
unfoldable pub to_bytes : ℕ → ℕ → List ℕ
to_bytes zero w = []
to_bytes (suc n) w = w % 256 ∷ to_bytes n (w / 256)

abbrev pub not_zero : ℕ → Bool
not_zero n = not (eqb n 0)

-- numbers of a record: a byte each, or two bytes each, low first
abbrev pub numbers_in : Bool → List ℕ → List ℕ
numbers_in false ns = ns
numbers_in true [] = []
numbers_in true (n ∷ ns) = n % 256 ∷ n / 256 ∷ numbers_in true ns

-- "bit j: leaf j has d not 0"
unfoldable pub leaf_map : List Copy → ℕ
leaf_map [] = 0
leaf_map (y ∷ L) = as_number (not_zero y.back) + 2 * leaf_map L

-- "for each bit its d, two bytes, low first"
unfoldable pub depths : List Copy → List ℕ
depths [] = []
depths (y ∷ L) = cond (not_zero y.back) (to_bytes 2 y.back ++ depths L) (depths L)

abbrev pub is_zero : ℤ → Bool
is_zero (pos zero) = true
is_zero (pos (suc n)) = false
is_zero (negsuc n) = false

-- the greatest number of one byte, or of two; the least that stands for a negative
abbrev pub all_ones : Bool → ℕ
all_ones w = cond w 65535 255

abbrev pub half_range : Bool → ℕ
half_range w = cond w 32768 128

-- "the lag, one signed byte"
abbrev pub signed_number : Bool → ℤ → ℕ
signed_number w (pos n) = n
signed_number w (negsuc n) = all_ones w - n

abbrev pub lag_bytes : Bool → ℤ → List ℕ
lag_bytes w z = cond (is_zero z) [] (numbers_in w (signed_number w z ∷ []))

-- "LUT: root; leaf count n; map (bit j: leaf j has d not 0; bit 6: lag not 0); n leaf nodes; for each bit its d, two bytes, low first; the lag, one signed byte; table as above."
unfoldable pub lut_bytes : Bool → Entry → List ℕ
lut_bytes w e =
    numbers_in w (e.root ∷ [])
    ++ (length e.leaves ∷ (leaf_map e.leaves + cond (is_zero e.lag) 0 64)
    ∷ numbers_in w (map (λ (y : Copy). y.node) e.leaves) ++ depths e.leaves ++ lag_bytes w e.lag ++ to_bytes (table_bytes (length e.leaves)) e.table)

unfoldable pub all_lut_bytes : Bool → List Entry → List ℕ
all_lut_bytes w [] = []
all_lut_bytes w (e ∷ es) = lut_bytes w e ++ all_lut_bytes w es

-- what stands before the period: nothing, or 255 where numbers take two bytes
abbrev pub lead_bytes : Bool → List ℕ
lead_bytes false = []
lead_bytes true = 255 ∷ []

-- "Cover record: period byte (the target, or the least period), LUT count, then LUTs by rising root"
unfoldable pub cover_bytes : Rules → ℕ → List Entry → List ℕ
cover_bytes R period es = lead_bytes R.wide ++ (numbers_in R.wide (period ∷ length es ∷ []) ++ all_lut_bytes R.wide es)

-- ---- read

-- what a record says: its period and its LUTs
pub record Record : Type 0 where
  pub period : ℕ
  pub entries : List Entry

-- "13. The candidate's record breaks the layout": every breach is 13, "early end" too.
abbrev pub cover_byte : (ℕ → Bool) → Reader ℕ
cover_byte = byte 13 13

-- a number of one byte, or of two
abbrev pub cover_number : Bool → (ℕ → Bool) → Reader ℕ
cover_number w = number w 13 13

abbrev pub from_signed : Bool → ℕ → ℤ
from_signed w b = cond (ltb b (half_range w)) (pos b) (negsuc (all_ones w - b))

-- "a map bit without its leaf or bit 7"
abbrev pub leaf_map_ok : ℕ → ℕ → Bool
leaf_map_ok n b = ltb b 128 && ltb (b % 64) (2 ^ n)

-- a stored d, two bytes, not 0
unfoldable pub depth_reader : Reader ℕ
depth_reader = cover_number true not_zero

-- the leaves from their nodes, the map and the stored d's
unfoldable pub leaves_from : ℕ → List ℕ → List ℕ → List Copy
leaves_from b [] ds = []
leaves_from b (u ∷ us) ds =
    let deep : List Copy = copy u (first ds) ∷ leaves_from (b / 2) us (rest ds) in
    let flat : List Copy = copy u 0 ∷ leaves_from (b / 2) us ds in
    cond (bit b 0) deep flat

abbrev pub before : Copy → Copy → Bool
before a b = ltb a.node b.node || (eqb a.node b.node && ltb a.back b.back)

-- "leaves not rising"
unfoldable pub rising_leaves : List Copy → Bool
rising_leaves [] = true
rising_leaves (a ∷ []) = true
rising_leaves (a ∷ b ∷ l) = before a b && rising_leaves (b ∷ l)

-- "roots not rising gates": the root is a gate, at least `least`.
abbrev pub root_reader : Bool → ℕ → ℕ → Reader ℕ
root_reader w nodes least = cover_number w (λ b. leb least b && ltb b nodes)

-- What stands behind a LUT's root: "leaf count outside 1..k, leaves not rising or not nodes, ... a stored d or lag of 0, spare table bits set".
unfoldable pub lut_body : Bool → ℕ → ℕ → ℕ → Reader Entry
lut_body w nodes k root = do
  n ← cover_byte (between 1 k)
  map ← cover_byte (leaf_map_ok n)
  us ← times n (cover_number w (λ b. ltb b nodes))
  ds ← times (ones (map % 64)) depth_reader
  leaves ← check (rising_leaves (leaves_from (map % 64) us ds)) 13 (leaves_from (map % 64) us ds)
  lags ← times (map / 64) (cover_number w not_zero)
  table ← times (table_bytes n) (cover_byte (table_byte n))
  give (record { root = root; leaves = leaves; lag = from_signed w (first lags); table = from_bytes table })

-- one LUT
unfoldable pub lut_reader : Bool → ℕ → ℕ → ℕ → Reader Entry
unfolding lut_body
lut_reader w nodes k least = root_reader w nodes least >>= lut_body w nodes k

-- n LUTs with rising roots, the first at least `least`
unfoldable pub luts_reader : Bool → ℕ → ℕ → ℕ → ℕ → Reader (List Entry)
unfolding lut_reader
luts_reader w nodes k zero least s = got [] s
luts_reader w nodes k (suc n) least s =
    and_then (lut_reader w nodes k least s) (λ e behind. and_then (luts_reader w nodes k n (suc e.root) behind) (λ es after. got (e ∷ es) after))

-- what stands before the period, 0 for nothing
abbrev pub lead_reader : Bool → Reader ℕ
lead_reader false = give 0
lead_reader true = cover_byte (λ b. eqb b 255)

-- what stands before the LUTs, "period outside 1..32, LUT count outside 1..32", then what is read behind it
abbrev pub behind_front : {A : Type 0} → Rules → (ℕ → ℕ → Reader A) → Reader A
behind_front R f = do
  lead ← lead_reader R.wide
  period ← cover_number R.wide (between 1 R.period)
  n ← cover_number R.wide (between 1 R.luts)
  f period n

-- "early end, bytes over, ... roots not rising gates"
unfoldable pub cover_reader : Rules → Net → ℕ → Reader Record
unfolding luts_reader
cover_reader R N k = behind_front R λ period n. do
  es ← luts_reader R.wide (size N) k n N.inputs
  at_end 13 (record { period = period; entries = es })
