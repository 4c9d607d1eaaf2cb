-- Laws: the cover record under document 01's rules is document 01's text, every number one byte.
use Rattle.std.specs.Prelude.{◌≡◌, refl, true, false, cond, ◌&&◌, List, ◌∷◌, ◌++◌, map, ℕ, ◌+◌, ◌*◌, ◌/◌, ◌%◌, leb, ltb, length}
use Rattle.std.specs.Int.Count.{ones}
use Rattle.net_model.specs.Net.{Net, size}
use Rattle.net_model.specs.Copies.{Copy}
use Rattle.cover_theory.specs.Key.{Entry}
use Rattle.limits.specs.Courses.{long}
use Rattle.limits.specs.Limits.{most_period, most_luts}
use Rattle.net_bytes.specs.Reading.{Reader, ◌>>=◌, give, check, times, at_end, between}
use Rattle.net_bytes.specs.Walk.{table_bytes, table_byte, from_bytes, first}
use Rattle.cover_records.specs.CoverBytes.{to_bytes, not_zero, leaf_map, depths, is_zero, lag_bytes, lut_bytes, all_lut_bytes, cover_bytes, Record, cover_byte, from_signed, leaf_map_ok, depth_reader, leaves_from, rising_leaves, lut_body, lut_reader, luts_reader, cover_reader}

pub lut-bytes-long : (e : Entry) → lut_bytes false e
    ≡ e.root ∷ length e.leaves ∷ (leaf_map e.leaves + cond (is_zero e.lag) 0 64)
    ∷ map (λ (y : Copy). y.node) e.leaves ++ depths e.leaves ++ lag_bytes false e.lag ++ to_bytes (table_bytes (length e.leaves)) e.table
unfolding lut_bytes
lut-bytes-long e = refl

pub cover-bytes-long : (period : ℕ) (es : List Entry) → cover_bytes long period es ≡ period ∷ length es ∷ all_lut_bytes false es
unfolding cover_bytes
cover-bytes-long period es = refl

-- a stored d, two bytes
pub depth_text : Reader ℕ
depth_text = do
  low ← cover_byte (λ b. true)
  high ← cover_byte (λ b. true)
  check (not_zero (low + 256 * high)) 13 (low + 256 * high)

pub depth_as_said : depth_reader ≡ depth_text
unfolding depth_reader depth_text
depth_as_said = refl

pub lut_text : ℕ → ℕ → ℕ → Reader Entry
lut_text nodes k least = do
  root ← cover_byte (λ b. leb least b && ltb b nodes)
  n ← cover_byte (between 1 k)
  map ← cover_byte (leaf_map_ok n)
  us ← times n (cover_byte (λ b. ltb b nodes))
  ds ← times (ones (map % 64)) depth_reader
  leaves ← check (rising_leaves (leaves_from (map % 64) us ds)) 13 (leaves_from (map % 64) us ds)
  lags ← times (map / 64) (cover_byte not_zero)
  table ← times (table_bytes n) (cover_byte (table_byte n))
  give (record { root = root; leaves = leaves; lag = from_signed false (first lags); table = from_bytes table })

pub lut-long : (nodes k least : ℕ) → lut_reader false nodes k least ≡ lut_text nodes k least
unfolding lut_reader lut_body lut_text
lut-long nodes k least = refl

pub cover_text : Net → ℕ → Reader Record
cover_text N k = do
  period ← cover_byte (between 1 most_period)
  n ← cover_byte (between 1 most_luts)
  es ← luts_reader false (size N) k n N.inputs
  at_end 13 (record { period = period; entries = es })

pub cover-long : (N : Net) (k : ℕ) → cover_reader long N k ≡ cover_text N k
unfolding cover_reader cover_text
cover-long N k = refl
