-- Definitions: what the writer asks of a cover kept in arrays, and what it means that bytes were written into an area.
use Rattle.std.specs.Prelude.{◌≡◌, false, List, ◌++◌, map, ℕ, zero, suc, ◌+◌, ◌*◌, ◌≤◌, ◌<◌, ℤ, pos, length, get_or}
use Rattle.limits.specs.Courses.{long}
use Rattle.limits.specs.Limits.{depth_room}
use Rattle.integers.specs.Lag.{lag}
use Rattle.net_model.specs.Arrays.{stride, copies_from}
use Rattle.net_model.specs.Copies.{Copy}
use Rattle.net_model.specs.Tables.{as_number}
use Rattle.net_bytes.specs.Walk.{table_bytes}
use Rattle.cover_theory.specs.Key.{Entry}
use Rattle.cover_records.specs.CoverBytes.{to_bytes, not_zero, depths, lag_bytes, lut_bytes, all_lut_bytes, cover_bytes}
use Rattle.cover_records.specs.Kept.{Kept, entries_from, entries_in}
use Rattle.cover_records.specs.Outcomes.{written}
use Rattle.cover_records.specs.RoundTrip.{SmallLag}
use Rattle.signed.specs.Range.{Small}

-- ---- what is asked

-- the arrays are long enough, and the period, every root and the number of LUTs are bytes
pub record ArraysHeld (a : Kept) : Type 0 where
  pub marks : a.gates ≤ length a.marks
  pub sizes : a.gates ≤ length a.sizes
  pub tables : a.gates ≤ length a.tables
  pub nodes : stride * a.gates ≤ length a.nodes
  pub backs : stride * a.gates ≤ length a.backs
  pub labels : a.inputs + a.gates ≤ length a.labels
  pub least : 1 ≤ a.period
  pub period : a.period < 256
  pub roots : a.inputs + a.gates ≤ 256
  pub luts : a.gates < 256

-- the numbers of n places, from place `at` on, are below a limit
pub record Below (limit : ℕ) (numbers : List ℕ) (at n : ℕ) : Type 0 where
  pub each : (j : ℕ) → j < n → get_or numbers (at + j) 0 < limit

-- the LUT of gate g: at most six leaves, each node a byte and each d two, and a lag that a signed byte holds
pub record LutHeld (a : Kept) (g : ℕ) : Type 0 where
  pub few : get_or a.sizes g 0 ≤ stride
  pub nodes : Below 256 a.nodes (stride * g) (get_or a.sizes g 0)
  pub backs : Below depth_room a.backs (stride * g) (get_or a.sizes g 0)
  pub label : Small (get_or a.labels (a.inputs + g) (pos 0))
  pub small_lag : SmallLag false (lag a.period (get_or a.labels (a.inputs + g) (pos 0)))

pub record LutsHeld (a : Kept) : Type 0 where
  pub each : (g : ℕ) → g < a.gates → (get_or a.marks g 0 ≡ 0 → ⊥) → LutHeld a g

-- the cover can be written, and its record is no longer than the area
pub record Writable (a : Kept) (area : List ℕ) : Type 0 where
  pub arrays : ArraysHeld a
  pub luts : LutsHeld a
  pub room : length (cover_bytes long a.period (entries_in a)) ≤ length area

-- ---- what is told

-- the bytes stand in front, the rest is kept, and r is their number
pub record Wrote (bytes before after : List ℕ) (r : ℕ) : Type 0 where
  pub count : r ≡ length bytes
  pub area : after ≡ written bytes before

-- ---- parts of a LUT

-- the leaves' nodes, then their d's
unfoldable pub leaf_bytes : List Copy → List ℕ
leaf_bytes L = map (λ (y : Copy). y.node) L ++ depths L

-- the lag, then the table of a LUT with n leaves
unfoldable pub value_bytes : ℤ → ℕ → ℕ → List ℕ
value_bytes lag n table = lag_bytes false lag ++ to_bytes (table_bytes n) table

pub record LeavesAsked (nodes backs : List ℕ) (at n : ℕ) (area : List ℕ) : Type 0 where
  pub nodes_held : at + n ≤ length nodes
  pub backs_held : at + n ≤ length backs
  pub nodes_small : Below 256 nodes at n
  pub backs_small : Below depth_room backs at n
  pub room : length (leaf_bytes (copies_from nodes backs at n)) ≤ length area

abbrev pub lut_of : ℕ → List ℕ → List ℕ → ℕ → ℕ → ℤ → ℕ → Entry
lut_of root nodes backs at n lag table = record { root = root; leaves = copies_from nodes backs at n; lag = lag; table = table }

pub record LutAsked (root : ℕ) (nodes backs : List ℕ) (at n : ℕ) (lag : ℤ) (table : ℕ) (area : List ℕ) : Type 0 where
  pub byte : root < 256
  pub few : n ≤ stride
  pub nodes_held : at + n ≤ length nodes
  pub backs_held : at + n ≤ length backs
  pub nodes_small : Below 256 nodes at n
  pub backs_small : Below depth_room backs at n
  pub small_lag : SmallLag false lag
  pub room : length (lut_bytes false (lut_of root nodes backs at n lag table)) ≤ length area

-- ---- parts of the cover

-- the bytes of the LUT of gate g, none where it has no LUT
unfoldable pub bytes_at : Kept → ℕ → List ℕ
bytes_at a g = all_lut_bytes false (entries_from a g 1)

-- gate g of the arrays, and room for its LUT
pub record GateAsked (a : Kept) (g : ℕ) (area : List ℕ) : Type 0 where
  pub arrays : ArraysHeld a
  pub luts : LutsHeld a
  pub gate : g < a.gates
  pub room : length (bytes_at a g) ≤ length area

pub record LutsAsked (a : Kept) (area : List ℕ) : Type 0 where
  pub arrays : ArraysHeld a
  pub luts : LutsHeld a
  pub room : length (all_lut_bytes false (entries_in a)) ≤ length area

-- the marks of n gates that are not 0
unfoldable pub marked : List ℕ → ℕ → ℕ
marked marks zero = 0
marked marks (suc n) = as_number (not_zero (get_or marks n 0)) + marked marks n
