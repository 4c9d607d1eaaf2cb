-- Definitions: what the functions of the walk promise.
use Rattle.std.specs.Prelude.{◌≡◌, Bool, List, [], ◌∷◌, ◌++◌, ℕ, ◌+◌, ◌*◌, ◌≤◌, ◌<◌, length, get_or, drop, Result, IfOk}
use Rattle.limits.specs.Limits.{depth_room, most_pins}
use Rattle.refusals.specs.declared.Refusal.{Refusal}
use Rattle.net_model.specs.Arrays.{stride}
use Rattle.cover_records.specs.CoverBytes.{luts_reader}
use Rattle.cover_records.specs.Held.{Held, luts_in}
use Rattle.cover_reader.specs.declared.Rows.{Rows}
use Rattle.cover_rows.specs.declared.Row.{Row}
use Rattle.cover_rows.specs.LutParts.{Shallow, row_entry}
use Rattle.net_bytes.specs.Reading.{got}
use Rattle.net_fields.specs.Outcomes.{onward}

-- the places of LUT i of n: its leaves' nodes and their d
abbrev pub nodes_of : ℕ → ℕ → ℕ
nodes_of n i = 2 * n + most_pins * i

abbrev pub backs_of : ℕ → ℕ → ℕ
backs_of n i = (2 + most_pins) * n + most_pins * i

-- the arrays are the lent ones, and as long
pub record Same (old new : Rows) : Type 0 where
  pub rows : new.rows.ghost_name ≡ old.rows.ghost_name
  pub lags : new.lags.ghost_name ≡ old.lags.ghost_name
  pub tables : new.tables.ghost_name ≡ old.tables.ghost_name
  pub rows_long : length new.rows.now ≡ length old.rows.now
  pub lags_long : length new.lags.now ≡ length old.lags.now
  pub tables_long : length new.tables.now ≡ length old.tables.now

-- a row stands at the places of LUT i of n, and those of the LUTs below it are as before
pub record RowStored (n i : ℕ) (row : Row) (old new : List ℕ) : Type 0 where
  pub root : get_or new i 0 ≡ row.root
  pub size : get_or new (n + i) 0 ≡ row.size
  pub node : (j : ℕ) → j < most_pins → get_or new (nodes_of n i + j) 0 ≡ get_or row.nodes j 0
  pub back : (j : ℕ) → j < most_pins → get_or new (backs_of n i + j) 0 ≡ get_or row.backs j 0
  pub roots : (j : ℕ) → j < i → get_or new j 0 ≡ get_or old j 0
  pub sizes : (j : ℕ) → j < i → get_or new (n + j) 0 ≡ get_or old (n + j) 0
  pub nodes : (m : ℕ) → m < most_pins * i → get_or new (2 * n + m) 0 ≡ get_or old (2 * n + m) 0
  pub backs : (m : ℕ) → m < most_pins * i → get_or new ((2 + most_pins) * n + m) 0 ≡ get_or old ((2 + most_pins) * n + m) 0
  pub long : length new ≡ length old

-- none of the first i LUTs has more leaves than there are places
abbrev pub Narrow : Held → ℕ → Type 0
Narrow a i = (j : ℕ) → j < i → get_or a.sizes j 0 ≤ stride

-- the d's of the first i LUTs are of two bytes
abbrev pub Flat : Held → ℕ → Type 0
Flat a i = (m : ℕ) → m < stride * i → get_or a.backs m 0 < depth_room

-- LUT i is stored behind the LUTs below it, which stay
pub record LutStored (i : ℕ) (row : Row) (old new : Held) : Type 0 where
  pub luts : luts_in new (i + 1) ≡ luts_in old i ++ (row_entry row ∷ [])
  pub few : Narrow new (i + 1)
  pub small : Flat old i → Shallow row.backs → Flat new (i + 1)

-- all n LUTs are read and stored
pub record LutsRead (two : Bool) (s : List ℕ) (at nodes k I n : ℕ) (a : Held) (r : Result ℕ Refusal) : Type 0 where
  pub result : luts_reader two nodes k n I (drop at s) ≡ onward (λ end. got (luts_in a n) (drop end s)) r
  pub small : IfOk r (λ end. Flat a n)
