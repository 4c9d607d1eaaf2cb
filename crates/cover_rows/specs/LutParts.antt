-- Definitions: what the functions that read the front of a record and a LUT promise.
use Rattle.std.specs.Prelude.{◌≡◌, Bool, true, List, ◌++◌, ℕ, ◌/◌, ◌^◌, ◌≤◌, ◌<◌, length, drop, Result, IfOk}
use Rattle.limits.specs.declared.Rules.{Rules}
use Rattle.refusals.specs.declared.Refusal.{Refusal}
use Rattle.limits.specs.Limits.{most_items, most_pins}
use Rattle.net_model.specs.Arrays.{copies_from}
use Rattle.net_model.specs.Copies.{Copy}
use Rattle.cover_theory.specs.Key.{Entry}
use Rattle.net_fields.specs.ItemsRead.{number_room, Small}
use Rattle.net_fields.specs.declared.Read.{Read}
use Rattle.net_fields.specs.Outcomes.{outcome, onward}
use Rattle.cover_records.specs.CoverBytes.{leaves_from, lut_body, lut_reader}
use Rattle.cover_records.specs.LutStages.{from_map, from_leaves}
use Rattle.cover_records.specs.CoverStages.{front, front_reader}
use Rattle.cover_rows.specs.declared.Front as declared
use Rattle.cover_rows.specs.declared.Head.{Head}
use Rattle.cover_rows.specs.declared.SpreadSoFar.{SpreadSoFar}
use Rattle.cover_rows.specs.declared.Leaves.{Leaves}
use Rattle.cover_rows.specs.declared.Tail.{Tail}
use Rattle.cover_rows.specs.declared.Row.{Row}

-- the period and the LUT count are read
abbrev pub FrontRead : Rules → List ℕ → Result (Read declared.Front) Refusal → Type 0
FrontRead R s r = front_reader R s ≡ outcome (λ f. front f.period f.luts) s r

-- d's of two bytes
abbrev pub Shallow : List ℕ → Type 0
Shallow l = Small true l

-- the d's of the first i leaves are known, whatever the nodes
pub record Spreading (map : ℕ) (depths : List ℕ) (i : ℕ) (so : SpreadSoFar) : Type 0 where
  pub result : (us : List ℕ) → i ≤ length us
      → leaves_from map us depths ≡ copies_from us so.backs 0 i ++ leaves_from (map / 2 ^ i) (drop i us) (drop so.used depths)
  pub used : so.used ≤ i
  pub long : length so.backs ≡ most_items
  pub small : Shallow depths → Shallow so.backs

-- the d's of n leaves are known
pub record Spread (map n : ℕ) (depths r : List ℕ) : Type 0 where
  pub result : (us : List ℕ) → length us ≡ n → leaves_from map us depths ≡ copies_from us r 0 n
  pub small : Shallow depths → Shallow r

-- the leaf count and map are read: what stands behind the root is what the readers behind them make of it
pub record HeadRead (s : List ℕ) (at k : ℕ) (h : Result (Read Head) Refusal) : Type 0 where
  pub result : (w : Bool) (nodes root : ℕ) → lut_body w nodes k root (drop at s)
      ≡ onward (λ x. from_map w nodes root x.value.size x.value.map (drop x.at s)) h
  pub few : IfOk h (λ x. x.value.size ≤ most_pins)

-- the leaves are read
pub record LeavesRead (w : Bool) (s : List ℕ) (at nodes n map : ℕ) (l : Result (Read Leaves) Refusal) : Type 0 where
  pub result : (root : ℕ) → from_map w nodes root n map (drop at s)
      ≡ onward (λ x. from_leaves w root n map (copies_from x.value.nodes x.value.backs 0 n) (drop x.at s)) l
  pub small : IfOk l (λ x. Shallow x.value.backs)

-- the lag and the table are read
abbrev pub TailRead : Bool → List ℕ → ℕ → ℕ → ℕ → Result (Read Tail) Refusal → Type 0
TailRead w s at n map t =
    (root : ℕ) (L : List Copy) → from_leaves w root n map L (drop at s)
    ≡ outcome (λ x. record { root = root; leaves = L; lag = x.lag; table = x.table }) s t

-- the LUT of a row
abbrev pub row_entry : Row → Entry
row_entry r = record { root = r.root; leaves = copies_from r.nodes r.backs 0 r.size; lag = r.lag; table = r.table }

-- what a row keeps: at most six leaves, a root of one byte or two, d's of two
pub record RowKept (w : Bool) (r : Row) : Type 0 where
  pub few : r.size ≤ most_pins
  pub root : r.root < number_room w
  pub small : Shallow r.backs

-- what stands behind a root is read as a row
pub record BodyRead (w : Bool) (s : List ℕ) (at nodes k root : ℕ) (r : Result (Read Row) Refusal) : Type 0 where
  pub result : lut_body w nodes k root (drop at s) ≡ outcome row_entry s r
  pub keeps : IfOk r (λ x. RowKept w x.value)

-- a LUT is read as a row
pub record LutRead (w : Bool) (s : List ℕ) (at nodes k least : ℕ) (r : Result (Read Row) Refusal) : Type 0 where
  pub result : lut_reader w nodes k least (drop at s) ≡ outcome row_entry s r
  pub keeps : IfOk r (λ x. RowKept w x.value)
