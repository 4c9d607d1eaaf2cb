use mathlib.Core.Bool.{false}
use mathlib.Core.List.{List, ◌++◌}
use Prim.Native.Nat.{ℕ, ◌≤◌}
use native.Mathlib.Omega.{arith}
use lib.IntN.{ℤ}
use lib.ListN.{length, length-append}
use mir.Syntax.{w64}
use mir.Val.{to_z, of_z}
use Rattle.net_bytes.specs.Walk.{table_bytes}
use Rattle.cover_records.specs.CoverBytes.{lag_bytes, to_bytes}
use Rattle.cover_records.specs.RoundTrip.{length_to_bytes, SmallLag}
use Rattle.signed.specs.RangeLaws.{back}
use Rattle.cover_writer.specs.Writing.{Wrote, value_bytes}
use Rattle.cover_writer.specs.BytesBehind.{wrote-behind, room-behind}
use Rattle.cover_writer.specs.LagBytesLaws.{lag-fits}
use Rattle.cover_writer.specs.LutBytesLaws.{value-bytes}
use Rattle.cover_writer.proofs.write_values.Goals as goal

-- `cover_writer::write_values` meets its contract: the table stands behind the lag.
-- there is room for both parts, and for the first
both : (z : ℤ) (n t : ℕ) (area : List ℕ) → length (value_bytes z n t) ≤ length area → length (lag_bytes false z ++ to_bytes (table_bytes n) t) ≤ length area
both z n t area h = rw value-bytes at h

first : (z : ℤ) (n t : ℕ) (area : List ℕ) → length (value_bytes z n t) ≤ length area → length (lag_bytes false z) ≤ length area
first z n t area h = let l = both z n t area h in omega (arith, length-append (lag_bytes false z) (to_bytes (table_bytes n) t))

-- the lag as it was lent
stored : {z : ℤ} {before after : List ℕ} {r : ℕ} → SmallLag false z → Wrote (lag_bytes false (to_z w64 (of_z w64 z))) before after r → Wrote (lag_bytes false z) before after r
stored {z} s w = rw (back z (lag-fits s)) at w

pub write_lag-a-requires : goal.write_lag-a-requires
write_lag-a-requires c = let start = c in
    let z = c.args.lag in
    rw (back z (lag-fits c.requires.small_lag.0)) record { small_lag = c.requires.small_lag.0; lag_in_bounds = first z c.args.n c.args.table c.args.area.now c.requires.table_in_bounds }

pub write_table-requires : goal.write_table-requires
write_table-requires c =
    let start = c in
    let n = c.args.n in
    let t = c.args.table in
    let e = c.table_bytes-bytes.ensures.is in
    let l = length_to_bytes (table_bytes n) t in
    let h = room-behind (to_bytes (table_bytes n) t) (stored c.requires.small_lag.0 c.write_lag-a.ensures)
    (both c.args.lag n t c.args.area.now c.requires.table_in_bounds) in
    omega arith

pub returns : goal.returns
returns c =
    let start = c in
    rw (value-bytes c.args.lag c.args.n c.args.table)
    (wrote-behind (stored c.requires.small_lag.0 c.write_lag-a.ensures)
    (rw c.table_bytes-bytes.ensures.is at c.write_table.ensures))
