use mathlib.Core.Path.{◌≡◌, ap, ap₂, ◌∙◌}
use mathlib.Core.Bool.{cond, false}
use mathlib.Core.List.{List, [], ◌++◌}
use Prim.Native.Nat.{ℕ, ◌≤◌, ◌<◌, ◌+◌}
use native.Mathlib.Omega.{arith}
use lib.IntN.{ℤ}
use lib.ListN.{length, length-append}
use mir.Syntax.{w64}
use mir.Val.{to_z, of_z}
use Rattle.net_model.specs.Arrays.{copies_from}
use Rattle.cover_records.specs.CoverBytes.{leaf_map, is_zero}
use Rattle.cover_records.specs.RoundTrip.{SmallLag}
use Rattle.signed.specs.RangeLaws.{back}
use Rattle.cover_writer.specs.Writing.{Wrote, LutAsked, leaf_bytes, value_bytes}
use Rattle.cover_writer.specs.BytesBehind.{wrote-behind, room-behind}
use Rattle.cover_writer.specs.LagBytesLaws.{lag-fits, flag_small}
use Rattle.cover_writer.specs.LutBytesLaws.{head_bytes, lut-bytes, map_below}
use Rattle.cover_writer.proofs.write_lut.Goals as goal

-- `cover_writer::write_lut` meets its contract: the leaves stand behind the first three bytes, and the lag and the table behind them.
-- the map
mapOf : List ℕ → ℕ → ℕ → ℤ → ℕ
mapOf backs at n lag = leaf_map (copies_from [] backs at n) + cond (is_zero lag) 0 64

module _ {root : ℕ} {nodes backs : List ℕ} {at n : ℕ} {lag : ℤ} {table : ℕ} {area : List ℕ} (p : LutAsked root nodes backs at n lag table area) where
  map-byte : mapOf backs at n lag < 256
  unfolding mapOf
  map-byte = let a = map_below [] backs at n p.few in let b = flag_small lag in omega arith

  mapped : {m f : ℕ} → m ≡ leaf_map (copies_from [] backs at n) → f ≡ cond (is_zero (to_z w64 (of_z w64 lag))) 0 64 → m + f ≡ mapOf backs at n lag
  unfolding mapOf
  mapped e g = ap₂ ◌+◌ e (g ∙ ap (λ (z : ℤ). cond (is_zero z) 0 64) (back lag (lag-fits p.small_lag)))

  -- the first three bytes, with the map as it is
  headed : {m f : ℕ} {after : List ℕ} {r : ℕ} → m ≡ leaf_map (copies_from [] backs at n) → f ≡ cond (is_zero (to_z w64 (of_z w64 lag))) 0 64
      → Wrote (head_bytes root n (m + f)) area after r → Wrote (head_bytes root n (mapOf backs at n lag)) area after r
  headed e g w = rw (mapped e g) at w

  -- there is room for all parts, and for the first ones
  three-parts : length ((head_bytes root n (mapOf backs at n lag) ++ leaf_bytes (copies_from nodes backs at n)) ++ value_bytes lag n table) ≤ length area
  unfolding mapOf
  three-parts = rw lut-bytes at p.room

  two : length (head_bytes root n (mapOf backs at n lag) ++ leaf_bytes (copies_from nodes backs at n)) ≤ length area
  two = let h = three-parts in omega (arith, length-append (head_bytes root n (mapOf backs at n lag) ++ leaf_bytes (copies_from nodes backs at n)) (value_bytes lag n table))

  three : 3 ≤ length area
  three = let h = two in omega (arith, length-append (head_bytes root n (mapOf backs at n lag)) (leaf_bytes (copies_from nodes backs at n)))

stored : {z : ℤ} (n t : ℕ) {before after : List ℕ} {r : ℕ} → SmallLag false z → Wrote (value_bytes (to_z w64 (of_z w64 z)) n t) before after r → Wrote (value_bytes z n t) before after r
stored {z} n t s w = rw (back z (lag-fits s)) at w

pub overflow_add-map : goal.overflow_add-map
overflow_add-map c =
    let start = c in
    let e = mapped c.requires c.leaf_map.ensures c.lag_flag.ensures in
    let h = map-byte c.requires in
    record { fits = omega arith }

pub write_head-a-requires : goal.write_head-a-requires
write_head-a-requires c = let p = c.requires in
    let e = mapped p c.leaf_map.ensures c.lag_flag.ensures in
    let h = map-byte p in
    let f = p.few in
    record { root_bound = (p.byte, omega arith, omega arith); in_bounds = three p }

pub write_leaves-requires : goal.write_leaves-requires
write_leaves-requires c =
    let start = c in
    let p = c.requires in
    let w = headed p c.leaf_map.ensures c.lag_flag.ensures
    c.write_head-a.ensures in
    record {
      nodes_held = p.nodes_held;
      backs_held = p.backs_held;
      nodes_small = p.nodes_small;
      backs_small = p.backs_small;
      room = room-behind (leaf_bytes (copies_from c.args.leaves.nodes.now c.args.leaves.backs.now c.args.leaves.at c.args.leaves.n)) w (two p);
    }

pub write_values-requires : goal.write_values-requires
write_values-requires c = let start = c in
    let p = c.requires in
    let w = headed p c.leaf_map.ensures
    c.lag_flag.ensures c.write_head-a.ensures
    in
    rw (back c.args.lag (lag-fits p.small_lag))
    record { small_lag = (p.small_lag, p.few); table_in_bounds = room-behind (value_bytes c.args.lag c.args.leaves.n c.args.table) (wrote-behind w c.write_leaves.ensures) (three-parts p) }

pub returns : goal.returns
unfolding mapOf
returns c =
    let start = c in
    let p = c.requires in
    let w = headed p c.leaf_map.ensures
    c.lag_flag.ensures
    c.write_head-a.ensures in
    rw (lut-bytes c.args.root c.args.leaves.nodes.now c.args.leaves.backs.now c.args.leaves.at c.args.leaves.n c.args.lag c.args.table)
    (wrote-behind (wrote-behind w c.write_leaves.ensures)
    (stored c.args.leaves.n c.args.table p.small_lag c.write_values.ensures))
