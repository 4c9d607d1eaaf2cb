use mathlib.Core.Path.{◌≡◌}
use mathlib.Core.Bool.{false}
use mathlib.Core.List.{List, [], ◌∷◌, ◌++◌}
use Prim.Native.Nat.{ℕ, ◌≤◌}
use native.Mathlib.Omega.{arith}
use lib.ListN.{length, length-append}
use Rattle.cover_records.specs.CoverBytes.{all_lut_bytes}
use Rattle.cover_records.specs.Kept.{Kept, entries_in}
use Rattle.cover_records.specs.Rows.{kept_in}
use Rattle.cover_writer.specs.Writing.{Writable, marked}
use Rattle.cover_writer.specs.BytesBehind.{wrote-behind, room-behind}
use Rattle.cover_writer.specs.CoverBytesLaws.{cover-bytes, marked_le}
use Rattle.cover_writer.proofs.write_cover.Goals as goal

-- `cover_writer::write_cover` meets its contract: the LUTs stand behind the period and their number.
-- there is room for both parts, and for the first
module _ (a : Kept) (count : ℕ) {area : List ℕ} (p : Writable a area) (e : count ≡ marked a.marks a.gates) where
  both : length ((a.period ∷ count ∷ []) ++ all_lut_bytes false (entries_in a)) ≤ length area
  both = rw (cover-bytes a count e) at p.room

  two : 2 ≤ length area
  two = let h = both in omega (arith, length-append (a.period ∷ count ∷ []) (all_lut_bytes false (entries_in a)))

pub write_front-at-requires : goal.write_front-at-requires
write_front-at-requires c = let start = c in
    let p = c.requires.writable in
    let h = p.arrays in
    let e = c.count_luts-count.ensures in
    let l = marked_le c.args.rows.now c.args.s.gates in
    record {
      period_bound = (h.period, omega arith);
      in_bounds = two (kept_in c.args.s.inputs c.args.s.gates c.args.s.period c.args.labels.now c.args.rows.now c.args.tables.now) c.count_luts-count.result p
          c.count_luts-count.ensures;
    }

pub write_luts-requires : goal.write_luts-requires
write_luts-requires c = let count-luts = c.count_luts-count in
    let start = c in
    let a = (kept_in c.args.s.inputs c.args.s.gates c.args.s.period c.args.labels.now c.args.rows.now c.args.tables.now) in
    let p = c.requires.writable in
    record {
      luts_asked = record {
        arrays = p.arrays;
        luts = p.luts;
        room = room-behind (all_lut_bytes false (entries_in a)) c.write_front-at.ensures (both a count-luts.result p count-luts.ensures);
      };
      gates_in_bounds = c.requires.gates_in_bounds;
    }

pub returns : goal.returns
returns c = let count-luts = c.count_luts-count in
    let start = c in
    let w = wrote-behind c.write_front-at.ensures c.write_luts.ensures in
    rw (cover-bytes (kept_in c.args.s.inputs c.args.s.gates c.args.s.period c.args.labels.now c.args.rows.now c.args.tables.now) count-luts.result count-luts.ensures) record { length = w.count; bytes = w.area }
