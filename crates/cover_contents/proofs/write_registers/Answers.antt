use mathlib.Core.Path.{sym}
use mathlib.Core.List.{List, []}
use Prim.Native.Nat.{ℕ, ◌+◌, ◌-◌, ◌≤◌}
use native.Mathlib.Nat.{zero-add}
use native.Mathlib.Omega.{arith}
use lib.IntN.{pos}
use lib.ListN.{length}
use borrow.Rule.Slice.PartMut.{mid_of}
use Rattle.limits.specs.Limits.{depth_room}
use Rattle.net_model.specs.Arrays.{copies_from, pins_in}
use Rattle.net_model.specs.PackedNet.{outs_at, delays_at}
use Rattle.net_model.specs.PackedNetLaws.{length_part}
use Rattle.net_checks.specs.Graphs.{outs_of, delays_of}
use Rattle.net_checks.specs.Parts.{two-parts, two-wholes}
use Rattle.cover_records.specs.Kept.{entries_from}
use Rattle.cover_records.specs.Listing.{leaf_taps, lut_taps, output_taps}
use Rattle.cover_records.specs.Rows.{kept_in}
use Rattle.cover_writer.specs.Writing.{Below, Wrote}
use Rattle.cover_registers.specs.Counting.{lags_of}
use Rattle.cover_registers.specs.RegisterCountLaws.{within-pos}
use Rattle.cover_registers.specs.LagLaws.{all_taps, outputs-leaves}
use Rattle.cover_contents.specs.Traces.{tap_cells, CellsAsked}
use Rattle.cover_contents.specs.CellLaws.{asked-same, wrote-same, first-asks, second-asks, second-wrote}
use Rattle.cover_contents.proofs.write_registers.Goals as goal

pub write_luts-at-requires : goal.write_luts-at-requires
write_luts-at-requires c =
    let s = c.args in
    let p = c.requires.registers_asked in
    let a = kept_in s.k.head.inputs s.k.head.gates s.k.head.period s.k.labels.now s.k.rows.now [] in
    let es = lags_of a in
    let luts = lut_taps es (entries_from a 0 s.k.head.gates) in
    let outs = output_taps es (pins_in (outs_of s.z s.net.now) (delays_of s.z s.net.now) 0 s.z.outputs) in
    let q = asked-same s.trace.now es (sym (all_taps a (outs_of s.z s.net.now) (delays_of s.z s.net.now) s.z.outputs)) p.cells in
    record { leaves_held = p.leaves; gates_in_bounds = c.requires.gates_in_bounds; cells_asked = first-asks s.trace.now es luts outs q }

pub write_leaves-requires : goal.write_leaves-requires
write_leaves-requires c =
    let write-luts = c.write_luts-at in
    let s = c.args in
    let p = c.requires.registers_asked in
    let a = kept_in s.k.head.inputs s.k.head.gates s.k.head.period s.k.labels.now s.k.rows.now [] in
    let es = lags_of a in
    let luts = lut_taps es (entries_from a 0 s.k.head.gates) in
    let outs = output_taps es (pins_in (outs_of s.z s.net.now) (delays_of s.z s.net.now) 0 s.z.outputs) in
    let q = asked-same s.trace.now es (sym (all_taps a (outs_of s.z s.net.now) (delays_of s.z s.net.now) s.z.outputs)) p.cells in
    let n = s.z.outputs in
    let parts =
    two-parts
    (λ (os oc : List ℕ). ((0 + n ≤ length os) × (0 + n ≤ length oc)) × (Below depth_room oc 0 n × CellsAsked s.trace.now es (leaf_taps es (pos 0) (copies_from os oc 0 n)) (mid_of write-luts.result (length write-luts.new.area - write-luts.result) write-luts.new.area)))
    s.net.now (outs_at s.z.inputs s.z.gates) (delays_at s.z.inputs s.z.gates n) (
      (rw (zero-add n) (length_part s.net.now (outs_at s.z.inputs s.z.gates) n (omega (arith, p.packed))), rw (zero-add n) (length_part s.net.now (delays_at s.z.inputs s.z.gates n) n p.packed)),
      (p.delays, asked-same s.trace.now es (sym (outputs-leaves es (outs_of s.z s.net.now) (delays_of s.z s.net.now) 0 n)) (second-asks s.trace.now es luts outs q write-luts.ensures)),
    ) in
    record {
      lags_held = p.leaves.lags;
      n_in_bounds = rw (c.outs_at-a.ensures, c.delays_at-b.ensures) parts.0;
      below = (rw c.delays_at-b.ensures parts.1.0, within-pos 0 128 (omega arith));
      cells_asked = rw (c.outs_at-a.ensures, c.delays_at-b.ensures) parts.1.1;
    }

pub returns : goal.returns
returns c =
    let write-luts = c.write_luts-at in
    let s = c.args in
    let p = c.requires.registers_asked in
    let a = kept_in s.k.head.inputs s.k.head.gates s.k.head.period s.k.labels.now s.k.rows.now [] in
    let es = lags_of a in
    let luts = lut_taps es (entries_from a 0 s.k.head.gates) in
    let outs = output_taps es (pins_in (outs_of s.z s.net.now) (delays_of s.z s.net.now) 0 s.z.outputs) in
    let q = asked-same s.trace.now es (sym (all_taps a (outs_of s.z s.net.now) (delays_of s.z s.net.now) s.z.outputs)) p.cells in
    let n = s.z.outputs in
    let last = c.write_leaves in
    let v = two-wholes
    (λ (os oc : List ℕ). Wrote (tap_cells s.trace.now es (leaf_taps es (pos 0) (copies_from os oc 0 n))) (mid_of write-luts.result (length write-luts.new.area - write-luts.result) write-luts.new.area) last.new.area last.result)
    s.net.now (outs_at s.z.inputs s.z.gates) (delays_at s.z.inputs s.z.gates n) (rw (c.outs_at-a.ensures, c.delays_at-b.ensures) at last.ensures) in
    (wrote-same s.trace.now es (all_taps a (outs_of s.z s.net.now) (delays_of s.z s.net.now) n) (second-wrote s.trace.now es luts outs q write-luts.ensures (wrote-same s.trace.now es (outputs-leaves es (outs_of s.z s.net.now) (delays_of s.z s.net.now) 0 n) v))).area
