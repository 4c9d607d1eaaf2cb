use mathlib.Core.Path.{◌≡◌}
use native.Mathlib.Omega.{arith}
use Rattle.cover_records.specs.Rows.{kept_in}
use Rattle.cover_writer.specs.Writing.{bytes_at}
use Rattle.cover_writer.specs.BytesBehind.{wrote_none, wrote-behind, room-behind}
use Rattle.cover_writer.specs.CoverBytesLaws.{bytes-none, bytes_next, bytes-all, room_next}
use Rattle.cover_writer.proofs.write_luts.Goals as goal

pub loop-g-init : goal.loop-g-init
loop-g-init c = rw (bytes-none (kept_in c.args.k.head.inputs c.args.k.head.gates c.args.k.head.period c.args.k.labels.now c.args.k.rows.now c.args.tables.now)) (wrote_none c.args.area.now)

pub write_gate-at-requires : goal.write_gate-at-requires
write_gate-at-requires c = let p = c.requires.luts_asked in
    record {
      gate_asked = record {
        arrays = p.arrays;
        luts = p.luts;
        gate = omega arith;
        room = room-behind (bytes_at (kept_in c.args.k.head.inputs c.args.k.head.gates c.args.k.head.period c.args.k.labels.now c.args.k.rows.now c.args.tables.now) c.loop-g.g) c.loop-g.invariant
            (room_next c.loop-g.g (omega arith) p);
      };
      gates_in_bounds = c.requires.gates_in_bounds;
    }

pub loop-g-preserved : goal.loop-g-preserved
loop-g-preserved c =
    rw (bytes_next (kept_in c.args.k.head.inputs c.args.k.head.gates c.args.k.head.period c.args.k.labels.now c.args.k.rows.now c.args.tables.now) c.loop-g.g)
    (wrote-behind c.loop-g.invariant c.write_gate-at.ensures)

pub returns : goal.returns
returns c =
    let e : c.loop-g.g ≡ c.args.k.head.gates = omega arith in
    rw (← bytes-all (kept_in c.args.k.head.inputs c.args.k.head.gates c.args.k.head.period c.args.k.labels.now c.args.k.rows.now c.args.tables.now)) (rw e at c.loop-g.invariant)
