use native.Mathlib.Omega.{arith}
use Rattle.sequences.specs.Behind.{length-behind}
use Rattle.cone_luts.specs.LutLaws.{nodes_from, backs_from, leaf_count, row-few, rising-row, tried_row}
use Rattle.cone_luts.proofs.try_row.Goals as goal

pub try_lut-requires : goal.try_lut-requires
try_lut-requires c = let start = c in
    let a = c.args in
    let p = c.requires.small_wires in
    let q = c.requires.gates_in_bounds in
    let f = row-few a.rows.now a.n a.i p.2 in
    record {
      small_wires = (
        p.0,
        p.1,
        f,
        length-behind a.rows.now (nodes_from a.rows.now a.n a.i) (leaf_count a.rows.now a.n a.i) (omega (arith, f, q.1, q.2)),
        length-behind a.rows.now (backs_from a.rows.now a.n a.i) (leaf_count a.rows.now a.n a.i) (omega (arith, f, q.1, q.2)),
        p.3,
        rising-row a.rows.now a.n a.i p.2,
      );
      most_table_in_bounds = c.requires.most_table_in_bounds;
    }

pub returns : goal.returns
returns c = let a = c.args in
    record { lut_tried = tried_row a.rows.now a.n a.i _ _ _ _ _ _ _ _ c.try_lut.ensures.lut_tried; clear = c.try_lut.ensures.clear }
