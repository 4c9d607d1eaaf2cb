use Prim.Native.Nat.{◌+◌, ◌-◌, ◌*◌}
use native.Mathlib.Omega.{arith}
use lib.ListN.{get_or}
use Rattle.limits.specs.Limits.{most_nodes}
use Rattle.cover_writer.specs.BytesBehind.{wrote_none, wrote-next}
use Rattle.cover_contents.specs.CellLaws.{cells-none, cells-more}
use Rattle.cover_contents.proofs.write_cells.Goals as goal

pub loop-j-init : goal.loop-j-init
loop-j-init c =
    let s = c.args in
    rw (cells-none s.trace.now s.u s.top) (wrote_none s.area.now)

pub loop-j-preserved : goal.loop-j-preserved
loop-j-preserved c =
    let s = c.args in
    let l = c.loop-j in
    let q = c.requires.n_in_bounds in
    let more = wrote-next (get_or s.trace.now (most_nodes * (s.top - (l.j + 1)) + s.u) 0) (omega (arith, q)) l.invariant in
    rw (cells-more s.trace.now s.u s.top l.j) at more
