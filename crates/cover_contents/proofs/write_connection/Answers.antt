use mathlib.Core.Path.{ap, ◌∙◌}
use native.Mathlib.Omega.{arith}
use lib.IntN.{pos, ◌+ℤ◌, ◌-ℤ◌}
use Rattle.cover_records.specs.Kept.{entries_in}
use Rattle.cover_records.specs.Listing.{lag_in}
use Rattle.cover_registers.specs.Counting.{marking}
use Rattle.cover_registers.specs.RegisterCountLaws.{told, moved-counted}
use Rattle.cover_contents.specs.Traces.{samples_to}
use Rattle.cover_contents.specs.CellLaws.{connection-asks, connection-wrote}
use Rattle.cover_contents.proofs.write_connection.Goals as goal

pub write_cells-requires : goal.write_cells-requires
write_cells-requires c =
    let counted = c.counted-n in
    let lag-at = c.lag_at-other in
    let s = c.args in
    let p = c.requires in
    let es = entries_in (marking s.k.head.inputs s.k.head.gates s.k.head.period s.k.labels.now s.k.rows.now) in
    let parts = connection-asks s.trace.now es s.u ((pos s.d +ℤ s.own) -ℤ lag_in es s.u)
    (moved-counted s.d p.d_lt_depth_room.1 lag-at.ensures c.moved.ensures p.d_lt_depth_room.0 counted.result counted.ensures)
    (c.samples_to.ensures ∙ ap samples_to (told (omega arith) lag-at.ensures)) {area = s.area.now} p.cells_asked in
    record { u_lt_most_nodes = parts.0; n_in_bounds = parts.1 }

pub returns : goal.returns
returns c =
    let counted = c.counted-n in
    let lag-at = c.lag_at-other in
    let s = c.args in
    let p = c.requires in
    let es = entries_in (marking s.k.head.inputs s.k.head.gates s.k.head.period s.k.labels.now s.k.rows.now) in
    connection-wrote s.trace.now es s.u ((pos s.d +ℤ s.own) -ℤ lag_in es s.u)
    (moved-counted s.d p.d_lt_depth_room.1 lag-at.ensures c.moved.ensures p.d_lt_depth_room.0 counted.result counted.ensures)
    (c.samples_to.ensures ∙ ap samples_to (told (omega arith) lag-at.ensures)) c.write_cells.ensures
