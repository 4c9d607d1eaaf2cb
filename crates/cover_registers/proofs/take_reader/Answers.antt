use lib.IntN.{pos, ◌+ℤ◌, ◌-ℤ◌}
use Rattle.cover_records.specs.Kept.{entries_in}
use Rattle.cover_records.specs.Listing.{lag_in}
use Rattle.cover_tally.specs.TallyLaws.{took_up}
use Rattle.cover_registers.specs.Counting.{marking}
use Rattle.cover_registers.specs.RegisterCountLaws.{moved-counted}
use Rattle.cover_registers.proofs.take_reader.Goals as goal

pub returns : goal.returns
returns c =
    let start = c in
    let s = c.args in
    let p = c.requires.d_lt_depth_room in
    let es = entries_in (marking s.k.head.inputs s.k.head.gates s.k.head.period s.k.labels.now s.k.rows.now) in
    took_up s.u ((pos s.d +ℤ s.own) -ℤ lag_in es s.u) c.counted-number.result
    (moved-counted s.d p.1 c.lag_at-other.ensures c.moved.ensures p.0 c.counted-number.result c.counted-number.ensures)
    c.take.ensures
