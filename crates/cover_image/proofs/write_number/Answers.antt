use native.Mathlib.Omega.{arith}
use lib.ListN.{get_or}
use Rattle.cover_records.specs.RoundTrip.{length_to_bytes}
use Rattle.cover_writer.specs.BytesBehind.{wrote_none}
use Rattle.cover_image.proofs.ImageLaws.{number-none, number-some}
use Rattle.cover_image.proofs.write_number.Goals as goal

pub returns-then-marks-g-eq0 : goal.returns-then-marks-g-eq0
returns-then-marks-g-eq0 c =
    let a = c.args in
    rw (number-none a.marks.now a.luts.now a.g c.if-marks-g-eq0.true) (wrote_none a.area.now)

pub write_table-requires : goal.write_table-requires
write_table-requires c =
    let a = c.args in
    let e = number-some a.marks.now a.luts.now a.g c.if-marks-g-eq0.false in
    let h = rw e at c.requires.g_in_bounds_2 in
    omega (arith, h, length_to_bytes 8 (get_or a.luts.now a.g 0))

pub returns : goal.returns
returns c =
    let a = c.args in
    rw (number-some a.marks.now a.luts.now a.g c.if-marks-g-eq0.false) c.write_table.ensures
