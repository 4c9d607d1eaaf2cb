use Prim.Native.Nat.{◌<◌}
use native.Mathlib.Omega.{arith}
use lib.ListN.{length}
use Rattle.cover_writer.specs.BytesBehind.{wrote_none, wrote-behind, room-behind}
use Rattle.cover_image.specs.Images.{number_at}
use Rattle.cover_image.proofs.ImageLaws.{numbers-none, numbers-next, numbers-room}
use Rattle.cover_image.proofs.write_numbers.Goals as goal

pub loop-g-init : goal.loop-g-init
loop-g-init c =
    let a = c.args in
    rw (numbers-none a.marks.now a.luts.now) (wrote_none a.area.now)

pub write_number-at-requires : goal.write_number-at-requires
write_number-at-requires c = let a = c.args in
    let p = c.requires.gates_in_bounds in
    let h : c.loop-g.g < a.gates = omega arith in
    record { g_in_bounds = (omega (arith, p.0, h), omega (arith, p.1, h)); g_in_bounds_2 = room-behind (number_at a.marks.now a.luts.now c.loop-g.g) c.loop-g.invariant (numbers-room a.marks.now a.luts.now c.loop-g.g a.gates (length a.area.now) h c.requires.gates_in_bounds_2) }

pub loop-g-preserved : goal.loop-g-preserved
loop-g-preserved c =
    let a = c.args in
    rw (numbers-next a.marks.now a.luts.now c.loop-g.g) (wrote-behind c.loop-g.invariant c.write_number-at.ensures)
