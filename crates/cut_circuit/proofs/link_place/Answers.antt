use native.Mathlib.Omega.{arith}
use lib.ListN.{length-set}
use Rattle.cut_circuit.specs.PinLinksLaws.{place-node, place-skip, place-pin}
use Rattle.cut_circuit.proofs.link_place.Goals as goal

pub returns-then-net-g : goal.returns-then-net-g
returns-then-net-g c = place-skip c.requires c.if-net-g.true

pub overflow_add-head-2 : goal.overflow_add-head-2
overflow_add-head-2 c =
    let start = c in
    omega (arith, place-node c.requires c.if-net-g.false, c.requires.sizes.room, c.well_formed)

pub offset_bounds-net-head : goal.offset_bounds-net-head
offset_bounds-net-head c =
    let start = c in
    omega (arith, place-node c.requires c.if-net-g.false, c.requires.sizes.room, c.well_formed)

pub bounds-net-head : goal.bounds-net-head
bounds-net-head c =
    let start = c in
    omega (arith, place-node c.requires c.if-net-g.false, c.requires.sizes.room, c.well_formed)

pub offset_bounds-net-head-2 : goal.offset_bounds-net-head-2
offset_bounds-net-head-2 c =
    let start = c in
    omega (arith, place-node c.requires c.if-net-g.false, c.requires.sizes.room, c.well_formed)

pub bounds-net-head-2 : goal.bounds-net-head-2
bounds-net-head-2 c =
    let start = c in
    simp length-set (omega (arith, place-node c.requires c.if-net-g.false, c.requires.sizes.room))

pub returns : goal.returns
returns c = place-pin c.requires c.if-net-g.false
