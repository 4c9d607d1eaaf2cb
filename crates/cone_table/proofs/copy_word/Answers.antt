use native.Mathlib.Omega.{arith}
use Rattle.cone_copies.specs.CopyListLaws.{place, member}
use Rattle.cone_table.proofs.copy_word.Goals as goal

pub overflow_sub-g : goal.overflow_sub-g
overflow_sub-g c =
    let start = c in
    let m = member c.args.cone.nodes.now c.args.cone.backs.now c.args.cone.len c.args.p c.requires.0.bounded c.requires.2 in
    m.low

pub gather-fed-requires : goal.gather-fed-requires
gather-fed-requires c =
    let start = c in
    let w = c.requires.0.wires in
    let r = c.requires.0.room in
    let m = member c.args.cone.nodes.now c.args.cone.backs.now c.args.cone.len c.args.p c.requires.0.bounded c.requires.2 in
    let g = m.gate in
    let d = w.gates in
    let n = m.near in
    let f = r.fits in
    let s = w.wires.sizes in (
      (
        c.requires.0.few,
        c.requires.0.leaf_nodes,
        c.requires.0.leaf_backs,
        let e = r.nodes in omega arith,
        let e = r.backs in omega arith,
        let e = c.requires.1 in
            omega arith,
        c.requires.0.rising,
        c.requires.0.space,
        λ q h. c.requires.0.marked q (omega (arith, h, c.requires.2)),
      ),
      λ j h. place _ j w g h,
      omega arith,
      w.wires.pins _ g,
      omega arith,
    )

pub bounds-s-g : goal.bounds-s-g
bounds-s-g c =
    let start = c in
    let w = c.requires.0.wires in
    let r = c.requires.0.room in
    let m = member c.args.cone.nodes.now c.args.cone.backs.now c.args.cone.len c.args.p c.requires.0.bounded c.requires.2 in
    let g = m.gate in
    let d = w.gates in
    let s = c.requires.0.tables in
    omega arith

pub bounds-s-g-2 : goal.bounds-s-g-2
bounds-s-g-2 c =
    let start = c in
    let w = c.requires.0.wires in
    let r = c.requires.0.room in
    let m = member c.args.cone.nodes.now c.args.cone.backs.now c.args.cone.len c.args.p c.requires.0.bounded c.requires.2 in
    let g = m.gate in
    let s = w.wires.sizes in
    omega arith
