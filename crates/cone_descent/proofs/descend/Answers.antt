use Rattle.std.proofs.Common.{◌+◌, refl, sym, arith}
use Rattle.net_model.specs.Copies.{copy}
use Rattle.cone_leaves.proofs.ArrayLookup.{array_first}
use Rattle.cone_descent.specs.DescentTold.{start-turn, told_none, denied-root, told-some, told-all}
use Rattle.cone_descent.proofs.descend.Goals as goal

pub returns-in-Some : goal.returns-in-Some
returns-in-Some c =
    let a = c.args in
    let first = array_first a.leaf_nodes.now a.leaf_backs.now a.q.leaves (copy (a.q.inputs + a.q.gate) 0) c.requires.leaves.rising (sym c.in-Some.ensures.1) in
    told_none _ c.requires.clear (denied-root a.leaf_nodes.now a.leaf_backs.now a.q.leaves (a.q.inputs + a.q.gate) _ first c.in-Some.ensures.0)

pub run-requires : goal.run-requires
run-requires c =
    let a = c.args in
    let first = array_first a.leaf_nodes.now a.leaf_backs.now a.q.leaves (copy (a.q.inputs + a.q.gate) 0) c.requires.leaves.rising (sym c.in_default.ensures) in
    let e = c.push.ensures in
    start-turn c.requires a.q.leaves first (omega arith) e.0 e.1 e.2 e.3

pub returns-in_err-len : goal.returns-in_err-len
returns-in_err-len c = rw c.from_residual.ensures (told_none _ c.in_err-len.ensures.0 c.in_err-len.ensures.1)

pub returns-then-untouched : goal.returns-then-untouched
returns-then-untouched c =
    let u = c.untouched.ensures.holds c.if-untouched.true in
    told-some c.in_ok-len.ensures _ u.0 refl u.1 u.2 c.clear.ensures

pub returns : goal.returns
returns c = told-all c.in_ok-len.ensures refl (c.untouched.ensures.fails c.if-untouched.false)
