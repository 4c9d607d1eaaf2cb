use Rattle.std.proofs.Common.{sym, get_or, arith}
use Rattle.net_model.specs.Copies.{copy}
use Rattle.cone_leaves.proofs.ArrayLookup.{array_first}
use Rattle.cone_descent.specs.DescentStepLaws.{meet-leaf, meet-input, meet-beyond, meet-full, meet-fresh}
use Rattle.cone_descent.proofs.meet.Goals as goal

pub returns-in-Some : goal.returns-in-Some
returns-in-Some c =
    let a = c.args in
    let y = copy a.node a.back in
    let first = array_first a.leaves.nodes.now a.leaves.backs.now a.leaves.len y c.requires.0.rising (sym c.in-Some.ensures.1) in
    meet-leaf a.q.inputs a.q.border a.q.room a.size a.leaves.nodes.now a.leaves.backs.now a.leaves.len y (get_or a.marks.now a.at 0) a.seen.now c.in-Some.leaf first c.in-Some.ensures.0

pub returns-then-node-q : goal.returns-then-node-q
returns-then-node-q c =
    let a = c.args in
    let y = copy a.node a.back in
    let first = array_first a.leaves.nodes.now a.leaves.backs.now a.leaves.len y c.requires.0.rising (sym c.in_default.ensures) in
    meet-input a.q.inputs a.q.border a.q.room a.size a.leaves.nodes.now a.leaves.backs.now a.leaves.len y (get_or a.marks.now a.at 0) a.seen.now a.leaves.len first
    (omega arith) (omega arith)

pub returns-then-q-back : goal.returns-then-q-back
returns-then-q-back c =
    let a = c.args in
    let y = copy a.node a.back in
    let first = array_first a.leaves.nodes.now a.leaves.backs.now a.leaves.len y c.requires.0.rising (sym c.in_default.ensures) in
    meet-beyond a.q.inputs a.q.border a.q.room a.size a.leaves.nodes.now a.leaves.backs.now a.leaves.len y (get_or a.marks.now a.at 0) a.seen.now a.leaves.len first
    (omega arith) (omega arith) (omega arith)

pub returns-then-q-size : goal.returns-then-q-size
returns-then-q-size c =
    let a = c.args in
    let y = copy a.node a.back in
    let first = array_first a.leaves.nodes.now a.leaves.backs.now a.leaves.len y c.requires.0.rising (sym c.in_default.ensures) in
    meet-full a.q.inputs a.q.border a.q.room a.size a.leaves.nodes.now a.leaves.backs.now a.leaves.len y (get_or a.marks.now a.at 0) a.seen.now a.leaves.len first
    (omega arith) (omega arith) c.if-marks-at-ne0.false (omega arith)

pub returns : goal.returns
returns c =
    let a = c.args in
    let y = copy a.node a.back in
    let first = array_first a.leaves.nodes.now a.leaves.backs.now a.leaves.len y c.requires.0.rising (sym c.in_default.ensures) in
    meet-fresh a.q.inputs a.q.border a.q.room a.size a.leaves.nodes.now a.leaves.backs.now a.leaves.len y (get_or a.marks.now a.at 0) a.seen.now a.leaves.len first
    (omega arith) (omega arith) (omega arith) c.if-marks-at-ne0.false (omega arith)
