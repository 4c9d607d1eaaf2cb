use Rattle.std.proofs.Common.{sym, arith}
use Rattle.net_model.specs.Copies.{copy}
use Rattle.cone_leaves.proofs.ArrayLookup.{array_here, array_stop, array_end}
use Rattle.cone_leaves.proofs.seek.Goals as goal

pub compare-requires : goal.compare-requires
compare-requires c = c.requires.there c.loop-j.j c.loop-j-test.true (λ i h. (c.loop-j.invariant i h).1)

pub returns-in-Equal : goal.returns-in-Equal
returns-in-Equal c =
    let a = c.args in
    (c.loop-j-test.true, sym (array_here a.leaf_nodes.now a.leaf_backs.now a.n (copy a.node a.back) c.loop-j.j c.loop-j-test.true c.in-Equal.ensures c.loop-j.invariant))

pub returns-in-Greater : goal.returns-in-Greater
returns-in-Greater c =
    let a = c.args in
    sym (array_stop a.leaf_nodes.now a.leaf_backs.now a.n (copy a.node a.back) c.loop-j.j c.loop-j-test.true c.in-Greater.ensures c.loop-j.invariant)

pub returns : goal.returns
returns c =
    let a = c.args in
    sym (array_end a.leaf_nodes.now a.leaf_backs.now a.n (copy a.node a.back) c.loop-j.j (omega arith) c.loop-j.invariant)
