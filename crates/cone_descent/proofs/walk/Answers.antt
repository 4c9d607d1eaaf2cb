use Rattle.cone_descent.specs.Owner.{walk_none, walk-cut}
use Rattle.cone_descent.proofs.walk.Goals as goal

pub returns-in_err-len : goal.returns-in_err-len
returns-in_err-len c =
    let a = c.args in
    rw c.from_residual.ensures (walk_none c.requires.0 a.leaf_nodes.now a.leaf_backs.now a.n a.g c.requires.1 c.in_err-len.ensures, c.in_err-len.ensures.clear)

pub returns : goal.returns
returns c =
    let a = c.args in
    let t = c.in_ok-len.ensures in
    (walk-cut c.requires.0 a.leaf_nodes.now a.leaf_backs.now a.n a.g t c.descend.auto.nodes c.descend.auto.backs, record { seated = t.seated; last = t.last })
