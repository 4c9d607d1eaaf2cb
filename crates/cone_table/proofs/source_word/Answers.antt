use Rattle.std.proofs.Common.{refl, sym, arith}
use Rattle.net_model.specs.Copies.{copy}
use Rattle.cone_leaves.proofs.ArrayLookup.{array_first}
use Rattle.cone_descent.specs.Descent.{wide_most}
use Rattle.cone_table.specs.ConeWordsLaws.{carries-leaf, carries-copy, carries-none}
use Rattle.cone_table.proofs.source_word.Goals as goal

pub returns-in-Some : goal.returns-in-Some
returns-in-Some c =
    let a = c.args in
    let l = a.leaves in
    let k = a.cone in
    let y = copy a.node a.back in
    let first = array_first l.nodes.now l.backs.now l.len y c.requires.0.6 (sym c.in-Some.ensures.1) in
    carries-leaf l.nodes.now l.backs.now l.len k.nodes.now k.backs.now k.len a.words.now y c.in-Some.leaf c.leaf_word.result first c.in-Some.ensures.0 c.leaf_word.ensures

pub returns-in-Some-seat : goal.returns-in-Some-seat
returns-in-Some-seat c =
    let a = c.args in
    let l = a.leaves in
    let k = a.cone in
    let y = copy a.node a.back in
    let first = array_first l.nodes.now l.backs.now l.len y c.requires.0.6 (sym c.in_default.ensures) in
    let s = c.in-Some-seat.ensures in
    carries-copy l.nodes.now l.backs.now l.len k.nodes.now k.backs.now k.len a.words.now y l.len c.in-Some-seat.at first (omega arith) (s.1 wide_most refl c.requires.0.8) s.0

pub returns-in-None : goal.returns-in-None
returns-in-None c =
    let a = c.args in
    let l = a.leaves in
    let k = a.cone in
    let y = copy a.node a.back in
    let first = array_first l.nodes.now l.backs.now l.len y c.requires.0.6 (sym c.in_default.ensures) in
    carries-none l.nodes.now l.backs.now l.len k.nodes.now k.backs.now k.len a.words.now y l.len k.len 0 first (omega arith) (c.in-None.ensures wide_most refl c.requires.0.8) (omega arith)
