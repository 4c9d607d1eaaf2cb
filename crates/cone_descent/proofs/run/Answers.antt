use mathlib.Core.Path.{◌∙◌}
use native.Mathlib.Omega.{arith}
use Rattle.cone_descent.specs.DescentStepLaws.{top_below, top-table, top-pin, run_moved, run-denied, run-left, work-left}
use Rattle.cone_descent.specs.DescentTold.{list-table, stack_table, told-stop}
use Rattle.cone_descent.proofs.run.Goals as goal

pub advance-next-requires : goal.advance-next-requires
advance-next-requires c =
    let t = c.loop-depth.invariant.0 in
    (t.leaves, top-pin t (omega arith) c.if-stack-top.true)

pub clear-requires : goal.clear-requires
clear-requires c =
    let t = c.loop-depth.invariant.0 in
    let k = c.advance-next.auto in
    let y = c.advance-next.ensures.long in
    let r = run-denied t (omega arith) c.advance-next.result _ _ _ _ _ c.if-stack-top.true c.advance-next.ensures.moved y.nodes y.backs y.turns k.marks k.seen c.in-None.is in
    (omega (arith, r.turn.fits, r.turn.list_nodes), omega (arith, r.turn.fits, r.turn.list_backs), list-table r)

pub close-requires : goal.close-requires
close-requires c =
    let t = c.loop-depth.invariant.0 in
    let k = c.advance-next.auto in
    let y = c.advance-next.ensures.long in
    let r = run-denied t (omega arith) c.advance-next.result _ _ _ _ _ c.if-stack-top.true c.advance-next.ensures.moved y.nodes y.backs y.turns k.marks k.seen c.in-None.is in
    (omega (arith, r.turn.fits, r.turn.nodes), omega (arith, r.turn.fits, r.turn.backs), λ p h. omega (arith, stack_table r p h, c.clear.auto.marks))

pub returns-in-None : goal.returns-in-None
returns-in-None c =
    let t = c.loop-depth.invariant.0 in
    let k = c.advance-next.auto in
    let y = c.advance-next.ensures.long in
    let r = run-denied t (omega arith) c.advance-next.result _ _ _ _ _ c.if-stack-top.true c.advance-next.ensures.moved y.nodes y.backs y.turns k.marks k.seen c.in-None.is in
    told-stop r _ _ c.loop-depth-test.true c.clear.ensures c.close.ensures

pub loop-depth-smaller-in-Some : goal.loop-depth-smaller-in-Some
loop-depth-smaller-in-Some c =
    let t = c.loop-depth.invariant.0 in
    let k = c.advance-next.auto in
    let y = c.advance-next.ensures.long in
    let r = run_moved t (omega arith) c.advance-next.result _ _ _ _ _ c.if-stack-top.true c.advance-next.ensures.moved y.nodes y.backs y.turns k.marks k.seen c.in-Some.d c.in-Some.is in
    r.1

pub loop-depth-preserved-in-Some : goal.loop-depth-preserved-in-Some
loop-depth-preserved-in-Some c =
    let t = c.loop-depth.invariant.0 in
    let k = c.advance-next.auto in
    let y = c.advance-next.ensures.long in
    let r = run_moved t (omega arith) c.advance-next.result _ _ _ _ _ c.if-stack-top.true c.advance-next.ensures.moved y.nodes y.backs y.turns k.marks k.seen c.in-Some.d c.in-Some.is in
    (r.0, k.seen ∙ c.loop-depth.invariant.1, k.marks ∙ c.loop-depth.invariant.2)

pub overflow_add-node : goal.overflow_add-node
overflow_add-node c =
    let loop = c.loop-depth in
    let t = loop.invariant.0 in
    omega (
      arith,
      top-table t (omega arith),
      loop.invariant.2,
      c.well_formed.1.1.1.1.1.1.1.0.1,
    )

pub leave-requires : goal.leave-requires
leave-requires c =
    let t = c.loop-depth.invariant.0 in
    let b = top_below t (omega arith) in
    (omega (arith, t.fits, t.list_nodes), omega (arith, t.fits, t.list_backs), top-table t (omega arith))

pub loop-depth-smaller : goal.loop-depth-smaller
loop-depth-smaller c =
    let t = c.loop-depth.invariant.0 in
    work-left t (omega arith)

pub loop-depth-preserved : goal.loop-depth-preserved
loop-depth-preserved c =
    let leave = c.leave in
    let loop = c.loop-depth in
    let t = loop.invariant.0 in
    let e = leave.ensures in (
      run-left t (omega arith) (omega (arith, c.if-stack-top.false)) e.0 e.1
          e.2,
      loop.invariant.1,
      leave.auto.marks ∙ loop.invariant.2,
    )
