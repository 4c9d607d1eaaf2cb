use Rattle.std.proofs.Common.{arith}
use Rattle.net_leading.specs.HeadingLaws.{heads-gate, left-fit}
use Rattle.net_leading.proofs.head_sweep.Goals as goal

pub overflow_add-new : goal.overflow_add-new
overflow_add-new c =
    let n = (heads-gate c.loop-g.invariant c.head_gate-new.ensures).fallen.new in
    let b = left-fit c.requires.1.few c.requires.2 in
    omega arith

pub loop-g-preserved : goal.loop-g-preserved
loop-g-preserved c = heads-gate c.loop-g.invariant c.head_gate-new.ensures
