use Rattle.std.proofs.Common.{add-zero, arith}
use Rattle.net_leading.specs.HeadingLaws.{outs_push, left-fit}
use Rattle.net_leading.proofs.push_outputs.Goals as goal
use Rattle.net_leading.proofs.push_outputs.Goals.{then-push, else-push}

pub overflow_add-new : goal.overflow_add-new
overflow_add-new c = omega (arith, c.loop-i.invariant.fallen.new, left-fit c.requires.1.few c.requires.2)

pub loop-i-preserved : goal.loop-i-preserved
loop-i-preserved c =
    elim c.if-push.branch [
      | then-push w ↦ rw w.new-is (outs_push c.loop-i.i c.requires.1 c.loop-i-test.true c.loop-i.invariant (rw w.if-push.true at c.push.ensures))
      | else-push w ↦ rw w.new-is (rw add-zero at (outs_push c.loop-i.i c.requires.1 c.loop-i-test.true c.loop-i.invariant (rw w.if-push.false at c.push.ensures)))
    ]
