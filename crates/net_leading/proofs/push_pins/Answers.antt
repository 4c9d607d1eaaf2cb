use Rattle.std.proofs.Common.{refl, add-zero, arith}
use Rattle.net_leading.specs.HeadingLaws.{pins_push, left-fit}
use Rattle.net_leading.proofs.push_pins.Goals as goal
use Rattle.net_leading.proofs.push_pins.Goals.{then-push, else-push}

pub overflow_add-new : goal.overflow_add-new
overflow_add-new c = omega (arith, c.loop-j.invariant.fallen.new, left-fit c.requires.1.few c.requires.4)

pub loop-j-preserved : goal.loop-j-preserved
loop-j-preserved c =
    let loop = c.loop-j in
    elim c.if-push.branch [
      | then-push w ↦ rw w.new-is (pins_push c.args.g loop.j _ c.requires.0 c.requires.1 c.requires.4 c.requires.2 c.requires.3 refl c.loop-j-test.true loop.invariant (rw w.if-push.true at c.push.ensures))
      | else-push w ↦ rw w.new-is (rw add-zero at (pins_push c.args.g loop.j _ c.requires.0 c.requires.1 c.requires.4 c.requires.2 c.requires.3 refl c.loop-j-test.true loop.invariant (rw w.if-push.false at c.push.ensures)))
    ]
