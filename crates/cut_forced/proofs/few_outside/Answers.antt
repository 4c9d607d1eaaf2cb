use Rattle.std.proofs.Common.{arith}
use Rattle.cut_forced.specs.OutsideLaws.{outside-more}
use Rattle.cut_forced.proofs.few_outside.Goals as goal

pub loop-x-preserved : goal.loop-x-preserved
loop-x-preserved c = (omega (arith, c.if-k-c.false), outside-more c.loop-x.invariant.1 c.outside-c.ensures)
