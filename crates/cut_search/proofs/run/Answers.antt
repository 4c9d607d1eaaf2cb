use Rattle.cut_search.specs.StepLaws.{running_step, running_won}
use Rattle.cut_search.proofs.run.Goals as goal

pub returns-then-step : goal.returns-then-step
returns-then-step c = running_won c.loop-w.invariant c.step.ensures c.if-step.true

pub loop-w-preserved : goal.loop-w-preserved
loop-w-preserved c = running_step c.loop-w.invariant c.step.ensures c.if-step.false c.step.auto.table c.step.auto.list c.step.auto.stack c.step.auto.counts
