use Rattle.std.proofs.Common.{rules}
use Rattle.job_plan.specs.CountLaws.{most-next}
use Rattle.job_plan.proofs.most_count.Goals as goal

pub loop-j-preserved : goal.loop-j-preserved
loop-j-preserved c = most-next c.loop-j.invariant (search rules)
