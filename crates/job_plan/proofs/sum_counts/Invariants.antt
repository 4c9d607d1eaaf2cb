use Rattle.job_plan.specs.Counts.{SumCounts}
use Rattle.job_plan.proofs.sum_counts.Given as goal

abbrev pub invariant-loop-g : goal.invariant-loop-g
invariant-loop-g l = SumCounts l.gates l.pins l.counts l.g l.sum
