use Rattle.job_plan.specs.Counts.{MostCount}
use Rattle.job_plan.proofs.most_count.Given as goal

abbrev pub invariant-loop-j : goal.invariant-loop-j
invariant-loop-j l = MostCount l.counts l.at l.j l.most
