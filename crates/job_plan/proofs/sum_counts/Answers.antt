use Rattle.std.proofs.Common.{◌-◌, arith}
use Rattle.limits.specs.Limits.{most_count}
use Rattle.job_plan.specs.CountLaws.{sum-none, sum-down}
use Rattle.job_plan.proofs.sum_counts.Goals as goal

pub loop-g-init : goal.loop-g-init
loop-g-init c = sum-none

pub overflow_add-sum : goal.overflow_add-sum
overflow_add-sum c =
    let loop = c.loop-g in
    let most = c.most_count-sum.ensures.least most_count (λ j k. c.requires.count (loop.g - 1) j (omega arith) k) in
    let small = loop.invariant.small in
    let few = c.requires.gates in
    omega arith

pub loop-g-preserved : goal.loop-g-preserved
loop-g-preserved c = sum-down c.loop-g.g c.loop-g.sum c.most_count-sum.result c.loop-g-test.true (omega arith) c.requires c.loop-g.invariant c.most_count-sum.ensures
