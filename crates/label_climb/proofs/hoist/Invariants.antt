use Rattle.label_climb.specs.Trials.{Hoisted}
use Rattle.label_climb.proofs.hoist.Given as goal

abbrev pub invariant-loop-v : goal.invariant-loop-v
invariant-loop-v l = Hoisted l.old l.initial.labels l.labels l.from l.v l.d
