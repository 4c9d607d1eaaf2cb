use Rattle.run_step.specs.Stepping.{RunTo}
use Rattle.run_step.proofs.run.Given as goal

abbrev pub invariant-loop-t : goal.invariant-loop-t
invariant-loop-t l = RunTo l.z l.net l.tables l.pairs l.initial.kept l.initial.known l.kept l.known l.t
