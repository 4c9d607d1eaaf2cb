use Rattle.run_step.specs.Stepping.{Advanced}
use Rattle.run_step.proofs.advance.Given as goal

abbrev pub invariant-loop-v : goal.invariant-loop-v
invariant-loop-v l = Advanced l.z.inputs l.word l.known l.initial.kept l.kept l.v
