use Rattle.net_checks.specs.Lowering.{Lowered}
use Rattle.net_checks.proofs.lower.Given as goal

abbrev pub invariant-loop-m : goal.invariant-loop-m
invariant-loop-m l = Lowered l.initial.marks l.marks l.m-index
