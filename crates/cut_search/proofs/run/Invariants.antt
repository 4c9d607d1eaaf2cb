use Rattle.cut_circuit.specs.Packed.{wired}
use Rattle.cut_search.specs.Stacks.{owing}
use Rattle.cut_search.specs.Steps.{Running}
use Rattle.cut_search.proofs.run.Given as goal

abbrev pub invariant-loop-w : goal.invariant-loop-w
invariant-loop-w l = Running (wired l.w) l.f l.initial.table l.initial.stack l.initial.counts l.table l.list l.stack l.counts

abbrev pub decreases-loop-w : goal.decreases-loop-w
decreases-loop-w l = owing l.table l.stack
