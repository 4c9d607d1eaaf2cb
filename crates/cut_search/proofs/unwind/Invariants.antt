use lib.ListN.{get_or}
use Rattle.cut_circuit.specs.Packed.{wired}
use Rattle.cut_search.specs.Steps.{Descending}
use Rattle.cut_search.proofs.unwind.Given as goal

abbrev pub invariant-loop-stack : goal.invariant-loop-stack
invariant-loop-stack l = Descending (wired l.w) l.initial.table l.initial.stack l.table l.stack

abbrev pub decreases-loop-stack : goal.decreases-loop-stack
decreases-loop-stack l = get_or l.stack 0 0
