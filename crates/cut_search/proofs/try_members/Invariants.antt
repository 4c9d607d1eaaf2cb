use Rattle.cut_circuit.specs.Packed.{wired}
use Rattle.cut_search.specs.Steps.{around, Searched}
use Rattle.cut_search.proofs.try_members.Given as goal

abbrev pub invariant-loop-j : goal.invariant-loop-j
invariant-loop-j l =
    Searched (wired l.w) l.f (around l.from l.members) l.initial.table l.table l.list l.stack l.counts l.j
