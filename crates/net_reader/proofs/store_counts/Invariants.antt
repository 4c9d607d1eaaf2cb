use Rattle.sequences.specs.Stored.{Stored}
use Rattle.net_reader.proofs.store_counts.Given as goal

abbrev pub invariant-loop-j : goal.invariant-loop-j
invariant-loop-j l = Stored l.initial.net l.at l.counts l.j l.net
