use Rattle.sequences.specs.Stored.{Stored}
use Rattle.sequences.specs.StoredLaws.{stored-none, stored_one}
use Rattle.net_marks.proofs.store.Given as goal

abbrev pub invariant-loop-i : goal.invariant-loop-i
invariant-loop-i l = Stored l.initial.net l.at l.from l.i l.net
