use Rattle.std.specs.Prelude.{Some}
use lib.ListN.{length}
use Rattle.cut_kept.specs.Keeping.{Gathers, LeafAmong}
use Rattle.cut_kept.proofs.gather.Given as goal

abbrev pub invariant-loop-i : goal.invariant-loop-i
invariant-loop-i l = Gathers (length l.table) (LeafAmong l.table l.list l.i) l.initial.members l.at 0 l.members (Some l.m)
