use Rattle.cover_rows.specs.LutParts.{Spreading}
use Rattle.cover_rows.proofs.spread.Given as goal

abbrev pub invariant-loop-i : goal.invariant-loop-i
invariant-loop-i l = Spreading l.map l.depths l.i l.so
