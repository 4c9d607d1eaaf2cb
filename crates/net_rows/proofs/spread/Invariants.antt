use Rattle.net_rows.specs.RowParts.{Spreading}
use Rattle.net_rows.proofs.spread.Given as goal

abbrev pub invariant-loop-i : goal.invariant-loop-i
invariant-loop-i l = Spreading l.maps.pins l.maps.registers l.counts l.i l.so
