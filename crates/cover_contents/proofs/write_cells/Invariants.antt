use Rattle.cover_writer.specs.Writing.{Wrote}
use Rattle.cover_contents.specs.Traces.{cells_back}
use Rattle.cover_contents.proofs.write_cells.Given as goal

abbrev pub invariant-loop-j : goal.invariant-loop-j
invariant-loop-j l = Wrote (cells_back l.trace l.u l.top l.j) l.initial.area l.area l.j
