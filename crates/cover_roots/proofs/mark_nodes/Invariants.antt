use Rattle.cover_roots.specs.RootMarks.{Marks, Among}
use Rattle.cover_roots.proofs.mark_nodes.Given as goal

abbrev pub invariant-loop-i : goal.invariant-loop-i
invariant-loop-i l = Marks (Among l.inputs l.gates l.nodes l.from l.i) l.initial.marks l.marks
