use mathlib.Core.Path.{◌≡◌}
use Rattle.cover_writer.specs.LutBytesLaws.{map_from}
use Rattle.cover_writer.proofs.leaf_map.Given as goal

abbrev pub invariant-loop-j : goal.invariant-loop-j
invariant-loop-j l = (l.m ≡ map_from l.backs l.at l.n l.j)
