use mathlib.Core.Path.{◌≡◌}
use mathlib.Core.List.{[]}
use lib.ListN.{length}
use Rattle.net_model.specs.Arrays.{copies_from}
use Rattle.cover_writer.specs.Writing.{Wrote}
use Rattle.cover_writer.specs.LutBytesLaws.{nodes_of}
use Rattle.cover_writer.proofs.write_nodes.Given as goal

abbrev pub invariant-loop-j : goal.invariant-loop-j
invariant-loop-j l = Wrote (nodes_of (copies_from l.nodes [] l.at l.j)) l.initial.area l.area l.j × (length l.area ≡ length l.initial.area)
