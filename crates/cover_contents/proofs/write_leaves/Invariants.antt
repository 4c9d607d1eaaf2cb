use Rattle.net_model.specs.Arrays.{copies_from}
use Rattle.cover_records.specs.Kept.{entries_in}
use Rattle.cover_records.specs.Listing.{leaf_taps}
use Rattle.cover_writer.specs.Writing.{Wrote}
use Rattle.cover_registers.specs.Counting.{marking}
use Rattle.cover_contents.specs.Traces.{tap_cells}
use Rattle.cover_contents.proofs.write_leaves.Given as goal

abbrev pub invariant-loop-j : goal.invariant-loop-j
invariant-loop-j l = Wrote (tap_cells l.trace (entries_in (marking l.k.head.inputs l.k.head.gates l.k.head.period l.k.labels.now l.k.rows.now)) (leaf_taps (entries_in (marking l.k.head.inputs l.k.head.gates l.k.head.period l.k.labels.now l.k.rows.now)) l.own (copies_from l.leaves.nodes.now l.leaves.backs.now l.leaves.at l.j))) l.initial.area l.area l.at
