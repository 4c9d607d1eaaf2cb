use mathlib.Core.Path.{◌≡◌}
use lib.ListN.{length, drop}
use Rattle.net_model.specs.PackedNet.{sources_at, counts_at}
use Rattle.cone_copies.specs.CopyLists.{copies_in, members}
use Rattle.cone_table.specs.ConeWords.{WordsSettled}
use Rattle.cone_table.proofs.fill_words.Given as goal

abbrev pub invariant-loop-p : goal.invariant-loop-p
invariant-loop-p l =
    (length l.words ≡ members) × WordsSettled l.s.inputs l.s.gates l.s.net.now (drop (sources_at l.s.gates) l.s.net.now) (drop (counts_at l.s.gates) l.s.net.now) l.s.tables.now
    (copies_in l.leaves.nodes.now l.leaves.backs.now l.leaves.len) l.cone.nodes.now l.cone.backs.now l.cone.len l.words 64 l.p
