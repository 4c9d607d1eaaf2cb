use mathlib.Core.Path.{◌≡◌}
use Prim.Native.Nat.{ℕ, ◌<◌}
use lib.ListN.{length, get_or, drop}
use Rattle.limits.specs.Limits.{most_pins}
use Rattle.net_model.specs.PackedNet.{sources_at, counts_at}
use Rattle.cone_copies.specs.CopyLists.{copies_in, source_at}
use Rattle.cone_table.specs.ConeWords.{Carries}
use Rattle.cone_table.proofs.gather.Given as goal

abbrev pub invariant-loop-j : goal.invariant-loop-j
invariant-loop-j l =
    (length l.fed ≡ most_pins) × ((i : ℕ) → i < l.j → Carries (copies_in l.leaves.nodes.now l.leaves.backs.now l.leaves.len) (copies_in l.cone.nodes.now l.cone.backs.now l.p) l.words
    (source_at (drop (sources_at l.s.gates) l.s.net.now) (drop (counts_at l.s.gates) l.s.net.now) l.g (get_or l.cone.backs.now l.p 0) i) (get_or l.fed i 0))
