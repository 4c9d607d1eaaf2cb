use Prim.Native.Nat.{◌*◌}
use Rattle.net_model.specs.Arrays.{copies_from}
use Rattle.cover_records.specs.Listing.{leaf_text}
use Rattle.text_digits.specs.Put.{Put}
use Rattle.text_listing.proofs.put_leaves.Given as goal

abbrev pub invariant-loop-j : goal.invariant-loop-j
invariant-loop-j l = Put (42 * l.j) l.initial.at (leaf_text (copies_from l.leaves.nodes.now l.leaves.backs.now l.leaves.at l.j)) l.initial.out l.out l.at
