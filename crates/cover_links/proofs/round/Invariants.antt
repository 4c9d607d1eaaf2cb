use Rattle.std.proofs.Common.{◌≡◌, ℕ, ◌<◌, false, length, get_or}
use Rattle.sequences.specs.Tests.{Tells}
use Rattle.cover_links.specs.LinkPlaces.{LutLong, Marked, most}
use Rattle.cover_links.proofs.round.Given as goal

abbrev pub invariant-loop-i : goal.invariant-loop-i
invariant-loop-i l =
    (length l.next ≡ most) × ((k : ℕ) → k < l.i → Tells (get_or l.next k false) (LutLong (Marked l.marks) l.w.inputs l.w.spots.now l.w.sizes.now l.w.nodes.now l.w.backs.now l.w.lags.now k))
