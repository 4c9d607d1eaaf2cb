use Rattle.std.proofs.Common.{◌≡◌, length}
use Rattle.limits.specs.Limits.{most_nodes}
use Rattle.cover_links.specs.LinkPlaceLaws.{Filled}
use Rattle.cover_links.proofs.places.Given as goal

abbrev pub invariant-loop-i : goal.invariant-loop-i
invariant-loop-i l = (length l.spots ≡ most_nodes) × Filled l.roots l.n l.i l.spots
