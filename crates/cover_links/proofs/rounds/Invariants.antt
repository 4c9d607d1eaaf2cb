use Rattle.std.proofs.Common.{◌≡◌, ◌+◌, ◌-◌, ◌≤◌, length}
use Rattle.cover_links.specs.LinkPlaces.{most}
use Rattle.cover_links.specs.LinkPlaceLaws.{Told}
use Rattle.cover_links.proofs.rounds.Given as goal

abbrev pub invariant-loop-luts : goal.invariant-loop-luts
invariant-loop-luts l =
    (l.luts ≤ l.period + 1) × (length l.marks ≡ most) × Told l.w.inputs l.w.spots.now l.w.sizes.now l.w.nodes.now l.w.backs.now l.w.lags.now l.w.len l.marks (l.luts - 1)
