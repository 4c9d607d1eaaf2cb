use Rattle.std.proofs.Common.{◌≡◌, ℕ, ◌<◌, get_or, Some, false, refl, rules}
use Rattle.std.proofs.iter.runs.Sources.{ranges}
use Rattle.sequences.specs.Tests.{Tells}
use Rattle.cover_links.specs.LinkPlaces.{LeafLong, Marked}
use Rattle.cover_links.proofs.lut_long.Goals as goal

told : (c : goal.After-any) → c.any.result ≡ false → (i : ℕ) → i < get_or c.args.w.sizes.now c.args.i 0 → Tells false (LeafLong (Marked c.args.marks.now) c.args.w.inputs c.args.w.spots.now c.args.w.nodes.now c.args.w.backs.now c.args.w.lags.now c.args.i i)
told c e i h = let at : c.any.ensures.runs.0.at i ≡ Some i = search (rules, ranges) in search (rules, ranges)

pub returns : goal.returns
returns c = record { holds = search (rules, ranges); fails = λ e q. (told c e q.0 q.1).fails refl q.2 }
