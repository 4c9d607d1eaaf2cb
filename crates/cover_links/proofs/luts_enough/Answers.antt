use Rattle.std.proofs.Common.{◌≡◌, ℕ, ◌<◌, Some, true, refl, rules}
use Rattle.std.proofs.iter.runs.Sources.{ranges}
use Rattle.sequences.specs.Tests.{Tells}
use Rattle.cover_links.specs.LinkPlaces.{LutEnough}
use Rattle.cover_links.proofs.luts_enough.Goals as goal

told : (c : goal.After-all) → c.all.result ≡ true → (i : ℕ) → i < c.args.w.len → Tells true (LutEnough c.args.w.inputs c.args.w.spots.now c.args.w.sizes.now c.args.w.nodes.now c.args.w.backs.now c.args.w.lags.now i)
told c e i h = let at : c.all.ensures.runs.0.at i ≡ Some i = search (rules, ranges) in search (rules, ranges)

pub returns : goal.returns
returns c = record { holds = λ e i h. (told c e i h).holds refl; fails = search (rules, ranges) }
