use Rattle.std.proofs.Common.{◌≡◌, ℕ, ◌<◌, get_or, Some, true, refl, rules}
use Rattle.std.proofs.iter.runs.Sources.{ranges}
use Rattle.sequences.specs.Tests.{Tells}
use Rattle.cover_links.specs.LinkPlaces.{Found, leaf_in}
use Rattle.cover_links.proofs.lut_fed.Goals as goal

told : (c : goal.After-all) → c.all.result ≡ true → (i : ℕ) → i < get_or c.args.w.sizes.now c.args.i 0 → Tells true (Found c.args.w.inputs c.args.w.spots.now c.args.w.len (leaf_in c.args.w.nodes.now c.args.i i))
told c e i h = let at : c.all.ensures.runs.0.at i ≡ Some i = search (rules, ranges) in search (rules, ranges)

pub returns : goal.returns
returns c = record { holds = λ e i h. (told c e i h).holds refl; fails = search (rules, ranges) }
