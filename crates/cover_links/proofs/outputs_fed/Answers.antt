use Rattle.std.proofs.Common.{◌≡◌, ℕ, ◌<◌, get_or, Some, true, refl, rules}
use Rattle.std.proofs.iter.runs.Sources.{ranges}
use Rattle.sequences.specs.Tests.{Tells}
use Rattle.cover_links.specs.LinkPlaces.{Found}
use Rattle.cover_links.proofs.outputs_fed.Goals as goal

told : (c : goal.After-all) → c.all.result ≡ true → (i : ℕ) → i < c.args.e.outputs → Tells true (Found c.args.w.inputs c.args.w.spots.now c.args.w.len (get_or c.args.e.outs.now i 0))
told c e i h = let at : c.all.ensures.runs.0.at i ≡ Some i = search (rules, ranges) in search (rules, ranges)

pub returns : goal.returns
returns c = record { holds = λ e i h. (told c e i h).holds refl; fails = search (rules, ranges) }
