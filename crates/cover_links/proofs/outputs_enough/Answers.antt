use Rattle.std.proofs.Common.{◌≡◌, ℕ, ◌<◌, Some, true, refl, rules}
use Rattle.std.proofs.iter.runs.Sources.{ranges}
use Rattle.sequences.specs.Tests.{Tells}
use Rattle.cover_links.specs.LinkPlaces.{OutputEnough}
use Rattle.cover_links.proofs.outputs_enough.Goals as goal

told : (c : goal.After-all) → c.all.result ≡ true → (i : ℕ) → i < c.args.e.outputs → Tells true (OutputEnough c.args.w.inputs c.args.w.spots.now c.args.w.lags.now c.args.e.outs.now c.args.e.delays.now i)
told c e i h = let at : c.all.ensures.runs.0.at i ≡ Some i = search (rules, ranges) in search (rules, ranges)

pub returns : goal.returns
returns c = record { holds = λ e i h. (told c e i h).holds refl; fails = search (rules, ranges) }
