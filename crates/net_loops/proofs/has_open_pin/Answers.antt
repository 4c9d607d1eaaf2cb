use Rattle.std.proofs.Common.{◌≡◌, ℕ, ◌<◌, get_or, Some, false, refl, rules}
use Rattle.std.proofs.iter.runs.Sources.{ranges}
use Rattle.sequences.specs.Tests.{Tells}
use Rattle.net_loops.specs.Placing.{OpenPin}
use Rattle.net_loops.proofs.has_open_pin.Goals as goal

told : (c : goal.After-any) → c.any.result ≡ false → (j : ℕ) → j < get_or c.args.w.pins.now c.args.g 0
    → Tells false (OpenPin c.args.w.inputs c.args.seen.now c.args.w.sources.now c.args.w.counts.now c.args.g j)
told c e j h = let at : c.any.ensures.runs.0.at j ≡ Some j = search (rules, ranges) in search (rules, ranges)

pub returns : goal.returns
returns c = record { holds = search (rules, ranges); fails = λ e q. (told c e q.0 q.1).fails refl q.2 }
