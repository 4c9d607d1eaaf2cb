use mathlib.Core.Path.{◌≡◌}
use Prim.Native.Nat.{ℕ, ◌+◌, ◌<◌, min}
use Rattle.net_marks.specs.Marks.{unmarked}
use Rattle.net_reached.specs.Reaching.{Reaching, Shut}
use Rattle.net_reached.proofs.reach_all.Given as goal

abbrev pub invariant-loop-new : goal.invariant-loop-new
invariant-loop-new l =
    Reaching l.w.inputs l.w.gates l.w.pins.now l.w.sources.now l.w.counts.now l.seen l.ranks × (l.new ≡ 0 → (g : ℕ) → g < l.w.gates → Shut l.w.inputs l.w.pins.now l.w.sources.now l.seen g)

abbrev pub decreases-loop-new : goal.decreases-loop-new
decreases-loop-new l = unmarked l.seen + min l.new 1
