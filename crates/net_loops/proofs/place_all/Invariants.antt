use mathlib.Core.Path.{◌≡◌}
use Prim.Native.Nat.{ℕ, ◌+◌, ◌<◌, min}
use Rattle.net_marks.specs.Marks.{unmarked}
use Rattle.net_loops.specs.Placing.{Placing, Stuck}
use Rattle.net_loops.proofs.place_all.Given as goal

abbrev pub invariant-loop-new : goal.invariant-loop-new
invariant-loop-new l =
    Placing l.w.inputs l.w.gates l.w.pins.now l.w.sources.now l.w.counts.now l.seen l.order l.placed × (l.new ≡ 0 → (g : ℕ) → g < l.w.gates → Stuck l.w.inputs l.w.pins.now l.w.sources.now l.w.counts.now l.seen g)

abbrev pub decreases-loop-new : goal.decreases-loop-new
decreases-loop-new l = unmarked l.seen + min l.new 1
