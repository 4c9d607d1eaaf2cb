use mathlib.Core.Path.{◌≡◌}
use Prim.Native.Nat.{ℕ, ◌+◌, ◌<◌, min}
use Rattle.net_marks.specs.Marks.{left, Marked, Low}
use Rattle.net_leading.specs.Heading.{Heading, Pushed, top_of}
use lib.ListN.{get_or}
use Rattle.net_leading.proofs.head_all.Given as goal

abbrev pub invariant-loop-new : goal.invariant-loop-new
invariant-loop-new l =
    Heading l.w.inputs l.w.gates l.e.outputs l.w.pins.now l.w.sources.now l.w.counts.now l.e.outs.now l.e.delays.now l.seen × ((u v : ℕ) → Low l.w.inputs l.initial.seen u v → Low l.w.inputs l.seen u v)
    × (l.new ≡ 0 → (g : ℕ) → g < l.w.gates → Marked l.seen g → Pushed l.w.inputs l.w.sources.now l.w.counts.now l.seen g (get_or l.w.pins.now g 0) (get_or l.seen g 0))

abbrev pub decreases-loop-new : goal.decreases-loop-new
decreases-loop-new l = left (top_of l.w.gates) l.seen + min l.new 1
