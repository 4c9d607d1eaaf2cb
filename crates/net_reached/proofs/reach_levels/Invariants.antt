use Prim.Native.Nat.{◌+◌, min}
use Rattle.net_marks.specs.Marks.{unmarked}
use Rattle.net_reached.specs.Reaching.{Reaching}
use Rattle.net_reached.proofs.reach_levels.Given as goal

abbrev pub invariant-loop-new : goal.invariant-loop-new
invariant-loop-new l = Reaching l.w.inputs l.w.gates l.w.pins.now l.w.sources.now l.w.counts.now l.seen l.ranks

abbrev pub decreases-loop-new : goal.decreases-loop-new
decreases-loop-new l = unmarked l.seen + min l.new 1
