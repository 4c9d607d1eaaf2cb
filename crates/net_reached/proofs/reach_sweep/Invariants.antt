use Rattle.net_reached.specs.Reaching.{ReachSweep}
use Rattle.net_reached.proofs.reach_sweep.Given as goal

abbrev pub invariant-loop-g : goal.invariant-loop-g
invariant-loop-g l = ReachSweep l.w.inputs l.w.gates l.w.pins.now l.w.sources.now l.w.counts.now l.initial.seen l.seen l.ranks l.g l.level l.new
