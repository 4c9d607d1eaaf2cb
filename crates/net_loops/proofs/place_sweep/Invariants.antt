use Rattle.net_loops.specs.Placing.{PlaceSweep}
use Rattle.net_loops.proofs.place_sweep.Given as goal

abbrev pub invariant-loop-g : goal.invariant-loop-g
invariant-loop-g l = PlaceSweep l.w.inputs l.w.gates l.w.pins.now l.w.sources.now l.w.counts.now l.initial.seen l.seen l.order l.placed l.g l.new
