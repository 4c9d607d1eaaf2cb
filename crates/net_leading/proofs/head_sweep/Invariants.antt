use Rattle.net_leading.specs.Heading.{PushSweep}
use Rattle.net_leading.proofs.head_sweep.Given as goal

abbrev pub invariant-loop-g : goal.invariant-loop-g
invariant-loop-g l =
    PushSweep l.w.inputs l.w.gates l.e.outputs l.w.pins.now l.w.sources.now l.w.counts.now l.e.outs.now l.e.delays.now l.initial.seen l.seen l.g l.new
