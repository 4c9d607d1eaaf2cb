use Rattle.net_leading.specs.Heading.{PushOuts}
use Rattle.net_leading.proofs.push_outputs.Given as goal

abbrev pub invariant-loop-i : goal.invariant-loop-i
invariant-loop-i l =
    PushOuts l.w.inputs l.w.gates l.e.outputs l.w.pins.now l.w.sources.now l.w.counts.now l.e.outs.now l.e.delays.now l.initial.seen l.seen l.i l.new
