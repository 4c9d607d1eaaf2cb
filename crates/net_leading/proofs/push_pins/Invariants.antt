use Rattle.net_leading.specs.Heading.{PushPins}
use Rattle.net_leading.proofs.push_pins.Given as goal

abbrev pub invariant-loop-j : goal.invariant-loop-j
invariant-loop-j l =
    PushPins l.w.inputs l.w.gates l.e.outputs l.w.pins.now l.w.sources.now l.w.counts.now l.e.outs.now l.e.delays.now l.initial.seen l.seen l.g l.j l.new
