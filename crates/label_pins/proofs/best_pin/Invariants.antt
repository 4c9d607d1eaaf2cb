use Rattle.label_pins.specs.PinHeights.{Best}
use Rattle.label_pins.proofs.best_pin.Given as goal

abbrev pub invariant-loop-j : goal.invariant-loop-j
invariant-loop-j l = Best l.pins.sources.now l.pins.counts.now l.labels l.phi l.at l.j l.best
