use Rattle.label_pins.specs.PinHeightLaws.{best-more}
use Rattle.label_pins.proofs.better.Goals as goal

pub returns-then-pin_less : goal.returns-then-pin_less
returns-then-pin_less c =
    let start = c in
    best-more c.args.pins.sources.now c.args.pins.counts.now c.args.labels.now c.args.phi c.args.at c.requires.3
    (c.pin_less.ensures.yes c.if-pin_less.true)
