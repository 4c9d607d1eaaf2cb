use Rattle.std.proofs.Common.{rules, arith, get_or}
use Rattle.sequences.specs.TestLaws.{first-none}
use Rattle.net_loops.specs.PlacingLaws.{place-one, place-room}
use Rattle.net_loops.proofs.place_gate.Goals as goal

pub bounds-order-placed : goal.bounds-order-placed
bounds-order-placed c =
    let r = place-room c.args.g c.requires.1 c.requires.2 (search rules) in search rules

pub returns : goal.returns
returns c = place-one c.args.g (get_or c.args.w.pins.now c.args.g 0) c.requires.1 c.requires.2 (search rules) (omega arith) (first-none _ _ (λ j h p. c.has_open_pin.ensures.fails c.if-has_open_pin.false (j, h, p)))
