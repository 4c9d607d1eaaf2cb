use Rattle.std.proofs.Common.{arith, get_or}
use Rattle.sequences.specs.TestLaws.{first-none}
use Rattle.net_reached.specs.ReachingLaws.{reach-none, reach-one}
use Rattle.net_reached.proofs.reach_gate.Goals as goal

pub returns-in-None : goal.returns-in-None
returns-in-None c = reach-none c.args.g (get_or c.args.w.pins.now c.args.g 0) c.args.level c.requires.2 (omega arith) (first-none _ _ (λ j h. c.in-None.ensures j h))

pub returns-in-Some : goal.returns-in-Some
returns-in-Some c =
    let a = c.args in
    reach-one a.g c.in-Some.j c.rank_behind.result a.level c.requires.0 c.requires.1 c.requires.2 c.if-seen-g-ne0.false c.in-Some.ensures.0 c.in-Some.ensures.1 c.rank_behind.ensures
