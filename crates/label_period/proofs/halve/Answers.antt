use Rattle.std.proofs.Common.{refl, arith}
use Rattle.label_period.specs.PeriodSearchLaws.{sized-less, ceilings-less, halved_first, halved_high}
use Rattle.label_period.proofs.halve.Goals as goal

pub loop-low-init : goal.loop-low-init
loop-low-init c = (halved_first c.requires.le_from.0 c.requires.le_from.2 c.longest_line-high.ensures, c.requires.at_rest)

pub reach-requires-clause-sized : goal.reach-requires-clause-sized
reach-requires-clause-sized c =
    let h = c.loop-low.invariant.0.most in
    (sized-less _ (omega arith) c.loop-low.auto.labels c.requires.sized.0, c.requires.sized.1, ceilings-less _ (omega arith) c.requires.sized.2, refl)

pub loop-low-preserved : goal.loop-low-preserved
loop-low-preserved c = (halved_high c.loop-low.invariant.0 (omega arith) (omega arith) c.reach.ensures.labelled c.if-reach.false, c.reach.ensures.at_rest_2)
