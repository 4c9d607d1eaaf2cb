use Rattle.std.proofs.Common.{refl, ◌∙◌, arith}
use Rattle.label_period.specs.PeriodSearchLaws.{sized-less, ceilings-less, none-next, period-found, period-last}
use Rattle.label_period.proofs.least_period.Goals as goal

pub returns-then-reach-clause-period : goal.returns-then-reach-clause-period
returns-then-reach-clause-period c = period-found (omega arith) (omega (arith, c.min-end.ensures)) c.loop-phi.invariant.1 c.reach.ensures.labelled c.if-reach.true

pub loop-phi-preserved : goal.loop-phi-preserved
loop-phi-preserved c = (c.reach.ensures.at_rest_2, none-next c.reach.ensures.labelled c.if-reach.false)

pub halve-low-requires-clause-le_from : goal.halve-low-requires-clause-le_from
halve-low-requires-clause-le_from c =
    let e = c.min-end.ensures in
    let one = c.requires.sized.3 in
    (omega arith, omega arith, record { below = λ ψ a b. c.loop-phi.invariant.1.below ψ a (omega arith) })

pub reach-requires-2-clause-sized : goal.reach-requires-2-clause-sized
reach-requires-2-clause-sized c =
    let h = c.halve-low.ensures.halved.most in
    (sized-less c.halve-low.result h (c.halve-low.auto.labels ∙ c.loop-phi.auto.labels) c.requires.sized.0, c.requires.sized.1, ceilings-less c.halve-low.result h c.requires.sized.2, refl)

pub returns-clause-period : goal.returns-clause-period
returns-clause-period c = period-last c.halve-low.ensures.halved c.reach-2.ensures.labelled
