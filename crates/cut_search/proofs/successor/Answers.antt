use Rattle.std.proofs.Common.{◌*◌, ◌-◌, ◌<◌, arith}
use Rattle.limits.specs.Limits.{most_pins}
use Rattle.cut_search.specs.SearchPartsLaws.{sought_step, sought_end}
use Rattle.cut_search.proofs.successor.Goals as goal

pub loop-at-preserved : goal.loop-at-preserved
loop-at-preserved c =
    let h : c.loop-at.at - 1 < most_pins * c.args.s.gates = omega (arith, c.loop-at.invariant.0, c.loop-at-test.true) in (
      omega (arith, h, c.requires.falls (c.loop-at.at - 1) h),
      sought_step (omega (arith, c.loop-at-test.true)) (rw c.in_default.is at c.candidate.ensures) c.loop-at.invariant.1,
    )

pub returns : goal.returns
returns c = sought_end c.loop-at-test.false c.loop-at.invariant.1
