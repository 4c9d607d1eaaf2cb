use Rattle.std.proofs.Common.{◌∙◌, arith, length-set}
use Rattle.cover_cuts.specs.CutLaws.{good-next, cuts-not}
use Rattle.cover_cuts.proofs.no_cuts.Goals as goal

pub returns-in-None : goal.returns-in-None
returns-in-None c = record {
  cuts_tried = cuts-not c.requires.cutting.0 c.loop-i.i c.loop-i-test.true c.in-None.ensures.lut_tried;
  clear = c.in-None.ensures.clear;
}

pub loop-i-preserved : goal.loop-i-preserved
loop-i-preserved c =
    let loop = c.loop-i in (
      length-set loop.right loop.i _ ∙ loop.invariant.0,
      good-next c.requires.cutting.0 loop.right loop.i c.loop-i-test.true (let e = loop.invariant.0 in let room = c.requires.cutting.2 in omega arith) loop.invariant.1 c.in-Some.full
          c.in-Some.ensures.lut_tried,
      c.try_row.auto.work ∙ loop.invariant.2,
      c.in-Some.ensures.clear,
    )
