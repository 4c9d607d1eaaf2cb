use Rattle.std.proofs.Common.{arith}
use Rattle.cut_kept.specs.GatherLaws.{leaves-more, leaves_all}
use Rattle.cut_kept.proofs.gather.Goals as goal

pub loop-i-preserved : goal.loop-i-preserved
loop-i-preserved c = leaves-more c.requires.room c.requires.touched (omega (arith, c.loop-i-test.true, c.number_at-n.ensures)) c.number_at-c.ensures c.loop-i.invariant c.in_ok-m.ensures

pub returns : goal.returns
returns c = leaves_all c.requires.touched (omega (arith, c.number_at-n.ensures)) c.loop-i.invariant
