use Rattle.std.proofs.Common.{arith}
use Rattle.cover_rows.specs.LeafSpreadLaws.{spread_none, spread_all}
use Rattle.cover_rows.proofs.spread.Goals as goal

pub loop-i-init : goal.loop-i-init
loop-i-init c = spread_none c.args.map c.args.depths

pub returns : goal.returns
returns c = spread_all c.args.map c.args.depths c.args.n c.loop-i.i c.loop-i.so (omega arith) c.loop-i.invariant
