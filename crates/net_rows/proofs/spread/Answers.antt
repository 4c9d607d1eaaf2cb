use Rattle.std.proofs.Common.{arith}
use Rattle.net_rows.specs.PinSpreadLaws.{spread_none, spread_all}
use Rattle.net_rows.proofs.spread.Goals as goal

pub loop-i-init : goal.loop-i-init
loop-i-init c = spread_none c.args.maps.pins c.args.maps.registers c.args.counts

pub returns : goal.returns
returns c = spread_all c.args.maps.pins c.args.maps.registers c.args.counts c.loop-i.i c.loop-i.so (omega arith) (omega arith) c.requires c.loop-i.invariant
