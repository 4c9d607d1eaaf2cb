use Rattle.std.proofs.Common.{sym, arith}
use Rattle.net_bytes.specs.Maps.{only_mask}
use Rattle.net_fields.proofs.within.Goals as goal

pub returns : goal.returns
returns c = rw c.from-m.ensures (sym (only_mask 8 c.args.whole c.args.map (omega arith)))
