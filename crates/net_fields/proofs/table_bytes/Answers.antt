use Rattle.std.proofs.Common.{arith}
use Rattle.net_bytes.specs.Maps.{one-table-byte}
use Rattle.net_fields.proofs.table_bytes.Goals as goal

pub returns-in_default : goal.returns-in_default
returns-in_default c = record { is = one-table-byte c.args.pins (omega arith); most = omega arith }
