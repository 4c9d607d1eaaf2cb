use native.Mathlib.Omega.{arith}
use Rattle.lutclass.proofs.ClassTableLaws.{class_table}
use Rattle.std.proofs.Common.{rules}
use Rattle.kamfelu.proofs.kamfelu_class.Goals as goal

pub returns : goal.returns
returns c = record { entry = c.class_of.ensures; class = rw c.class_of.ensures (class_table.entry c.args.table (omega arith)) }
