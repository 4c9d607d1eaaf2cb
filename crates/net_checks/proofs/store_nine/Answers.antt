use mathlib.Core.Path.{subst}
use Rattle.net_checks.specs.Graphs.{Placed}
use Rattle.net_checks.specs.GraphLaws.{nine_holds}
use Rattle.net_checks.proofs.store_nine.Goals as goal

pub returns : goal.returns
returns c = nine_holds (subst (Placed c.args.s _ _ _) (c.if-not-check_nine.false) c.check_nine.ensures) (rw c.order_at-at.ensures at c.store.ensures)
