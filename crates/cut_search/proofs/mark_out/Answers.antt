use mathlib.Core.Path.{sym, subst}
use mathlib.Core.List.{List}
use Prim.Native.Nat.{ℕ}
use native.Mathlib.Omega.{arith}
use Rattle.cut_search.specs.SearchParts.{MarkedOutTold}
use Rattle.cut_search.specs.SearchPartsLaws.{marked-out-told}
use Rattle.cut_search.proofs.mark_out.Goals as goal

pub returns : goal.returns
returns c =
    subst (λ (t : List ℕ). MarkedOutTold c.args.table.now t c.touch.new.list c.args.c) (sym c.set_out.ensures)
    (marked-out-told c.requires.noted c.touch.ensures (omega (arith, c.requires.c_bound, c.touch.auto.table)) c.requires.c_value)
