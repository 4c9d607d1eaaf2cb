use borrow.Author.Tests.{ltb-true, ltb-false}
use Rattle.std.proofs.Common.{arith}
use Rattle.cut_search.specs.SearchTableLaws.{in_is}
use Rattle.cut_search.proofs.in_at.Goals as goal

pub returns : goal.returns
returns c =
    let s = in_is c.args.table.now c.args.c in
    record { yes = λ e. omega (arith, s, ltb-true _ _ e); no = λ e. omega (arith, s, ltb-false _ _ e) }
