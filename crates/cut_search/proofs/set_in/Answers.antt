use mathlib.Core.Path.{refl}
use Rattle.cut_search.specs.SearchTableLaws.{room_in}
use Rattle.cut_search.specs.SearchTable.{with_in}
use Rattle.cut_search.proofs.set_in.Goals as goal

pub overflow_add-table : goal.overflow_add-table
overflow_add-table c = record { fits = room_in c.args.table.now c.args.c (c.slice_known-1.given c.args.c).fits c.requires.c_value }

pub returns : goal.returns
unfolding with_in
returns c = refl
