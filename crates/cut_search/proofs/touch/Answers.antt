use Rattle.cut_search.specs.SearchPartsLaws.{touch_fresh, touch_told}
use Rattle.cut_search.proofs.touch.Goals as goal

pub returns-then-table-c-lt32 : goal.returns-then-table-c-lt32
returns-then-table-c-lt32 c =
    touch_told c.requires.touched c.requires.c_bound c.if-table-c-lt32.true (c.requires.list_room (touch_fresh c.args.table.now c.args.c c.if-table-c-lt32.true))
    c.number_at-n.ensures c.put_number.ensures c.put_number-then-table-c-lt32.ensures
