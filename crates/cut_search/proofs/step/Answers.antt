use mathlib.Core.Path.{refl}
use native.Mathlib.Omega.{arith}
use Rattle.cut_circuit.specs.PackedLaws.{gate-plain}
use Rattle.cut_search.specs.ReadLaws.{read-depth, read-pins, read_firsts, read-few, read-popped, read_fits, read_first, read-way, read-barred, read-room, read_leave, read_left}
use Rattle.cut_search.proofs.step.Goals as goal

pub number_at-top-requires : goal.number_at-top-requires
number_at-top-requires c = read-depth c.requires c.number_at-d.ensures refl

pub pins_of-n-requires : goal.pins_of-n-requires
pins_of-n-requires c = gate-plain (read-pins c.requires c.number_at-d.ensures c.number_at-top.ensures)

pub overflow_add-n : goal.overflow_add-n
overflow_add-n c = omega (arith, read-few c.requires c.number_at-d.ensures c.number_at-top.ensures c.pins_of-n.ensures)

pub returns-then-n-top : goal.returns-then-n-top
returns-then-n-top c = read-popped c.requires c.number_at-d.ensures c.number_at-top.ensures c.pins_of-n.ensures c.if-n-top.true c.put_number.ensures

pub first_of-requires : goal.first_of-requires
first_of-requires c = gate-plain (read_firsts c.requires c.number_at-d.ensures c.number_at-top.ensures)

pub turn-i-requires : goal.turn-i-requires
turn-i-requires c = read_first c.requires c.number_at-d.ensures c.number_at-top.ensures c.pins_of-n.ensures c.first_of.ensures

pub way-requires : goal.way-requires
way-requires c = read-way c.requires c.number_at-d.ensures c.number_at-top.ensures c.pins_of-n.ensures (omega (arith, c.if-n-top.false)) c.first_of.ensures c.turn-i.ensures

pub put_number-requires-2 : goal.put_number-requires-2
put_number-requires-2 c = record { i_bound = read-depth c.requires c.number_at-d.ensures refl; n_bound = read_fits c.requires c.number_at-d.ensures c.number_at-top.ensures c.pins_of-n.ensures (omega (arith, c.if-n-top.false)) }

pub returns-in_default : goal.returns-in_default
returns-in_default c =
    read-barred c.requires c.number_at-d.ensures c.number_at-top.ensures c.pins_of-n.ensures (omega (arith, c.if-n-top.false)) c.first_of.ensures c.turn-i.ensures (rw c.in_default.is at c.way.ensures)
    c.put_number-2.ensures

pub mark_out-requires : goal.mark_out-requires
mark_out-requires c = let o = c.in-Some.ensures in
    record { c_bound = o.inside; noted = c.requires.asked.noted; list_room = read-room c.requires c.number_at-d.ensures c.number_at-top.ensures c.pins_of-n.ensures (omega (arith, c.if-n-top.false)) c.first_of.ensures c.turn-i.ensures o; c_bound_2 = (omega (arith, o.inside, c.requires.asked.store.room, c.requires.asked.fixed.small), c.requires.asked.brief); c_value = o.fresh }

pub leave-requires : goal.leave-requires
leave-requires c =
    read_leave c.requires c.number_at-d.ensures c.number_at-top.ensures c.pins_of-n.ensures (omega (arith, c.if-n-top.false)) c.first_of.ensures c.turn-i.ensures c.in-Some.ensures
    c.mark_out.ensures c.mark_out.auto.table c.put_number-2.ensures

pub returns : goal.returns
returns c =
    read_left c.requires c.number_at-d.ensures c.number_at-top.ensures c.pins_of-n.ensures (omega (arith, c.if-n-top.false)) c.first_of.ensures c.turn-i.ensures c.in-Some.ensures
    c.mark_out.ensures c.mark_out.auto.table c.put_number-2.ensures c.leave.ensures
