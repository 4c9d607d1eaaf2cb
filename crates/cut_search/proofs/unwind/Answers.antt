use native.Mathlib.Omega.{arith}
use Rattle.cut_circuit.specs.PackedLaws.{gate-plain}
use Rattle.cut_search.specs.UnwindLaws.{unwind_end, down-inside, down-pins, down-firsts, down-begun, down-first, down-small, down_step}
use Rattle.cut_search.proofs.unwind.Goals as goal

pub pins_of-n-requires : goal.pins_of-n-requires
pins_of-n-requires c = gate-plain (down-pins c.loop-stack.invariant.asked (omega (arith, c.number_at.ensures, c.loop-stack-test.true)) c.number_at-d.ensures c.number_at-top.ensures)

pub first_of-requires : goal.first_of-requires
first_of-requires c = gate-plain (down-firsts c.loop-stack.invariant.asked (omega (arith, c.number_at.ensures, c.loop-stack-test.true)) c.number_at-d.ensures c.number_at-top.ensures)

pub overflow_sub-top : goal.overflow_sub-top
overflow_sub-top c = omega (arith, down-begun c.loop-stack.invariant.asked (omega (arith, c.number_at.ensures, c.loop-stack-test.true)) c.number_at-d.ensures c.number_at-top.ensures)

pub turn-i-requires : goal.turn-i-requires
turn-i-requires c = down-first c.loop-stack.invariant.asked (omega (arith, c.number_at.ensures, c.loop-stack-test.true)) c.number_at-d.ensures c.number_at-top.ensures c.pins_of-n.ensures c.first_of.ensures

pub overflow_cast-i : goal.overflow_cast-i
overflow_cast-i c = omega (arith, down-small c.loop-stack.invariant.asked (omega (arith, c.number_at.ensures, c.loop-stack-test.true)) c.number_at-d.ensures c.number_at-top.ensures c.pins_of-n.ensures c.first_of.ensures c.turn-i.ensures)

pub set_flow-requires : goal.set_flow-requires
set_flow-requires c = record { c_bound = down-inside c.loop-stack.invariant.asked (omega (arith, c.number_at.ensures, c.loop-stack-test.true)) c.number_at-d.ensures c.number_at-top.ensures; n_bound = omega (arith, down-small c.loop-stack.invariant.asked (omega (arith, c.number_at.ensures, c.loop-stack-test.true)) c.number_at-d.ensures c.number_at-top.ensures c.pins_of-n.ensures c.first_of.ensures c.turn-i.ensures) }

pub loop-stack-preserved : goal.loop-stack-preserved
loop-stack-preserved c =
    down_step c.loop-stack.invariant.asked (omega (arith, c.number_at.ensures, c.loop-stack-test.true)) c.number_at-d.ensures c.number_at-top.ensures c.pins_of-n.ensures c.first_of.ensures c.turn-i.ensures
    c.loop-stack.invariant c.set_flow.ensures c.set_flow.auto.table c.put_number.ensures

pub returns : goal.returns
returns c = unwind_end c.loop-stack.invariant (omega (arith, c.number_at.ensures, c.loop-stack-test.false))
