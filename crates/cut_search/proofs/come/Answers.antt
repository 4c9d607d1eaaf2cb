use Prim.Native.Nat.{◌+◌}
use native.Mathlib.Omega.{arith}
use Rattle.cut_circuit.specs.PackedLaws.{gate-plain}
use Rattle.cut_search.specs.CopyLaws.{pins-asked}
use Rattle.cut_search.specs.ComeLaws.{come-ends, come-inside, come-node, come-frame-fits, come-pins, counted-room, told-counted, told-carried, told-carried-room, told-bare}
use Rattle.cut_search.proofs.come.Goals as goal

pub set_in-requires : goal.set_in-requires
set_in-requires c = record { c_bound = come-inside c.requires; c_value = c.requires.fresh }

pub number_at-c-requires : goal.number_at-c-requires
number_at-c-requires c = come-node c.requires

pub put_number-requires : goal.put_number-requires
put_number-requires c = record { i_bound = come-node c.requires; n_bound = omega (arith, c.if-c-f.true, c.requires.store.units) }

pub push-requires : goal.push-requires
push-requires c = record { room = counted-room c.requires (omega (arith, c.number_at-c.ensures, c.if-c-f.true)); short = c.requires.store.short; turn = omega arith; fits = come-frame-fits c.requires 0 (omega arith) }

pub returns-then-c-f : goal.returns-then-c-f
returns-then-c-f c = told-counted c.requires c.set_in.ensures c.number_at-c.ensures (omega (arith, c.if-c-f.true)) c.put_number.ensures c.push.ensures

pub flow_at-requires : goal.flow_at-requires
flow_at-requires c = omega (arith, come-inside c.requires, c.set_in.auto.table)

pub pins_of-requires : goal.pins_of-requires
pins_of-requires c = gate-plain (pins-asked c.requires.fixed c.args.e (come-ends c.requires))

pub overflow_add-pins_of : goal.overflow_add-pins_of
overflow_add-pins_of c = omega (arith, c.pins_of.ensures, come-pins c.requires)

pub push-requires-then-flow_at-gt0 : goal.push-requires-then-flow_at-gt0
push-requires-then-flow_at-gt0 c = record {
  room = told-carried-room c.requires c.set_in.ensures c.number_at-c.ensures (omega (arith, c.if-c-f.false)) (omega (arith, c.flow_at.ensures, c.if-flow_at-gt0.true));
  short = c.requires.store.short;
  turn = omega (arith, c.pins_of.ensures, come-pins c.requires);
  fits = come-frame-fits c.requires (c.pins_of.result + 1) (omega (arith, c.pins_of.ensures, come-pins c.requires));
}

pub returns-then-flow_at-gt0 : goal.returns-then-flow_at-gt0
returns-then-flow_at-gt0 c = told-carried c.requires c.set_in.ensures c.number_at-c.ensures (omega (arith, c.if-c-f.false)) c.pins_of.ensures (omega (arith, c.flow_at.ensures, c.if-flow_at-gt0.true)) c.push-then-flow_at-gt0.ensures

pub returns-else-flow_at-gt0 : goal.returns-else-flow_at-gt0
returns-else-flow_at-gt0 c = told-bare c.requires c.set_in.ensures c.number_at-c.ensures (omega (arith, c.if-c-f.false)) (omega (arith, c.flow_at.ensures, c.if-flow_at-gt0.false))
