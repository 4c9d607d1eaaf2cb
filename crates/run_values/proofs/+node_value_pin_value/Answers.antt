use Rattle.std.proofs.Common.{◌≡◌, ◌+◌, ◌-◌, refl, sym, subst, arith}
use Rattle.run_values.specs.Sheets.{sheet, NodeTold}
use Rattle.run_values.specs.SheetLaws.{more-none, more_trans, below, node-told, node-none, node-small, node-next, node-noted, pin-small, pin-asks, pin-falls-to}
use Rattle.run_values.proofs.+node_value_pin_value.Goals as goal

pub node_value-returns-in-Some : goal.node_value-returns-in-Some
node_value-returns-in-Some t c =
    let a = c.args in
    let same : c.in-Some.value + 1 - 1 ≡ c.in-Some.value = omega arith in
    subst (NodeTold (sheet a.s.z a.s.net.now a.s.tables.now a.s.kept.now a.s.word) a.known.now a.known.now a.v a.back) same (node-told c.requires (sym c.in-Some.ensures) (omega arith))

pub node_value-loop-j-init : goal.node_value-loop-j-init
node_value-loop-j-init t c = (more-none c.requires.ready, node-none c.requires (sym c.in_default.ensures) (omega arith))

pub node_value-overflow_mul-at : goal.node_value-overflow_mul-at
node_value-overflow_mul-at t c =
    omega (arith, node-small c.requires (sym c.in_default.ensures) (omega arith) c.loop-j.at c.loop-j.j c.loop-j.invariant.1)

pub node_value-overflow_add-at : goal.node_value-overflow_add-at
node_value-overflow_add-at t c =
    omega (arith, node-small c.requires (sym c.in_default.ensures) (omega arith) c.loop-j.at c.loop-j.j c.loop-j.invariant.1, pin-small c.pin_value.ensures)

pub node_value-loop-j-preserved : goal.node_value-loop-j-preserved
node_value-loop-j-preserved t c =
    let i = c.loop-j.invariant in
    let told = c.pin_value.ensures in
    (more_trans i.0 told.more, node-next c.requires (sym c.in_default.ensures) (omega arith) c.loop-j.at c.loop-j.j c.pin_value.result c.loop-j-test.true c.loop-j.auto.j i.1 told)

pub node_value-bit_of-value-requires : goal.node_value-bit_of-value-requires
node_value-bit_of-value-requires t c =
    omega (arith, node-small c.requires (sym c.in_default.ensures) (omega arith) c.loop-j.at c.loop-j.j c.loop-j.invariant.1)

pub node_value-returns : goal.node_value-returns
node_value-returns t c =
    let i = c.loop-j.invariant in
    node-noted c.requires (sym c.in_default.ensures) (omega arith) i.0 c.loop-j.at c.loop-j.j c.bit_of-value.result c.loop-j-test.false i.1 c.bit_of-value.ensures.0

pub pin_value-node_value-requires : goal.pin_value-node_value-requires
pin_value-node_value-requires t c = (below (pin-falls-to c.requires refl refl) c.decreases, pin-asks c.requires refl refl)
