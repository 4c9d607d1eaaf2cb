use Rattle.std.proofs.Common.{arith}
use Rattle.std.proofs.lemmas.Result.{err_from_is_err_and}
use Rattle.cut_forced.specs.Asked.{unforced}
use Rattle.cut_forced.specs.SlotLaws.{marked-inner}
use Rattle.cut_forced.specs.ForcedPinLaws.{gate-asked, pin-asked, told-pin, told-then}
use Rattle.cut_forced.proofs.force_pins.Goals as goal

pub pins_of-n-requires : goal.pins_of-n-requires
pins_of-n-requires c = gate-asked c.requires.grounded (marked-inner (unforced c.args.a) c.args.slots.now c.args.x c.requires.member)

pub force_pin-requires : goal.force_pin-requires
force_pin-requires c =
    let w = c.loop-j.invariant c.requires.root c.requires.growing in
    pin-asked c.requires.grounded (marked-inner (unforced c.args.a) c.args.slots.now c.args.x c.requires.member) (omega (arith, c.loop-j-test.true, c.pins_of-n.ensures)) w.growing

pub returns-in_err-c : goal.returns-in_err-c
returns-in_err-c c =
    let p = err_from_is_err_and c.from_residual.result c.from_residual.ensures.1 in
    rw (p.1, p.2)
    (λ v G. told-pin c.requires.grounded (marked-inner (unforced c.args.a) c.args.slots.now c.args.x c.requires.member) (omega (arith, c.loop-j-test.true, c.pins_of-n.ensures))
    c.requires.member (c.loop-j.invariant v G) c.in_err-c.ensures)

pub loop-j-preserved : goal.loop-j-preserved
loop-j-preserved c =
    λ v G. told-pin c.requires.grounded (marked-inner (unforced c.args.a) c.args.slots.now c.args.x c.requires.member) (omega (arith, c.loop-j-test.true, c.pins_of-n.ensures))
    c.requires.member (c.loop-j.invariant v G) c.in_ok-c.ensures

pub returns : goal.returns
returns c = λ v G. told-then (λ s p j b. p j (omega (arith, b, c.pins_of-n.ensures))) (c.loop-j.invariant v G)
