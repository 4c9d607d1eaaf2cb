use mathlib.Core.Path.{subst}
use Prim.Native.Nat.{ℕ}
use native.Mathlib.Omega.{arith}
use Rattle.cut_circuit.specs.CircuitLaws.{wide-positive}
use Rattle.cut_forced.specs.ForcedPinLaws.{source-asked, feeder-below}
use Rattle.cut_forced.specs.Outside.{OneMore}
use Rattle.cut_forced.specs.OutsideLaws.{asked-few, one-more-bound, pins-outside-more}
use Rattle.cut_forced.proofs.outside.Goals as goal

pub source-y-requires : goal.source-y-requires
source-y-requires c =
    let start = c in
    source-asked c.requires.outside_asked.grounded c.requires.outside_asked.inner (omega (arith, c.loop-j-test.true, c.pins_of-n.ensures))

pub one_more-out-requires : goal.one_more-out-requires
one_more-out-requires c = let pins-of = c.pins_of-n in
    let start = c in
    record {
      slot_asked = record {
        wide = wide-positive c.requires.outside_asked.grounded.layout;
        inside = omega (
          arith,
          c.source-y.ensures,
          feeder-below c.requires.outside_asked.grounded
              c.requires.outside_asked.inner {j = c.loop-j.j} (omega
              (arith, c.loop-j-test.true, pins-of.ensures)),
        );
        room = c.requires.outside_asked.places;
        held = c.requires.outside_asked.held;
      };
      c_bound = omega
          (arith, c.loop-j.invariant.1, c.requires.c_le_most_k, asked-few c.requires.outside_asked, c.loop-j-test.true, pins-of.ensures);
    }

pub loop-j-preserved : goal.loop-j-preserved
loop-j-preserved c =
    let loop = c.loop-j in
    let s = c.args.w.s in (
      pins-outside-more loop.invariant.0 (subst (λ (y : ℕ). OneMore s.inputs s.gates s.width s.border c.args.w.slots.now y loop.out
          c.one_more-out.result) c.source-y.ensures c.one_more-out.ensures),
      omega (arith, one-more-bound s.inputs s.gates s.width s.border c.args.w.slots.now c.source-y.result c.one_more-out.ensures loop.invariant.1),
    )
