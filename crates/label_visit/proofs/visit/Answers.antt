use Prim.Native.Nat.{◌+◌}
use native.Mathlib.Omega.{arith}
use mir.Val.{to_z, of_z}
use mir.Syntax.{w64}
use lib.IntN.{pos}
use Rattle.integers.specs.Parts.{ints, +-parts}
use Rattle.signed.specs.Range.{label_in}
use Rattle.label_visit.specs.ReadyLaws.{pinmax_at, pins-fit, max-small, max-back, ready-fine}
use Rattle.label_visit.specs.LabelVisitLaws.{visit_higher}
use Rattle.label_aim.specs.Aims.{mode_of, rise_in}
use Rattle.label_visit.specs.LabelVisits.{wiring, tops_in}
use Rattle.label_visit.proofs.visit.Goals as goal

pub returns-then-higher : goal.returns-then-higher
returns-then-higher c = let highest = c.highest-p in
    let start = c in
    let f = pins-fit c.requires.at_rest.resting.layout c.requires.ready.0 c.args.g c.requires.ready.1 in
    record {
      at_rest_2 = c.requires.at_rest;
      visited = visit_higher (mode_of c.args.a.forward) (rise_in c.args.s c.args.a) (wiring c.args.s c.args.net.now) c.args.a.k c.args.a.phi (tops_in c.args.s c.args.net.now c.args.a.cap) c.args.labels.now c.args.g
          (to_z w64 (of_z w64 highest.result))
          (ready-fine c.requires.ready.0) (pinmax_at (max-back f highest.ensures) highest.ensures)
          (let t = c.higher.ensures.yes c.if-higher.true in omega (arith, ints, t, +-parts (to_z w64 (of_z w64 highest.result)) (pos 1)));
    }

pub try_label-requires : goal.try_label-requires
try_label-requires c = let highest = c.highest-p in
    let start = c in
    let f = pins-fit c.requires.at_rest.resting.layout c.requires.ready.0 c.args.g c.requires.ready.1 in
    let lo = c.higher.ensures.no c.if-higher.false in
    let m = pinmax_at (max-back f highest.ensures) highest.ensures in
    record {
      at_rest = c.requires.at_rest;
      ready = (c.requires.ready.0, c.requires.ready.1, c.requires.ready.2);
      pin_max = (
        m,
        lo,
        max-small (label_in c.args.labels.now (c.args.s.inputs + c.args.g))
            f m (c.requires.ready.0.small (c.args.s.inputs + c.args.g)) lo,
      );
    }
