use mathlib.Core.Path.{sym, ap, subst}
use Prim.Native.Nat.{ℕ, ◌+◌, ◌*◌}
use native.Mathlib.Omega.{arith}
use mir.Val.{to_z, of_z}
use mir.Syntax.{w64}
use lib.Signed.{◌≤ℤ◌, ◌<ℤ◌}
use lib.IntN.{ℤ, pos}
use Rattle.integers.specs.Parts.{ints}
use Rattle.signed.specs.Range.{label_in, Small}
use Rattle.signed.specs.RangeLaws.{back}
use Rattle.label_visit.specs.ReadyLaws.{pinmax_at, raised-ready, ready-fine, small-next}
use Rattle.label_visit.specs.LabelVisitLaws.{visit_cut, visit_lift, visit_over, visit_past}
use Rattle.label_aim.specs.Aims.{mode_of, rise_in}
use Rattle.label_visit.specs.LabelVisits.{wiring, tops_in}
use Rattle.label_visit.proofs.try_label.Goals as goal

pub ask-requires : goal.ask-requires
ask-requires c = let start = c in
    record {
      at_rest = c.requires.at_rest;
      ready = (
        raised-ready c.args.g c.requires.ready.0 c.requires.ready.1
            (subst Small (sym (back c.args.p c.ranges.p)) c.requires.pin_max.2) c.raise-rose.ensures,
        c.requires.ready.1,
        subst Small (sym (back c.args.p c.ranges.p)) c.requires.pin_max.2,
      );
    }

pub returns-then-ask : goal.returns-then-ask
returns-then-ask c = let ask = c.ask in
    let raise = c.raise-rose in
    let start = c in
    let e = sym (back c.args.p c.ranges.p) in
    record {
      at_rest_2 = ask.ensures.at_rest_2;
      visited = visit_cut (mode_of c.args.a.forward) (rise_in c.args.s c.args.a) (wiring c.args.s c.args.net.now) c.args.a.k c.args.a.phi (tops_in c.args.s c.args.net.now c.args.a.cap) c.args.labels.now c.args.g
          (to_z w64 (of_z w64 c.args.p))
          (ready-fine c.requires.ready.0) c.requires.ready.1 (pinmax_at e c.requires.pin_max.0)
          (subst (λ (x : ℤ). label_in c.args.labels.now (c.args.s.inputs + c.args.g) ≤ℤ x) e c.requires.pin_max.1)
          (subst Small e c.requires.pin_max.2) _ raise.result raise.ensures ask.result ask.ensures.answered
          c.if-ask.true (let t = c.below.ensures.yes c.if-below.true in omega (arith, ints, t, ap (λ (x : ℕ). c.args.a.phi * x) c.top_of.ensures));
    }

pub below-requires-then-below : goal.below-requires-then-below
below-requires-then-below c =
    let start = c in
    ((subst Small (sym (back c.args.p c.ranges.p)) c.requires.pin_max.2), (let q = c.requires.ready.2.top c.args.g c.requires.ready.1 in omega (arith, q, ap (λ (x : ℕ). c.args.a.phi * x) c.top_of.ensures)))

pub returns-then-below-2 : goal.returns-then-below-2
returns-then-below-2 c = let ask = c.ask in
    let raise = c.raise-rose in
    let start = c in
    let e = sym (back c.args.p c.ranges.p) in
    let s = subst Small e c.requires.pin_max.2 in
    let u = subst (λ (x : ℕ). (to_z w64 (of_z w64 c.args.p)) <ℤ pos (c.args.a.phi * x)) c.top_of.ensures (c.below-then-below.ensures.yes c.if-below-2.true) in
    record {
      at_rest_2 = ask.ensures.at_rest_2;
      visited = visit_lift (mode_of c.args.a.forward) (rise_in c.args.s c.args.a) (wiring c.args.s c.args.net.now) c.args.a.k c.args.a.phi (tops_in c.args.s c.args.net.now c.args.a.cap) c.args.labels.now c.args.g
          (to_z w64 (of_z w64 c.args.p))
          (ready-fine c.requires.ready.0) c.requires.ready.1 (pinmax_at e c.requires.pin_max.0)
          (subst (λ (x : ℤ). label_in c.args.labels.now (c.args.s.inputs + c.args.g) ≤ℤ x) e c.requires.pin_max.1)
          s _ raise.result raise.ensures ask.result ask.ensures.answered c.if-ask.false u
          (small-next (to_z w64 (of_z w64 c.args.p)) _ s (let q = c.requires.ready.2.top c.args.g c.requires.ready.1 in omega (arith, q, ap (λ (x : ℕ). c.args.a.phi * x) c.top_of.ensures)) u) _ c.lift.ensures;
    }

pub returns-else-below-2 : goal.returns-else-below-2
returns-else-below-2 c = let ask = c.ask in
    let raise = c.raise-rose in
    let start = c in
    let e = sym (back c.args.p c.ranges.p) in
    record {
      at_rest_2 = ask.ensures.at_rest_2;
      visited = visit_over (mode_of c.args.a.forward) (rise_in c.args.s c.args.a) (wiring c.args.s c.args.net.now) c.args.a.k c.args.a.phi (tops_in c.args.s c.args.net.now c.args.a.cap) c.args.labels.now c.args.g
          (to_z w64 (of_z w64 c.args.p))
          (ready-fine c.requires.ready.0) c.requires.ready.1 (pinmax_at e c.requires.pin_max.0)
          (subst (λ (x : ℤ). label_in c.args.labels.now (c.args.s.inputs + c.args.g) ≤ℤ x) e c.requires.pin_max.1)
          (subst Small e c.requires.pin_max.2) _ raise.result raise.ensures ask.result ask.ensures.answered
          c.if-ask.false (let t = c.below.ensures.yes c.if-below.true in omega (arith, ints, t, ap (λ (x : ℕ). c.args.a.phi * x) c.top_of.ensures)) (subst (λ (x : ℕ). pos (c.args.a.phi * x) ≤ℤ (to_z w64 (of_z w64 c.args.p))) c.top_of.ensures (c.below-then-below.ensures.no c.if-below-2.false)) _;
    }

pub returns-else-below : goal.returns-else-below
returns-else-below c = let start = c in
    let e = sym (back c.args.p c.ranges.p) in
    record {
      at_rest_2 = c.requires.at_rest;
      visited = visit_past (mode_of c.args.a.forward) (rise_in c.args.s c.args.a) (wiring c.args.s c.args.net.now) c.args.a.k c.args.a.phi (tops_in c.args.s c.args.net.now c.args.a.cap) c.args.labels.now c.args.g
          (to_z w64 (of_z w64 c.args.p))
          (ready-fine c.requires.ready.0) c.requires.ready.1 (pinmax_at e c.requires.pin_max.0)
          (subst (λ (x : ℤ). label_in c.args.labels.now (c.args.s.inputs + c.args.g) ≤ℤ x) e c.requires.pin_max.1)
          (let t = c.below.ensures.no c.if-below.false in omega (arith, ints, t, ap (λ (x : ℕ). c.args.a.phi * x) c.top_of.ensures)) _;
    }
