use Rattle.std.proofs.Common.{ℕ, subst}
use Rattle.cut_forced.specs.Asked.{unforced}
use Rattle.cut_forced.specs.Forcing.{target, Grown, AllSettled}
use Rattle.cut_forced.specs.GrowLaws.{progress_step, progress_end}
use Rattle.cut_forced.proofs.grow.Goals as goal

pub loop-i-preserved : goal.loop-i-preserved
loop-i-preserved c =
    λ v G.
    let w = c.loop-i.invariant v G in
    let W = unforced c.args.a in
    let T = target c.args.a.labels.now c.args.a.q.phi v c.args.a.q.height in
    progress_step w c.loop-i-test.true
    (subst (λ (x : ℕ). Grown W T c.args.a.q.k (AllSettled W T x) c.loop-i.slots c.loop-i.members c.loop-i.m c.force_pins.new.slots c.force_pins.new.members c.in_ok-m.m) c.number_at-x.ensures
    (c.in_ok-m.ensures v w.growing))

pub returns : goal.returns
returns c = λ v G. progress_end (c.loop-i.invariant v G) c.loop-i-test.false
