use mir.Syntax.{w64}
use mir.Val.{SFits}
use Rattle.std.proofs.Common.{below_more, refl, rules}
use Rattle.signed.specs.RangeLaws.{back}
use Rattle.cut_forced.specs.ForcedPinLaws.{low_same}
use Rattle.cut_kept.proofs.all_low.Goals as goal

pub loop-y-preserved : goal.loop-y-preserved
loop-y-preserved c =
    let f : SFits w64 c.args.q.height = search rules in
    below_more _ _ c.loop-y.invariant (low_same c.args.width c.args.q.phi c.args.labels.now (back c.args.q.height f) refl (c.low.ensures.yes c.if-not-low.false))
