use mir.Syntax.{w64}
use mir.Val.{SFits}
use Rattle.std.proofs.Common.{ℕ, sym, subst, rules}
use Rattle.signed.specs.RangeLaws.{back}
use Rattle.cut_forced.specs.Forcing.{Added, forced}
use Rattle.cut_forced.specs.ForcedPinLaws.{low_same}
use Rattle.cut_forced.proofs.force_pin.Goals as goal

pub returns : goal.returns
returns c =
    let s = c.args.a.s in
    let q = c.args.a.q in
    let f : SFits w64 c.args.a.q.height = search rules in
    forced (λ l. c.low.ensures.no c.if-low.false (low_same s.width q.phi c.args.a.labels.now (sym (back q.height f)) (sym c.source-y.ensures) l))
    (subst (λ (y : ℕ). Added s.inputs s.gates s.width s.border q.k c.args.slots.now c.args.members.now c.args.m y c.add.new.slots c.add.new.members c.add.result) c.source-y.ensures c.add.ensures)
