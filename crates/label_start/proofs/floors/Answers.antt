use mathlib.Core.Path.{refl, ap, ◌∙◌}
use Prim.Native.Nat.{◌*◌, ◌/◌}
use mir.Val.{to_z, of_z}
use mir.Syntax.{w64}
use lib.IntN.{ℤ, pos, ◌-ℤ◌}
use Rattle.signed.specs.RangeLaws.{back, small-fits}
use Rattle.label_visit.specs.LabelVisits.{wiring}
use Rattle.label_start.specs.StartLaws.{small_low, low-shift, start_floored, floored_begun, ready-start}
use Rattle.label_start.proofs.floors.Goals as goal

pub lift_all-requires : goal.lift_all-requires
lift_all-requires c =
    let low = pos 1 -ℤ pos (c.args.a.phi * (c.args.s.border / c.args.a.k)) in
    let h = small_low _ (low-shift c.args.a.phi c.args.s.border c.args.a.k c.args.s.width c.requires.0.least c.requires.0.wide c.requires.0.shift) in
    let e = ap (λ (x : ℤ). to_z w64 (of_z w64 x)) c.floor-low.ensures ∙ back low (small-fits low h) in
    let f = start_floored {C = wiring c.args.s c.args.net.now} c.requires.0.least refl e c.begin.ensures in
    (c.requires.0.read, ready-start c.requires.0 f.fine, c.requires.1, f)

pub returns : goal.returns
returns c = floored_begun refl c.lift_all.ensures c.fill.ensures
