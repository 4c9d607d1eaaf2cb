use mathlib.Core.Path.{◌≡◌, ap, subst, ◌∙◌}
use mathlib.Core.Bool.{Bool, true, false}
use native.Mathlib.Omega.{arith}
use Prim.Native.Nat.{ℕ, ◌*◌, ◌≤◌}
use mir.Syntax.{w64}
use mir.Val.{SFits, to_z, of_z}
use lib.IntN.{ℤ, pos, ◌-ℤ◌}
use lib.Signed.{◌≤ℤ◌, ◌<ℤ◌}
use Rattle.signed.specs.Range.{room}
use Rattle.signed.specs.RangeLaws.{told_of, back, fits-of}
use Rattle.label_aim.specs.AimLaws.{border-some}
use Rattle.label_aim.proofs.farthest.Goals as goal

-- `label_aim::farthest` meets its contract: the whole border, none, or by division.
-- what the test of the whole border says
told : {b : Bool} {f : ℤ} (n m : ℕ) (h : ℤ) → SFits w64 h → n ≤ room → f ≡ pos n
    → (b ≡ true → (to_z w64 (of_z w64 f) -ℤ pos m) <ℤ to_z w64 (of_z w64 h)) × (b ≡ false → to_z w64 (of_z w64 h) ≤ℤ (to_z w64 (of_z w64 f) -ℤ pos m))
    → (b ≡ true → (pos n -ℤ pos m) <ℤ h) × (b ≡ false → h ≤ℤ (pos n -ℤ pos m))
told n m h s r e t =
    told_of (ap (λ (x : ℤ). to_z w64 (of_z w64 x) -ℤ pos m) e ∙ ap (λ (x : ℤ). x -ℤ pos m) (back (pos n) (fits-of (pos n) room (omega arith) r))) (back h s) t

pub returns-then-no_higher : goal.returns-then-no_higher
returns-then-no_higher c =
    let start = c in
    let p = c.requires in
    let r : c.args.phi ≤ room = omega (arith, p) in
    let le = c.above.ensures.no c.if-above.false in
    let e = back c.args.h c.ranges.h in
    let lt = (told c.args.phi (c.args.phi * c.args.border) c.args.h c.ranges.h r c.whole-f.ensures (c.no_higher.ensures.yes, c.no_higher.ensures.no)).0 c.if-no_higher.true in
    border-some c.args.phi c.args.h c.args.border c.gap.result lt (subst (λ (x : ℤ). x ≤ℤ pos c.args.phi) e le) (c.gap.ensures ∙ ap (λ (x : ℤ). pos c.args.phi -ℤ x) e)
