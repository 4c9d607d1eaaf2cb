use mathlib.Core.Path.{◌≡◌, ap, ◌∙◌, sym, subst}
use lib.IntN.{ℤ, pos, ◌-ℤ◌}
use lib.Signed.{quot_z, rem_z, mag, mag_rem}
use native.Mathlib.Omega.{arith}
use Prim.Native.Nat.{ℕ, suc, ◌+◌, ◌≤◌}
use mir.Syntax.{w64}
use mir.Val.{SFits}
use Rattle.signed.specs.Range.{room, Small}
use Rattle.signed.specs.RangeLaws.{back, fits-of, small-fits, minus_mag, lt_z_true, lt_z_false}
use Rattle.signed.specs.LagOfLaws.{lag_quot, lag_quot-less, mag_quot}
use Rattle.std.proofs.Common.{rules}
use Rattle.signed.proofs.lag_of.Goals as goal

-- `signed::lag_of` meets its contract: by the sign of the remainder.
phi-fits : (n : ℕ) → n ≤ room → SFits w64 (pos n)
phi-fits n h = fits-of (pos n) room (omega arith) h

quot-size : (z : ℤ) (n : ℕ) → Small z → 1 ≤ n → mag (quot_z z (pos n)) ≤ suc room
quot-size z n s p = let a = mag_quot z n p in let b = s.size in omega arith

quot_fits : (z : ℤ) (n : ℕ) → Small z → 1 ≤ n → SFits w64 (quot_z z (pos n))
quot_fits z n s p = fits-of (quot_z z (pos n)) (suc room) (omega arith) (quot-size z n s p)

rem-fits : (z : ℤ) (n : ℕ) → Small z → SFits w64 (rem_z z (pos n))
rem-fits z n s = fits-of (rem_z z (pos n)) room (omega arith) (let a = mag_rem z (pos n) in let b = s.size in omega arith)

less-fits : (z : ℤ) (n : ℕ) → Small z → 1 ≤ n → SFits w64 (quot_z z (pos n) -ℤ pos 1)
less-fits z n s p = fits-of (quot_z z (pos n) -ℤ pos 1) (suc room + 1) (omega arith) (minus_mag (quot_z z (pos n)) 1 (suc room) 1 (quot-size z n s p) (omega arith))

pub returns-then-r-gt0 : goal.returns-then-r-gt0
returns-then-r-gt0 c =
    let z = c.args.label in
    let n = c.args.phi in
    let p = c.requires in
    let t = rw (c.whole-p.ensures, back z (small-fits z p.0), back (pos n) (phi-fits n p.2), back (rem_z z (pos n)) (rem-fits z n p.0)) at c.if-r-gt0.true in
    rw c.whole-p.ensures (rw (back z (small-fits z p.0), back (pos n) (phi-fits n p.2))
    (back (quot_z z (pos n)) (quot_fits z n p.0 p.1) ∙ lag_quot n p.1 z (lt_z_true (pos 0) (rem_z z (pos n)) t)))

pub returns-else-r-gt0 : goal.returns-else-r-gt0
returns-else-r-gt0 c =
    let z = c.args.label in
    let n = c.args.phi in
    let p = c.requires in
    let t = rw (c.whole-p.ensures, back z (small-fits z p.0), back (pos n) (phi-fits n p.2), back (rem_z z (pos n)) (rem-fits z n p.0)) at c.if-r-gt0.false in
    rw c.whole-p.ensures (rw (back z (small-fits z p.0), back (pos n) (phi-fits n p.2)) (rw (back (quot_z z (pos n)) (quot_fits z n p.0 p.1))
    (back (quot_z z (pos n) -ℤ pos 1) (less-fits z n p.0 p.1) ∙ lag_quot-less n p.1 z (lt_z_false (pos 0) (rem_z z (pos n)) t))))
