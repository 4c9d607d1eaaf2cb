use mathlib.Core.Path.{◌≡◌, refl}
use Prim.Native.Nat.{◌+◌, ◌-◌}
use native.Mathlib.Omega.{arith}
use Rattle.text_digits.specs.PutLaws.{hex_put}
use Rattle.text_digits.specs.DigitLaws.{hex_none, hex-length}
use Rattle.text_digits.proofs.put_hex.Goals as goal

pub loop-i-init : goal.loop-i-init
loop-i-init c =
    let e : 0 ≡ c.args.k - c.args.k = omega arith in
    rw (← e) (record { left = omega arith; put = rw (hex_none c.args.w) refl })

pub loop-i-preserved : goal.loop-i-preserved
loop-i-preserved c =
    let l = c.loop-i in
    let h = hex_put c.args.at c.args.w c.args.out.now c.loop-i-test.true l.auto.i l.invariant.left l.invariant.put c.digit_byte.ensures in
    record { left = h.0; put = h.1 }

pub returns : goal.returns
returns c =
    let i : c.loop-i.i ≡ 0 = omega arith in
    let a : c.args.at + 0 ≡ c.args.at = omega arith in
    let k : c.args.k - 0 ≡ c.args.k = omega arith in
    let n = hex-length c.args.k c.args.w in
    record { ends = omega arith; few = omega arith; area = rw (a, k) at (rw i at c.loop-i.invariant.put) }
