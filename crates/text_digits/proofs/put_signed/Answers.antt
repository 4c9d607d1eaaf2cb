use mathlib.Core.Path.{◌≡◌, ap, sym, ◌∙◌}
use mathlib.Core.Bool.{true, false}
use mathlib.Core.List.{[], ◌∷◌, ◌++◌}
use Prim.Native.Nat.{ℕ}
use native.Mathlib.Omega.{arith}
use lib.IntN.{ℤ, pos, nat_abs}
use lib.Signed.{lt_z}
use mir.Syntax.{w64}
use mir.Val.{to_z, of_z}
use Rattle.cover_records.specs.Listing.{decimal, signed}
use Rattle.signed.specs.Range.{Small}
use Rattle.signed.specs.RangeLaws.{back, small-fits, lt_z_true, lt_z_false}
use Rattle.text_digits.specs.PutLaws.{put_then, put-more, put_same}
use Rattle.text_digits.specs.DigitLaws.{signed_low, signed_high}
use Rattle.text_digits.proofs.put_signed.Goals as goal

-- `text_digits::put_signed` meets its contract, by the sign.
module _ (z : ℤ) (s : Small z) (n : ℕ) (e : n ≡ nat_abs (to_z w64 (of_z w64 z))) where
  size : n ≡ nat_abs z
  size = e ∙ ap nat_abs (back z (small-fits z s))

  low : lt_z (to_z w64 (of_z w64 z)) (pos 0) ≡ true → (45 ∷ []) ++ decimal n ≡ signed z
  low t = ap (λ (k : ℕ). (45 ∷ []) ++ decimal k) size ∙ sym (signed_low z (lt_z_true z (pos 0) (rw (back z (small-fits z s)) at t)))

  high : lt_z (to_z w64 (of_z w64 z)) (pos 0) ≡ false → decimal n ≡ signed z
  high t = ap decimal size ∙ sym (signed_high z (lt_z_false z (pos 0) (rw (back z (small-fits z s)) at t)))

pub returns-then-z-lt0 : goal.returns-then-z-lt0
returns-then-z-lt0 c =
    let n = c.unsigned_abs-n in
    put_same (low c.args.z c.requires.small n.result n.ensures.value c.if-z-lt0.true)
    (put_then c.put_byte-a.ensures c.put_decimal.ensures)

pub returns : goal.returns
returns c =
    let n = c.unsigned_abs-n in
    put-more 21 (omega arith) (put_same (high c.args.z c.requires.small n.result n.ensures.value c.if-z-lt0.false)
    c.put_decimal-2.ensures)
