use Prim.Native.Nat.{ℕ, ◌/◌, ◌%◌}
use mathlib.Core.Path.{sym, ap, ◌∙◌}
use mathlib.Core.List.{[], ◌∷◌, ◌++◌}
use native.Mathlib.Omega.{arith}
use lib.ListN.{length, length-append}
use Rattle.cover_records.specs.Listing.{decimal, digit}
use Rattle.text_digits.specs.PutLaws.{put_then, put-held, put-few, put-more, put_same}
use Rattle.text_digits.specs.DigitLaws.{decimal-one, decimal-more, decimal-few}
use Rattle.text_digits.proofs.+put_decimal.Goals as goal

pub returns-then-n-lt10 : goal.returns-then-n-lt10
returns-then-n-lt10 t c =
    let n = c.args.n in
    put-more 20 (omega arith) (put_same (ap (λ (d : ℕ). d ∷ []) c.digit_byte-d.ensures ∙ sym
    (decimal-one n c.if-n-lt10.true)) c.put_byte.ensures)

pub put_byte-requires-2 : goal.put_byte-requires-2
put_byte-requires-2 t c =
    let n = c.args.n in
    let e = ap length (decimal-more n c.if-n-lt10.false c.ranges.n.fits) in
    let l = length-append (decimal (n / 10)) (digit (n % 10) ∷ []) in
    let m = decimal-few n in
    let i = c.put_decimal-a.ensures.ends in
    let h = put-held c.put_decimal-a.ensures in
    let p = c.requires in
    omega arith

pub returns : goal.returns
returns t c =
    let n = c.args.n in
    put-few 20 (decimal-few n) (put_same (ap (λ (d : ℕ). decimal (n / 10) ++ (d ∷ [])) c.digit_byte-d-2.ensures ∙
    sym (decimal-more n c.if-n-lt10.false
    c.ranges.n.fits))
    (put_then c.put_decimal-a.ensures c.put_byte-2.ensures))
