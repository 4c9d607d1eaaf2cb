use native.Mathlib.Omega.{arith}
use Rattle.text_digits.specs.PutLaws.{put_then, put-more, put_same}
use Rattle.text_listing.specs.LineLaws.{first-text}
use Rattle.text_listing.proofs.put_first.Goals as goal

pub returns : goal.returns
returns c =
    let s = c.args in
    let a = c.put_field-a.ensures in
    let b = c.put_field-b.ensures in
    let d = c.put_field-c.ensures in
    let w = put_then (put_then (put_then a b) d) c.put_byte.ensures in
    put-more 86 (omega arith) (put_same (first-text s.period s.count s.registers) w)
