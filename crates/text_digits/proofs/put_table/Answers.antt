use mathlib.Core.Path.{◌≡◌, ap, sym, ◌∙◌}
use Prim.Native.Nat.{ℕ, ◌^◌, ◌≤◌, ◌+◌, ◌*◌, ◌/◌, ◌%◌}
use native.Mathlib.Omega.{arith}
use lib.Pow.{pow_mono}
use Rattle.limits.specs.Limits.{most_pins}
use Rattle.text_digits.specs.Put.{hex_text}
use Rattle.text_digits.specs.PutLaws.{put-more, put_same}
use Rattle.text_digits.specs.DigitLaws.{table-text}
use Rattle.text_digits.proofs.put_table.Goals as goal

pub put_hex-requires : goal.put_hex-requires
put_hex-requires c =
    let h : 2 ^ c.args.n ≤ 2 ^ most_pins = pow_mono {i = c.args.n} {j = most_pins} c.requires.0 in
    let l = c.requires.1 in
    omega arith

pub returns : goal.returns
returns c =
    let start = c in
    let n = c.args.n in
    let w = c.args.w in
    let h : 2 ^ n ≤ 2 ^ most_pins = pow_mono {i = n} {j = most_pins} c.requires.0 in
    let e : (1 * 2 ^ n % 2 ^ 64 + 3) / 4 ≡ (2 ^ n + 3) / 4 = omega arith in
    put-more 16 (omega arith) (put_same (ap (λ (k : ℕ). hex_text k w) e ∙ sym (table-text n w)) c.put_hex.ensures)
