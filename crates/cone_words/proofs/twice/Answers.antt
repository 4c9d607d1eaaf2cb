use native.Mathlib.Omega.{arith}
use Rattle.cone_words.proofs.WholeWordLaws.{one_shifted}
use Rattle.cone_words.specs.RepeatLaws.{twice-small, twice_word}
use Rattle.cone_words.proofs.twice.Goals as goal

pub overflow_shl-result : goal.overflow_shl-result
overflow_shl-result c =
    let e = one_shifted c.args.j (omega (arith, c.requires.0)) in
    let h = lib.Pow.pow_mono {i = c.args.j} {j = 5} (omega (arith, c.requires.0)) in
    omega (arith, e, h)

pub overflow_add-result : goal.overflow_add-result
overflow_add-result c =
    let e = one_shifted c.args.j (omega (arith, c.requires.0)) in
    let s = twice-small c.args.word c.args.j c.requires.0 c.requires.1 in
    let t = twice_word c.args.word c.args.j _ c.requires.0 c.requires.1 e in
    record { fits = omega (arith, s, t) }

pub returns : goal.returns
returns c = twice_word c.args.word c.args.j _ c.requires.0 c.requires.1 (one_shifted c.args.j (omega (arith, c.requires.0)))
