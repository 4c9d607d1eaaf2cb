use native.Mathlib.Omega.{arith}
use Rattle.captures.proofs.CaptureLaws.{first-long, second-long, first-agrees, none-agrees}
use Rattle.captures.proofs.align.Goals as goal

pub returns-then-first-gt-WORDS : goal.returns-then-first-gt-WORDS
returns-then-first-gt-WORDS c = let a = c.args in first-long a.first.now a.second.now (omega (arith, c.if-first-gt-WORDS.true))

pub returns-then-second-gt-WORDS : goal.returns-then-second-gt-WORDS
returns-then-second-gt-WORDS c =
    let a = c.args in
    second-long a.first.now a.second.now (omega (arith, c.if-first-gt-WORDS.false)) (omega (arith, c.if-second-gt-WORDS.true))

pub returns-then-agrees : goal.returns-then-agrees
returns-then-agrees c =
    let a = c.args in
    let l = c.loop-s in
    let x = c.if-first-gt-WORDS.false in
    let y = c.if-second-gt-WORDS.false in
    let z = c.agrees.ensures.holds c.if-agrees.true in
    first-agrees a.first.now a.second.now (omega (arith, x)) (omega (arith, y)) l.s (omega arith) z l.invariant

pub returns : goal.returns
returns c =
    let a = c.args in
    let l = c.loop-s in
    let x = c.if-first-gt-WORDS.false in
    let y = c.if-second-gt-WORDS.false in
    none-agrees a.first.now a.second.now (omega (arith, x)) (omega (arith, y)) (λ s h. l.invariant s (omega arith))
