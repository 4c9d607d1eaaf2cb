use Prim.Native.Nat.{◌/◌, ◌%◌, ◌^◌}
use native.Mathlib.Omega.{arith}
use borrow.Author.Tests.{eq-eqb, ne_eqb}
use Rattle.cone_words.proofs.WholeWordLaws.{composed_low}
use Rattle.lutclass.proofs.FeedingLaws.{made_inverted, made_as_is}
use Rattle.lutclass.proofs.turned.Goals as goal

pub returns-then-n-eq1 : goal.returns-then-n-eq1
returns-then-n-eq1 c =
    let made = rw (c.from.ensures, c.word_at.ensures, c.word_at-2.ensures, c.word_at-3.ensures) at (composed_low 8 (omega arith) c.compose-w.ensures) in
    made_inverted c.args.table c.args.n (c.compose-w.result % 256) c.requires made (eq-eqb (c.args.n / 2 ^ 0 % 2) 1 (omega (arith, c.if-n-eq1.true)))

pub returns-else-n-eq1 : goal.returns-else-n-eq1
returns-else-n-eq1 c =
    let made = rw (c.from.ensures, c.word_at.ensures, c.word_at-2.ensures, c.word_at-3.ensures) at (composed_low 8 (omega arith) c.compose-w.ensures) in
    made_as_is c.args.table c.args.n (c.compose-w.result % 256) c.requires made (ne_eqb (c.args.n / 2 ^ 0 % 2) 1 (λ e. c.if-n-eq1.false (omega arith)))
