use Rattle.std.proofs.Common.{ℕ, ◌+◌, ◌*◌, ◌^◌, ◌<◌, sym, ap, subst, ◌∙◌, arith}
use Rattle.cone_words.specs.RepeatLaws.{repeated-start, repeated-below, repeated-twice, repeated_end}
use Rattle.cone_words.proofs.whole.Goals as goal

pub loop-j-init : goal.loop-j-init
loop-j-init c = c.low-word.ensures ∙ sym (repeated-start c.args.n c.args.table)

pub twice-word-requires : goal.twice-word-requires
twice-word-requires c =
    (c.loop-j-test.true, subst (λ (w : ℕ). w < 2 ^ (2 ^ c.loop-j.j)) (sym c.loop-j.invariant) (repeated-below c.args.n c.args.table c.loop-j.j))

pub loop-j-preserved : goal.loop-j-preserved
loop-j-preserved c =
    c.twice-word.ensures ∙ ap (λ (w : ℕ). w + w * 2 ^ (2 ^ c.loop-j.j)) c.loop-j.invariant ∙ repeated-twice c.args.n c.args.table c.loop-j.j c.loop-j.auto.j

pub returns : goal.returns
returns c = c.loop-j.invariant ∙ repeated_end c.args.n c.args.table c.loop-j.j (omega arith)
