use Rattle.std.proofs.Common.{ℕ, ◌*◌, ◌/◌, ◌-◌, ◌^◌, ◌≡◌, sym, ap, subst, ◌∙◌, arith, add-one}
use Rattle.cone_words.specs.WholeWords.{Folded}
use Rattle.cone_words.proofs.WholeWordLaws.{fold_step, half-left}
use Rattle.cone_words.proofs.fold.Goals as goal

pub loop-j-preserved : goal.loop-j-preserved
loop-j-preserved c =
    let m = c.args.m in
    let j = c.loop-j.j in
    let n = c.loop-j.n in
    let e = half-left m j c.loop-j-test.true in
    let h : n ≡ 2 * (n / 2) = omega (arith, e, c.loop-j.invariant.0) in (
      omega (arith, e, c.loop-j.invariant.0) ∙ ap (λ (k : ℕ). 2 ^ (m - k)) (sym (add-one j)),
      omega (arith, c.loop-j.invariant.1, c.halve.auto.words),
      subst (λ (k : ℕ). Folded c.args.table c.args.pins k (n / 2) c.halve.new.words) (sym (add-one j))
          (fold_step (omega (arith, c.loop-j-test.true, c.requires.0)) (subst (λ (k : ℕ). Folded c.args.table c.args.pins j k c.loop-j.words) h c.loop-j.invariant.2) c.halve.ensures),
      c.halve.auto.words ∙ c.loop-j.invariant.3,
    )
