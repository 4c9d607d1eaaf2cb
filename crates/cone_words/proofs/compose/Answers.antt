use mathlib.Core.Path.{subst}
use native.Mathlib.Omega.{arith}
use Rattle.cone_words.specs.WholeWords.{Spread}
use Rattle.cone_words.proofs.WholeWordLaws.{fold_start, few_choices, one_shifted}
use Rattle.cone_words.proofs.compose.Goals as goal

pub spread-requires : goal.spread-requires
spread-requires c =
    let m = c.args.m in
    let e = one_shifted m c.requires in
    let f = few_choices m c.requires in
    (omega (arith, e, f), omega (arith, e, f))

pub fold-requires : goal.fold-requires
fold-requires c =
    let m = c.args.m in
    let e = one_shifted m c.requires in
    let f = few_choices m c.requires in
    (c.requires, omega (arith, f, c.spread.auto.words), fold_start c.args.words (subst (Spread c.args.table c.spread.new.words) e c.spread.ensures))
