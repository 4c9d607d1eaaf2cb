use mathlib.Core.List.{List}
use Prim.Native.Nat.{ℕ}
use Rattle.net_model.specs.PackedNetLaws.{from-part}
use Rattle.cover_cuts.specs.Cuts.{Compared}
use Rattle.cover_cuts.specs.CutLaws.{told_no_cut, told-wrong, told-right}
use Rattle.cover_cuts.proofs.check_luts.Goals as goal

pub returns-then-uncut : goal.returns-then-uncut
returns-then-uncut c = let no-cuts = c.no_cuts-uncut in
    let start = c in
    record { cuts_told = told_no_cut c.requires.cutting.0 c.args.luts.now no-cuts.ensures.cuts_tried c.if-uncut.true; clear = no-cuts.ensures.clear }

pub returns-then-wrong : goal.returns-then-wrong
returns-then-wrong c = let no-cuts = c.no_cuts-uncut in
    let start = c in
    let a = c.args in
    let compared = from-part (λ (l : List ℕ). Compared a.luts.now l no-cuts.new.right a.n c.some_wrong-wrong.result) a.rows.now a.n c.some_wrong-wrong.ensures in
    record { cuts_told = told-wrong c.requires.cutting.0 a.luts.now no-cuts.ensures.cuts_tried c.if-uncut.false compared c.if-wrong.true; clear = no-cuts.ensures.clear }

pub returns : goal.returns
returns c = let no-cuts = c.no_cuts-uncut in
    let start = c in
    let a = c.args in
    let compared = from-part (λ (l : List ℕ). Compared a.luts.now l no-cuts.new.right a.n c.some_wrong-wrong.result) a.rows.now a.n c.some_wrong-wrong.ensures in
    record { cuts_told = told-right c.requires.cutting.0 a.luts.now no-cuts.ensures.cuts_tried c.if-uncut.false compared c.if-wrong.false; clear = no-cuts.ensures.clear }
