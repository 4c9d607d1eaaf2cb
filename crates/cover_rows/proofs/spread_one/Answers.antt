use mathlib.Core.Path.{sym, ◌∙◌}
use Rattle.cover_rows.specs.LeafSpreadLaws.{spread_flat, spread_deep}
use Rattle.cover_rows.proofs.spread_one.Goals as goal

pub returns-then-has : goal.returns-then-has
returns-then-has c =
    let start = c in
    let a = c.args in let p = c.requires in
    spread_deep a.map a.depths a.i a.so.now p.i_lt_most_pins p.spreading (sym c.has.ensures ∙ c.if-has.true)

pub returns : goal.returns
returns c =
    let start = c in
    let a = c.args in let p = c.requires in
    spread_flat a.map a.depths a.i a.so.now p.i_lt_most_pins p.spreading (sym c.has.ensures ∙ c.if-has.false)
