use Rattle.net_rows.specs.PinSpreadLaws.{spread_absent, spread_plain, spread_counted}
use mathlib.Core.Path.{sym, ◌∙◌}
use Rattle.net_rows.proofs.spread_one.Goals as goal

pub returns-then-not-has : goal.returns-then-not-has
returns-then-not-has c =
    let a = c.args in spread_absent a.maps.pins a.maps.registers a.counts a.i a.so.now c.requires.i_lt_most_pins c.requires.spreading
    (sym c.has.ensures ∙ c.if-not-has.true)

pub returns-then-has : goal.returns-then-has
returns-then-has c =
    let a = c.args in spread_counted a.maps.pins a.maps.registers a.counts a.i a.so.now c.requires.i_lt_most_pins c.requires.spreading
    (sym c.has.ensures ∙ c.if-not-has.false) (sym c.has-2.ensures ∙ c.if-has.true)

pub returns : goal.returns
returns c =
    let a = c.args in spread_plain a.maps.pins a.maps.registers a.counts a.i a.so.now c.requires.i_lt_most_pins c.requires.spreading
    (sym c.has.ensures ∙ c.if-not-has.false) (sym c.has-2.ensures ∙ c.if-has.false)
