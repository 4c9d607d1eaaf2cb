use mathlib.Core.Path.{◌≡◌, sym, ap, ap₂, ◌∙◌}
use mathlib.Core.List.{List}
use Prim.Native.Nat.{ℕ, ◌+◌}
use native.Mathlib.Omega.{arith}
use lib.IntN.{ℤ}
use lib.ListN.{get_or}
use mir.Syntax.{w64}
use mir.Val.{to_z, of_z}
use Rattle.integers.specs.Lag.{lag}
use Rattle.cover_records.specs.Kept.{Kept, label_at}
use Rattle.cover_records.specs.Rows.{kept_in}
use Rattle.signed.specs.Range.{Small}
use Rattle.signed.specs.RangeLaws.{back, small-fits}
use Rattle.cover_writer.specs.Writing.{LutHeld}
use Rattle.text_digits.specs.Put.{Put}
use Rattle.text_listing.specs.Text.{GateAsked, line_front}
use Rattle.cover_registers.specs.RegisterCountLaws.{lag-told, within-lag, within-small}
use Rattle.text_digits.specs.PutLaws.{put-none, put_then, put-more, put_same}
use Rattle.text_listing.specs.LineLaws.{line-none, line-some}
use Rattle.text_listing.proofs.put_gate.Goals as goal

-- `text_listing::put_gate` meets its contract, by the mark.
-- what gate g needs, where its mark is not 0
module _ (a : Kept) (g at : ℕ) {out : List ℕ} (p : GateAsked a g at out) (m : get_or a.marks g 0 ≡ 0 → ⊥) where
  held : LutHeld a g
  held = p.luts.each g p.gate m

  label : ℤ
  label = label_at a (a.inputs + g)

  small-lag : Small (lag a.period label)
  unfolding label
  small-lag = within-small (lag a.period label) (omega arith) (within-lag held.small_lag)

  -- the label and the lag as they were lent
  lent : Small label
  unfolding label
  lent = held.label

  lagged : (r : ℤ) → r ≡ lag a.period (to_z w64 (of_z w64 label)) → to_z w64 (of_z w64 r) ≡ lag a.period label
  lagged r e =
      let f = lag-told label a.period r lent e in
      ap (λ (z : ℤ). to_z w64 (of_z w64 z)) f ∙ back (lag a.period label) (small-fits (lag a.period label) small-lag)

  lent-label : to_z w64 (of_z w64 label) ≡ label
  lent-label = back label (small-fits label lent)

  front : {k r : ℕ} {before after : List ℕ} (z : ℤ) → z ≡ lag a.period (to_z w64 (of_z w64 label))
      → Put k at (line_front (a.inputs + g) (to_z w64 (of_z w64 label)) (to_z w64 (of_z w64 z))) before after r
      → Put k at (line_front (a.inputs + g) label (lag a.period label)) before after r
  front z e w = put_same (ap₂ (line_front (a.inputs + g)) lent-label (lagged z e)) w

pub returns-then-k-g-eq0 : goal.returns-then-k-g-eq0
returns-then-k-g-eq0 c =
    let a = c.args in
    let k = (kept_in a.k.head.inputs a.k.head.gates a.k.head.period a.k.labels.now a.k.rows.now a.tables.now) in
    put-more 361 (omega arith) (put_same (sym (line-none k a.g c.if-k-g-eq0.true)) (put-none a.at a.out.now))

pub put_front-c-requires : goal.put_front-c-requires
unfolding label
put_front-c-requires c = let if1 = c.if-k-g-eq0 in
    let start = c in
    let a = c.args in
    let k = (kept_in a.k.head.inputs a.k.head.gates a.k.head.period a.k.labels.now a.k.rows.now a.tables.now) in
    let r = c.requires.gate_asked.room in
    record { small = (rw (lent-label k a.g a.at c.requires.gate_asked if1.false) (lent k a.g a.at c.requires.gate_asked if1.false), rw (lagged k a.g a.at c.requires.gate_asked if1.false c.lag_of-lag.result c.lag_of-lag.ensures) (small-lag k a.g a.at c.requires.gate_asked if1.false)); at_in_bounds = omega arith }

pub returns : goal.returns
unfolding label
returns c =
    let put_front = c.put_front-c in
    let lag-of = c.lag_of-lag in
    let if1 = c.if-k-g-eq0 in
    let start = c in
    let a = c.args in
    let k = (kept_in a.k.head.inputs a.k.head.gates a.k.head.period a.k.labels.now a.k.rows.now a.tables.now) in
    let e = c.leaves_of-leaves.ensures in
    put_same (sym (line-some k a.g if1.false))
    (put_then (front k a.g a.at c.requires.gate_asked if1.false lag-of.result lag-of.ensures put_front.ensures)
    (rw (c.low-table.ensures, e.nodes, e.backs, e.place, e.count) at c.put_back.ensures))
