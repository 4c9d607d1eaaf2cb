use mathlib.Core.Path.{◌≡◌, ap, ◌∙◌}
use mathlib.Core.List.{List}
use Prim.Native.Nat.{ℕ, ◌≤◌, ◌+◌, ◌*◌}
use native.Mathlib.Omega.{arith}
use lib.IntN.{ℤ, pos}
use lib.ListN.{get_or}
use mir.Syntax.{w64}
use mir.Val.{to_z, of_z}
use Rattle.integers.specs.Lag.{lag}
use Rattle.net_model.specs.Arrays.{stride}
use Rattle.cover_records.specs.Kept.{Kept, short_table}
use Rattle.cover_records.specs.Rows.{kept_in}
use Rattle.signed.specs.Range.{Small, room}
use Rattle.signed.specs.RangeLaws.{back, small-fits}
use Rattle.cover_writer.specs.Writing.{LutAsked, GateAsked, LutHeld}
use Rattle.cover_writer.specs.BytesBehind.{wrote_none}
use Rattle.cover_writer.specs.LagBytesLaws.{lag-fits}
use Rattle.cover_writer.specs.CoverBytesLaws.{at_none, at_some}
use Rattle.cover_writer.proofs.write_gate.Goals as goal

-- `cover_writer::write_gate` meets its contract, by the mark.
-- what gate g needs, where its mark is not 0
module _ (a : Kept) (g : ℕ) {area : List ℕ} (p : GateAsked a g area) (m : get_or a.marks g 0 ≡ 0 → ⊥) where
  label : ℤ
  label = get_or a.labels (a.inputs + g) (pos 0)

  held : LutHeld a g
  held = p.luts.each g p.gate m

  lag-asked : Small (to_z w64 (of_z w64 label)) × (1 ≤ a.period) × (a.period ≤ room)
  unfolding label
  lag-asked = let h = p.arrays in (rw (back label (small-fits label held.label)) held.label, h.least, omega arith)

  -- the lag as it was given and lent
  lagged : (r : ℤ) → r ≡ lag a.period (to_z w64 (of_z w64 label)) → to_z w64 (of_z w64 r) ≡ lag a.period label
  unfolding label
  lagged r e =
      let f = e ∙ ap (lag a.period) (back label (small-fits label held.label)) in
      ap (λ (z : ℤ). to_z w64 (of_z w64 z)) f ∙ back (lag a.period label) (lag-fits held.small_lag)

  lut-asked : LutAsked (a.inputs + g) a.nodes a.backs (stride * g) (get_or a.sizes g 0) (lag a.period label) (short_table (get_or a.sizes g 0) (get_or a.tables g 0)) area
  unfolding label
  lut-asked =
      let h = p.arrays in
      let f = held.few in
      let i = p.gate in
      record {
        byte = omega arith;
        few = held.few;
        nodes_held = omega arith;
        backs_held = omega arith;
        nodes_small = held.nodes;
        backs_small = held.backs;
        small_lag = held.small_lag;
        room = rw (at_some a g m) at p.room;
      }

pub returns-then-k-g-eq0 : goal.returns-then-k-g-eq0
returns-then-k-g-eq0 c =
    let a = c.args in
    rw (at_none (kept_in a.k.head.inputs a.k.head.gates a.k.head.period a.k.labels.now a.k.rows.now a.tables.now) a.g c.if-k-g-eq0.true) (wrote_none a.area.now)

pub write_lut-requires : goal.write_lut-requires
unfolding label
write_lut-requires c =
    let lag-of = c.lag_of-lag in
    let if1 = c.if-k-g-eq0 in
    let start = c in
    let a = c.args in
    let k = (kept_in a.k.head.inputs a.k.head.gates a.k.head.period a.k.labels.now a.k.rows.now a.tables.now) in
    let e = c.leaves_of-leaves.ensures in
    rw (c.low-table.ensures, e.nodes, e.backs, e.place, e.count, lagged k a.g c.requires.gate_asked if1.false lag-of.result lag-of.ensures)
    (lut-asked k a.g c.requires.gate_asked if1.false)

pub returns : goal.returns
unfolding label
returns c =
    let lag-of = c.lag_of-lag in
    let if1 = c.if-k-g-eq0 in
    let start = c in
    let a = c.args in
    let k = (kept_in a.k.head.inputs a.k.head.gates a.k.head.period a.k.labels.now a.k.rows.now a.tables.now) in
    let e = c.leaves_of-leaves.ensures in
    rw (at_some k a.g if1.false)
    (rw (c.low-table.ensures, e.nodes, e.backs, e.place, e.count, lagged k a.g c.requires.gate_asked if1.false lag-of.result lag-of.ensures) at c.write_lut.ensures)
