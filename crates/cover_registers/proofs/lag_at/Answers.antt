use mathlib.Core.Path.{◌≡◌, sym, ◌∙◌}
use native.Mathlib.Omega.{arith}
use Prim.Native.Nat.{ℕ, ◌+◌, ◌-◌, ◌<◌, ◌≤◌}
use lib.IntN.{ℤ, pos}
use lib.ListN.{get_or}
use mir.Syntax.{w64}
use mir.Val.{to_z, of_z}
use Rattle.integers.specs.Lag.{lag}
use Rattle.cover_records.specs.Kept.{Kept, entries_in, label_at}
use Rattle.cover_records.specs.Listing.{lag_in}
use Rattle.signed.specs.Range.{Small}
use Rattle.cover_registers.specs.Counting.{Counted, LagsHeld, marking}
use Rattle.cover_registers.specs.RegisterCountLaws.{counted_none, counted_back, within-lag, lag-told}
use Rattle.cover_registers.specs.LagLaws.{lag-input, lag-beyond, lag-unmarked, lag-marked}
use Rattle.cover_registers.proofs.lag_at.Goals as goal

-- `cover_registers::lag_at` meets its contract, by the kind of node.
-- node u is gate u − inputs
module _ (a : Kept) (u : ℕ) (p : LagsHeld a) (l : a.inputs ≤ u) (h : u - a.inputs < a.gates) where
  node : a.inputs + (u - a.inputs) ≡ u
  node = omega arith

  unmarked : get_or a.marks (u - a.inputs) 0 ≡ 0 → lag_in (entries_in a) u ≡ pos 0
  unmarked m = rw node at (lag-unmarked a (u - a.inputs) h m)

  module _ (m : get_or a.marks (u - a.inputs) 0 ≡ 0 → ⊥) where
    small : Small (label_at a u)
    small = rw node at (p.label (u - a.inputs) h m)

    counted : (r : ℤ) → r ≡ lag a.period (to_z w64 (of_z w64 (label_at a u))) → Counted 128 (lag_in (entries_in a) u) r
    counted r e =
        let f = lag-told (label_at a u) a.period r small e in
        record {
          same = f ∙ sym (rw node at (lag-marked a (u - a.inputs) h m));
          within = rw f (within-lag (rw node at (p.small (u - a.inputs) h m)));
        }

pub returns-then-u-s : goal.returns-then-u-s
returns-then-u-s c =
    let s = c.args in
    let a = marking s.s.inputs s.s.gates s.s.period s.labels.now s.rows.now in
    counted_none 128 (lag-input a s.u c.if-u-s.true)

pub returns-then-s-g : goal.returns-then-s-g
returns-then-s-g c =
    let s = c.args in
    let a = marking s.s.inputs s.s.gates s.s.period s.labels.now s.rows.now in
    let l = c.if-u-s.false in
    let h = c.if-s-g.true in
    counted_none 128 (lag-beyond a s.u (omega arith))

pub returns-then-rows-g-eq0 : goal.returns-then-rows-g-eq0
returns-then-rows-g-eq0 c =
    let start = c in
    let s = c.args in
    let a = marking s.s.inputs s.s.gates s.s.period s.labels.now s.rows.now in
    let q = c.requires in
    counted_none 128 (unmarked a s.u q c.if-u-s.false c.if-s-g.false c.if-rows-g-eq0.true)

pub returns : goal.returns
returns c =
    let start = c in
    let s = c.args in
    let a = marking s.s.inputs s.s.gates s.s.period s.labels.now s.rows.now in
    let q = c.requires in
    let low = c.if-u-s.false in
    let high = c.if-s-g.false in
    counted_back (omega arith) (counted a s.u q low high c.if-rows-g-eq0.false c.lag_of.result c.lag_of.ensures)
