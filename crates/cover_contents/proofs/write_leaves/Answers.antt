use mathlib.Core.Path.{refl, sym, ap}
use mathlib.Core.List.{List, [], ◌∷◌}
use Prim.Native.Nat.{ℕ, ◌+◌, ◌<◌}
use native.Mathlib.Omega.{arith}
use mir.Syntax.{w64}
use mir.Val.{to_z, of_z}
use lib.IntN.{ℤ, pos, ◌+ℤ◌, ◌-ℤ◌}
use lib.ListN.{get_or}
use Rattle.net_model.specs.Arrays.{copies_from}
use Rattle.cover_theory.specs.Key.{Entry}
use Rattle.cover_theory.specs.SharedRegisters.{Tap, tap}
use Rattle.cover_records.specs.Kept.{entries_in}
use Rattle.cover_records.specs.Listing.{lag_in, leaf_taps}
use Rattle.cover_writer.specs.BytesBehind.{wrote_none}
use Rattle.cover_registers.specs.Counting.{marking}
use Rattle.cover_registers.specs.RegisterCountLaws.{told}
use Rattle.cover_registers.specs.LagLaws.{leaf-none, leaf-more}
use Rattle.cover_contents.specs.CellLaws.{taps_none, asked-same, part-asks, part-wrote}
use Rattle.cover_contents.proofs.write_leaves.Goals as goal

-- `cover_contents::write_leaves` meets its contract. The loop's invariant: the registers of the first j leaves are written. The measure is the number of leaves left.
-- the connections of the first j leaves, and that of the next
module _ (es : List Entry) (r : ℤ) (nodes backs : List ℕ) (p : ℕ) where
  abbrev taps : ℕ → List Tap
  taps j = leaf_taps es r (copies_from nodes backs p j)

  abbrev one : ℕ → List Tap
  one j = tap (get_or nodes (p + j) 0) ((pos (get_or backs (p + j) 0) +ℤ r) -ℤ lag_in es (get_or nodes (p + j) 0)) ∷ []

pub loop-j-init : goal.loop-j-init
loop-j-init c =
    let s = c.args in
    let es = entries_in (marking s.k.head.inputs s.k.head.gates s.k.head.period s.k.labels.now s.k.rows.now) in
    rw (leaf-none es (to_z w64 (of_z w64 s.own)) s.leaves.nodes.now s.leaves.backs.now s.leaves.at) (rw (taps_none s.trace.now es) (wrote_none s.area.now))

pub write_connection-at-requires : goal.write_connection-at-requires
write_connection-at-requires c =
    let s = c.args in
    let es = entries_in (marking s.k.head.inputs s.k.head.gates s.k.head.period s.k.labels.now s.k.rows.now) in
    let r = to_z w64 (of_z w64 s.own) in
    let taken = taps es r s.leaves.nodes.now s.leaves.backs.now s.leaves.at in
    let next = one es r s.leaves.nodes.now s.leaves.backs.now s.leaves.at in
    let more = leaf-more es r s.leaves.nodes.now s.leaves.backs.now s.leaves.at in
    let e = told {m = 128} (omega arith) (record { same = refl; within = c.requires.below.1 }) in
    let q = asked-same s.trace.now es (ap (λ (z : ℤ). leaf_taps es z (copies_from s.leaves.nodes.now s.leaves.backs.now s.leaves.at s.leaves.n)) (sym e)) c.requires.cells_asked in
    let l = c.loop-j in
    let h : l.j < s.leaves.n = omega arith in
    record {
      lags_held = c.requires.lags_held;
      d_lt_depth_room = (c.requires.below.0.each l.j h, rw e c.requires.below.1);
      cells_asked = part-asks s.trace.now es taken next more q l.invariant h;
    }

pub loop-j-preserved : goal.loop-j-preserved
loop-j-preserved c =
    let s = c.args in
    let es = entries_in (marking s.k.head.inputs s.k.head.gates s.k.head.period s.k.labels.now s.k.rows.now) in
    let r = to_z w64 (of_z w64 s.own) in
    let taken = taps es r s.leaves.nodes.now s.leaves.backs.now s.leaves.at in
    let next = one es r s.leaves.nodes.now s.leaves.backs.now s.leaves.at in
    let more = leaf-more es r s.leaves.nodes.now s.leaves.backs.now s.leaves.at in
    let e = told {m = 128} (omega arith) (record { same = refl; within = c.requires.below.1 }) in
    let q = asked-same s.trace.now es (ap (λ (z : ℤ). leaf_taps es z (copies_from s.leaves.nodes.now s.leaves.backs.now s.leaves.at s.leaves.n)) (sym e)) c.requires.cells_asked in
    let l = c.loop-j in
    part-wrote s.trace.now es taken next more q l.invariant (omega arith) c.write_connection-at.ensures
