use mathlib.Core.List.{List, []}
use Prim.Native.Nat.{ℕ, ◌<◌}
use native.Mathlib.Omega.{arith}
use Rattle.cover_theory.specs.SharedRegisters.{Tap}
use Rattle.cover_records.specs.Kept.{Kept, entries_from}
use Rattle.cover_records.specs.Rows.{kept_in}
use Rattle.cover_records.specs.Listing.{lut_taps}
use Rattle.cover_writer.specs.BytesBehind.{wrote_none}
use Rattle.cover_registers.specs.Counting.{lags_of}
use Rattle.cover_registers.specs.LagLaws.{luts-none, luts-more}
use Rattle.cover_contents.specs.CellLaws.{taps_none, part-asks, part-wrote}
use Rattle.cover_contents.proofs.write_luts.Goals as goal

-- `cover_contents::write_luts` meets its contract. The loop's invariant: the registers of the leaves of the gates passed are written. The measure is the number of gates left.
-- the connections of the LUTs of the gates below g, and those of gate g
module _ (a : Kept) where
  abbrev taps : ℕ → List Tap
  taps g = lut_taps (lags_of a) (entries_from a 0 g)

  abbrev one : ℕ → List Tap
  one g = lut_taps (lags_of a) (entries_from a g 1)

pub loop-g-init : goal.loop-g-init
loop-g-init c =
    let s = c.args in
    let a = kept_in s.k.head.inputs s.k.head.gates s.k.head.period s.k.labels.now s.k.rows.now [] in
    rw (luts-none (lags_of a) a) (rw (taps_none s.trace.now (lags_of a)) (wrote_none s.area.now))

pub write_gate-at-requires : goal.write_gate-at-requires
write_gate-at-requires c =
    let s = c.args in
    let a = kept_in s.k.head.inputs s.k.head.gates s.k.head.period s.k.labels.now s.k.rows.now [] in
    let es = lags_of a in
    let taken = taps a in
    let next = one a in
    let q = c.requires.cells_asked in
    let l = c.loop-g in
    let h : l.g < s.k.head.gates = omega arith in
    record { leaves_held = c.requires.leaves_held; g_lt_gates = (h, c.requires.gates_in_bounds); cells_asked = part-asks s.trace.now es taken next (luts-more es a) q l.invariant h }

pub loop-g-preserved : goal.loop-g-preserved
loop-g-preserved c =
    let s = c.args in
    let a = kept_in s.k.head.inputs s.k.head.gates s.k.head.period s.k.labels.now s.k.rows.now [] in
    let es = lags_of a in
    let taken = taps a in
    let next = one a in
    let q = c.requires.cells_asked in
    let l = c.loop-g in
    part-wrote s.trace.now es taken next (luts-more es a) q l.invariant (omega arith) c.write_gate-at.ensures
