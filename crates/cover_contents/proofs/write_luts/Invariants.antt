use mathlib.Core.List.{[]}
use Rattle.cover_records.specs.Kept.{entries_from}
use Rattle.cover_records.specs.Rows.{kept_in}
use Rattle.cover_records.specs.Listing.{lut_taps}
use Rattle.cover_writer.specs.Writing.{Wrote}
use Rattle.cover_registers.specs.Counting.{lags_of}
use Rattle.cover_contents.specs.Traces.{tap_cells}
use Rattle.cover_contents.proofs.write_luts.Given as goal

abbrev pub invariant-loop-g : goal.invariant-loop-g
invariant-loop-g l = Wrote (tap_cells l.trace (lags_of (kept_in l.k.head.inputs l.k.head.gates l.k.head.period l.k.labels.now l.k.rows.now [])) (lut_taps (lags_of (kept_in l.k.head.inputs l.k.head.gates l.k.head.period l.k.labels.now l.k.rows.now [])) (entries_from (kept_in l.k.head.inputs l.k.head.gates l.k.head.period l.k.labels.now l.k.rows.now []) 0 l.g))) l.initial.area l.area l.at
