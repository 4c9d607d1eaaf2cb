use mathlib.Core.Path.{◌≡◌}
use Prim.Native.Nat.{◌/◌, ◌^◌}
use lib.ListN.{length}
use Rattle.cover_records.specs.CoverBytes.{to_bytes}
use Rattle.cover_writer.specs.Writing.{Wrote}
use Rattle.cover_writer.proofs.write_table.Given as goal

abbrev pub invariant-loop-i : goal.invariant-loop-i
invariant-loop-i l = Wrote (to_bytes l.i l.table) l.initial.area l.area l.i × (length l.area ≡ length l.initial.area) × (l.rest ≡ l.table / 256 ^ l.i)
