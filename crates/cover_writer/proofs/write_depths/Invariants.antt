use mathlib.Core.List.{[]}
use Rattle.net_model.specs.Arrays.{copies_from}
use Rattle.cover_records.specs.CoverBytes.{depths}
use Rattle.cover_writer.specs.Writing.{Wrote}
use Rattle.cover_writer.proofs.write_depths.Given as goal

abbrev pub invariant-loop-j : goal.invariant-loop-j
invariant-loop-j l = Wrote (depths (copies_from [] l.backs l.at l.j)) l.initial.area l.area l.end
