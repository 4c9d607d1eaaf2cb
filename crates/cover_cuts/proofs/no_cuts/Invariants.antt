use mathlib.Core.Path.{◌≡◌}
use lib.ListN.{length, drop}
use Rattle.net_model.specs.PackedNet.{sources_at, counts_at}
use Rattle.cover_records.specs.Rows.{sizes_in, nodes_in, backs_in}
use Rattle.cone_descent.specs.Descent.{Clear}
use Rattle.cover_cuts.specs.Cuts.{AllGood}
use Rattle.cover_cuts.proofs.no_cuts.Given as goal

abbrev pub invariant-loop-i : goal.invariant-loop-i
invariant-loop-i l =
    (length l.right ≡ length l.initial.right) × AllGood l.inputs l.gates l.net (drop (sources_at l.gates) l.net) (drop (counts_at l.gates) l.net) l.tables l.rows (sizes_in l.n l.rows) (nodes_in l.n l.rows) (backs_in l.n l.rows) l.k l.i l.right × (length l.work ≡ length l.initial.work) × Clear l.work
