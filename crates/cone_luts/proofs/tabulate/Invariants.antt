use mathlib.Core.Path.{◌≡◌}
use lib.ListN.{length, drop}
use Rattle.net_model.specs.PackedNet.{sources_at, counts_at}
use Rattle.cover_records.specs.Rows.{sizes_in, nodes_in, backs_in}
use Rattle.cone_descent.specs.Descent.{Clear}
use Rattle.cone_luts.specs.Luts.{Tabulated}
use Rattle.cone_luts.proofs.tabulate.Given as goal

abbrev pub invariant-loop-g : goal.invariant-loop-g
invariant-loop-g l =
    (length l.luts ≡ length l.initial.luts) × Tabulated l.inputs l.gates l.net (drop (sources_at l.gates) l.net) (drop (counts_at l.gates) l.net) l.tables l.rows (sizes_in l.gates l.rows) (nodes_in l.gates l.rows) (backs_in l.gates l.rows) l.luts l.g × (length l.work ≡ length l.initial.work) × Clear l.work
