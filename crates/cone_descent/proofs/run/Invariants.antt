use mathlib.Core.Path.{◌≡◌}
use Prim.Native.Nat.{◌+◌}
use lib.ListN.{length, drop}
use Rattle.net_model.specs.PackedNet.{sources_at, counts_at}
use Rattle.cone_descent.specs.DescentSteps.{work, Turn}
use Rattle.cone_descent.proofs.run.Given as goal

abbrev pub invariant-loop-depth : goal.invariant-loop-depth
invariant-loop-depth l =
    Turn l.q.inputs l.q.gates l.q.width l.q.border l.q.room l.net (drop (sources_at l.q.gates) l.net) (drop (counts_at l.q.gates) l.net) l.leaves.nodes.now l.leaves.backs.now l.leaves.len (l.q.inputs + l.q.gate) l.nodes
    l.backs l.len l.stack.nodes.now l.stack.backs.now l.stack.turns.now l.depth l.seen l.marks × (length l.seen ≡ length l.initial.seen) × (length l.marks ≡ length l.initial.marks)

abbrev pub decreases-loop-depth : goal.decreases-loop-depth
decreases-loop-depth l =
    work l.q.room (l.len + l.depth) l.stack.turns.now l.depth
