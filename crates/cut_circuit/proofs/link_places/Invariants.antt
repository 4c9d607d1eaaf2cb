use Prim.Native.Nat.{◌+◌, ◌*◌, ◌≤◌}
use Rattle.limits.specs.Limits.{most_pins}
use Rattle.net_model.specs.PackedNet.{nexts_at, heads_at, Apart}
use Rattle.cut_circuit.specs.PinLinks.{LinkedIn}
use Rattle.cut_circuit.proofs.link_places.Given as goal

abbrev pub invariant-loop-p : goal.invariant-loop-p
invariant-loop-p l = (l.p ≤ most_pins * l.gates) × LinkedIn l.nodes l.gates l.net l.p × Apart (nexts_at l.gates) (heads_at l.gates + l.nodes) l.initial.net l.net
