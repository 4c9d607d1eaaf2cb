use Rattle.net_reader.specs.NetStoreLaws.{GatesSoFar}
use Rattle.net_reader.proofs.read_gates.Given as goal

abbrev pub invariant-loop-g : goal.invariant-loop-g
invariant-loop-g l = GatesSoFar l.rules.wide l.bytes l.at l.k l.s l.net l.tables l.next l.g
