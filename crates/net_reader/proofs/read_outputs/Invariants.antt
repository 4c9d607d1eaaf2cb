use Rattle.net_reader.specs.NetStoreLaws.{OutputsSoFar}
use Rattle.net_reader.proofs.read_outputs.Given as goal

abbrev pub invariant-loop-o : goal.invariant-loop-o
invariant-loop-o l = OutputsSoFar l.rules.wide l.bytes l.at l.s l.initial.net l.net l.next l.o
