use Rattle.net_section.specs.SectionReadLaws.{PastsSoFar}
use Rattle.net_section.proofs.read_section.Given as goal

abbrev pub invariant-loop-i : goal.invariant-loop-i
invariant-loop-i l = PastsSoFar l.bytes l.at l.n l.next l._i
