use Rattle.job_find.specs.LookSteps.{LookedSoFar}
use Rattle.job_find.proofs.look_luts.Given as goal

abbrev pub invariant-loop-i : goal.invariant-loop-i
invariant-loop-i l = LookedSoFar l.two l.bytes l.g l.n l.at l.next l.least l._i
