use Rattle.cover_contents.specs.Traces.{Sampled}
use Rattle.cover_contents.proofs.take_sample.Given as goal

abbrev pub invariant-loop-v : goal.invariant-loop-v
invariant-loop-v l = Sampled l.kept l.initial.trace l.at l.v l.trace
