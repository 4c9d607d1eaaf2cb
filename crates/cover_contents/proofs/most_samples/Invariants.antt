use Rattle.cover_registers.specs.Counting.{marking}
use Rattle.cover_contents.specs.Traces.{MostSamples}
use Rattle.cover_contents.proofs.most_samples.Given as goal

abbrev pub invariant-loop-g : goal.invariant-loop-g
invariant-loop-g l = MostSamples (marking l.k.head.inputs l.k.head.gates l.k.head.period l.k.labels.now l.k.rows.now) l.g l.most
