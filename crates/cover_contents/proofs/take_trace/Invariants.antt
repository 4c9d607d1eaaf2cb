use Rattle.cover_contents.specs.Traces.{Tracing}
use Rattle.cover_contents.proofs.take_trace.Given as goal

abbrev pub invariant-loop-t : goal.invariant-loop-t
invariant-loop-t l = Tracing l.z l.net l.tables l.initial.kept l.initial.known l.initial.trace l.kept l.known l.trace l.t
