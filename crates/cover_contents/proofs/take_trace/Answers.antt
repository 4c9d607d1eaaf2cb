use Rattle.cover_contents.specs.TraceLaws.{tracing_none, tracing_more}
use Rattle.cover_contents.proofs.take_trace.Goals as goal

pub loop-t-init : goal.loop-t-init
loop-t-init c =
    tracing_none c.args.kept.now c.args.known.now c.args.trace.now

pub loop-t-preserved : goal.loop-t-preserved
loop-t-preserved c =
    let s = c.args in
    tracing_more s.kept.now s.known.now s.trace.now c.requires.step_asked.runnable c.requires.gates_bound.0 c.loop-t.invariant c.take_sample.ensures c.step.ensures
