use Rattle.std.proofs.Common.{ℕ, subst}
use Rattle.run_values.specs.Sheets.{sheet}
use Rattle.run_step.specs.Stepping.{StepTold}
use Rattle.run_step.specs.SteppingLaws.{run_none, run_more}
use Rattle.run_step.proofs.run.Goals as goal

pub loop-t-init : goal.loop-t-init
loop-t-init c = run_none c.args.pairs.now c.args.kept.now c.args.known.now

pub loop-t-preserved : goal.loop-t-preserved
loop-t-preserved c =
    let step = c.step in
    let loop = c.loop-t in
    run_more c.args.pairs.now c.args.kept.now c.args.known.now c.requires.runnable loop.invariant
    (subst (λ (w : ℕ). StepTold (sheet c.args.z c.args.net.now c.args.tables.now loop.kept w) step.new.kept loop.known step.new.known) c.pair_at-word.ensures step.ensures)
