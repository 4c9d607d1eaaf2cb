use Rattle.std.proofs.lemmas.Result.{err_from_is_err_and}
use Rattle.label_sweep.specs.Sweeping.{swept-next, swept_end, swept-past}
use Rattle.label_sweep.proofs.sweep_all.Goals as goal

pub returns-in_err-stop-clause-settle_told : goal.returns-in_err-stop-clause-settle_told
returns-in_err-stop-clause-settle_told c =
    let p = err_from_is_err_and c.from_residual.result c.from_residual.ensures.1 in
    rw (p.1) (swept-past c.loop-stop.invariant.1 c.in_err-stop.ensures.progress)

pub loop-stop-preserved : goal.loop-stop-preserved
loop-stop-preserved c = (c.in_ok-stop.ensures.at_rest_2, swept-next c.loop-stop.invariant.1 c.in_ok-stop.ensures.progress)

pub returns-clause-settle_told : goal.returns-clause-settle_told
returns-clause-settle_told c = swept_end c.requires.ready.1 c.loop-stop.invariant.1 c.loop-stop-test.false
