use Rattle.std.proofs.lemmas.Result.{err_from_is_err_and}
use Rattle.label_pass.specs.PassLaws.{progress-then}
use Rattle.label_pass.proofs.sweep_some.Goals as goal

pub returns-in_err-last-2-clause-progress : goal.returns-in_err-last-2-clause-progress
returns-in_err-last-2-clause-progress c =
    let p = err_from_is_err_and c.from_residual-in_err-last-2.result c.from_residual-in_err-last-2.ensures.1 in
    rw (p.1) (progress-then c.loop.invariant.1 c.in_err-last-2.ensures.sweep_told.progress)
