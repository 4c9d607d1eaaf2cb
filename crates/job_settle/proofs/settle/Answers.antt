use Rattle.std.proofs.Common.{le_refl}
use Rattle.std.proofs.lemmas.Result.{err_from_is_err_and}
use Rattle.refusals.specs.RefusalLaws.{number_positive}
use Rattle.job_settle.specs.SettlingLaws.{settled-net, settled-check, settled_lacks, settled_planning, settled-none, settled-cover}
use Rattle.job_settle.proofs.settle.Goals as goal

pub returns-in_err-check_graph-clause-settled_as : goal.returns-in_err-check_graph-clause-settled_as
returns-in_err-check_graph-clause-settled_as c =
    let p = err_from_is_err_and c.from_residual.result c.from_residual.ensures.1 in
    rw (p.1, p.2) (settled-check c.requires.settling c.in_err-check_graph.ensures (number_positive c.in_err-check_graph.field-0.0))

pub returns-then-call-clause-settled_as : goal.returns-then-call-clause-settled_as
returns-then-call-clause-settled_as c = settled_lacks c.requires.settling c.in_ok-check_graph.ensures (le_refl 0) c.if-call.true

pub plan-requires-clause-planning : goal.plan-requires-clause-planning
plan-requires-clause-planning c = settled_planning c.requires.settling c.in_ok-check_graph.ensures (le_refl 0)

pub returns-in-Some-clause-settled_as : goal.returns-in-Some-clause-settled_as
returns-in-Some-clause-settled_as c = settled-cover c.requires.settling c.in_ok-check_graph.ensures (le_refl 0) c.if-call.false c.in-Some.ensures.planned

pub returns-in-Some-clause-settled_net : goal.returns-in-Some-clause-settled_net
returns-in-Some-clause-settled_net c = settled-net c.requires.settling c.in_ok-check_graph.ensures (le_refl 0) c.in-Some.ensures.plan_kept

pub returns-in-None-clause-settled_as : goal.returns-in-None-clause-settled_as
returns-in-None-clause-settled_as c = settled-none c.requires.settling c.in_ok-check_graph.ensures (le_refl 0) c.if-call.false c.in-None.ensures.planned c.unmet_of.ensures
