use Rattle.std.proofs.Common.{arith}
use Rattle.std.proofs.Math.Nat.{le_refl}
use Rattle.std.proofs.lemmas.Result.{err_from_is_err_and}
use Rattle.refusals.specs.RefusalLaws.{number_positive}
use Rattle.net_model.specs.PackedNetLaws.{kept_trans}
use Rattle.job_settle.specs.SettlingLaws.{settled-check, settled_planning, settled-least}
use Rattle.job_least.proofs.least_of.Goals as goal

pub returns-in_err-check_graph-clause-least_of : goal.returns-in_err-check_graph-clause-least_of
returns-in_err-check_graph-clause-least_of c =
    let p = err_from_is_err_and c.from_residual.result c.from_residual.ensures.1 in
    rw (p.1, p.2) (settled-check c.requires.settling c.in_err-check_graph.ensures (number_positive c.in_err-check_graph.field-0.0))

pub least-requires : goal.least-requires
least-requires c = record { planning = settled_planning c.requires.settling c.in_ok-check_graph.ensures (le_refl 0); most_table_in_bounds = omega (arith, c.requires.most_table_in_bounds) }

pub returns : goal.returns
returns c = record {
  least_of = settled-least c.requires.settling c.in_ok-check_graph.ensures (le_refl 0) c.least.ensures.least_period;
  net_kept = kept_trans c.in_ok-check_graph.ensures.kept c.least.ensures.net_kept;
}
