-- Laws: the rules that are offered stay within the limits, from which the programs' arrays have their lengths.
use Rattle.std.specs.Prelude.{◌≤◌}
use Rattle.std.proofs.Common.{arith}
use Rattle.limits.specs.Limits.{most_gates, most_k, most_period, most_luts, cover_area, scratch_area}
use Rattle.limits.specs.Courses.{Offered, is-long, is-short}
use Rattle.limits.specs.declared.Rules.{Rules}

pub record Within (R : Rules) : Type 0 where
  pub gates : R.gates ≤ most_gates
  pub most : R.most ≤ most_k
  pub period : R.period ≤ most_period
  pub luts : R.luts ≤ most_luts
  pub area : cover_area ≤ R.area
  pub scratch : scratch_area ≤ R.scratch

pub offered_within : {R : Rules} → Offered R → Within R
offered_within is-long = record {
  gates = omega arith;
  most = omega arith;
  period = omega arith;
  luts = omega arith;
  area = omega arith;
  scratch = omega arith;
}
offered_within is-short = record {
  gates = omega arith;
  most = omega arith;
  period = omega arith;
  luts = omega arith;
  area = omega arith;
  scratch = omega arith;
}
