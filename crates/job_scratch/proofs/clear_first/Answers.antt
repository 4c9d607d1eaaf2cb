use Rattle.std.proofs.Common.{rules}
use Rattle.cover_records.specs.Outcomes.{cleared}
use Rattle.job_scratch.proofs.clear_first.Goals as goal

pub returns : goal.returns
unfolding cleared
returns c = search rules
