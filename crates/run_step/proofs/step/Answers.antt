use Rattle.run_step.specs.SteppingLaws.{valued_step}
use Rattle.run_step.proofs.step.Goals as goal

pub returns : goal.returns
returns c = valued_step c.requires c.value_all.ensures c.advance.ensures
