use Rattle.cover_tally.specs.TallyLaws.{tallied_none}
use Rattle.cover_tally.proofs.Tally.new.Goals as goal

pub returns : goal.returns
returns c = tallied_none
