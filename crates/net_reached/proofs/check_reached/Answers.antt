use Rattle.net_reached.specs.ReachingLaws.{reach-all}
use Rattle.net_reached.proofs.check_reached.Goals as goal

pub returns : goal.returns
returns c =
    let reach-all' = c.reach_all in
    reach-all reach-all'.ensures.0 reach-all'.ensures.1 c.all_marked.ensures
