use Rattle.cover_roots.specs.RootRoundsLaws.{stored-none}
use Rattle.cover_roots.proofs.finish.Goals as goal

pub returns-in-None : goal.returns-in-None
returns-in-None c = rw c.in-None.is (stored-none c.requires.0 c.requires.1)
