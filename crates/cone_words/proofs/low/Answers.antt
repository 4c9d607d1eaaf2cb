use Rattle.cone_words.proofs.WholeWordLaws.{masked}
use Rattle.cone_words.proofs.low.Goals as goal

pub returns : goal.returns
returns c = masked c.args.word c.args.n c.requires
