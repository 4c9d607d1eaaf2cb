use Rattle.cone_words.proofs.LeafWordLaws.{leaf-words}
use Rattle.std.proofs.Common.{rules}
use Rattle.cone_words.proofs.leaf_word.Goals as goal

pub returns : goal.returns
returns c = leaf-words c.args.j (search rules)
