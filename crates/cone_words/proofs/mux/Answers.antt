use Rattle.cone_words.proofs.WholeWordLaws.{mux_bits}
use Rattle.cone_words.proofs.mux.Goals as goal

pub returns : goal.returns
returns c = mux_bits c.args.s c.args.a c.args.b
