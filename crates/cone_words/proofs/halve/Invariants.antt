use Rattle.cone_words.specs.WholeWords.{Halving}
use Rattle.cone_words.proofs.halve.Given as goal

abbrev pub invariant-loop-i : goal.invariant-loop-i
invariant-loop-i l = Halving l.s l.initial.words l.words l.i
