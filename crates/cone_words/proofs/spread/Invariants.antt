use mathlib.Core.Path.{◌≡◌}
use lib.ListN.{length}
use Rattle.cone_words.specs.WholeWords.{Spread}
use Rattle.cone_words.proofs.spread.Given as goal

abbrev pub invariant-loop-i : goal.invariant-loop-i
invariant-loop-i l = Spread l.table l.words l.i × (length l.words ≡ length l.initial.words)
