use mathlib.Core.Path.{◌≡◌}
use Rattle.cone_words.specs.RepeatLaws.{repeated_to}
use Rattle.cone_words.proofs.whole.Given as goal

abbrev pub invariant-loop-j : goal.invariant-loop-j
invariant-loop-j l = l.word ≡ repeated_to l.n l.table l.j
