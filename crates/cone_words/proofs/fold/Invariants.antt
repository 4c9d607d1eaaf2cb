use mathlib.Core.Path.{◌≡◌}
use Prim.Native.Nat.{◌-◌, ◌^◌, ◌≤◌}
use lib.ListN.{length}
use Rattle.cone_words.specs.WholeWords.{Folded}
use Rattle.cone_words.proofs.fold.Given as goal

abbrev pub invariant-loop-j : goal.invariant-loop-j
invariant-loop-j l = (l.n ≡ 2 ^ (l.m - l.j)) × (l.n ≤ length l.words) × Folded l.table l.pins l.j l.n l.words × (length l.words ≡ length l.initial.words)
