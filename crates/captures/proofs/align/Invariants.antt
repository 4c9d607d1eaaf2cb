use Prim.Native.Nat.{ℕ, ◌<◌}
use Rattle.captures.specs.Captures.{Agrees}
use Rattle.captures.proofs.align.Given as goal

abbrev pub invariant-loop-s : goal.invariant-loop-s
invariant-loop-s l = (j : ℕ) → j < l.s → ¬ Agrees l.first l.second j
