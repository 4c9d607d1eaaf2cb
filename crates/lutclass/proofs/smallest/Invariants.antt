use mathlib.Core.Path.{◌≡◌}
use Prim.Native.Nat.{ℕ}
use Rattle.lutclass.specs.Classes.{turn}
use Rattle.lutclass.specs.Turnings.{turning_at, least_of}
use Rattle.lutclass.proofs.smallest.Given as goal

-- `lutclass::smallest` meets its contract. The loop's invariant: the smallest that the first n turnings make.
abbrev made : ℕ → ℕ → ℕ
made table i = turn (turning_at i) table

abbrev pub invariant-loop-n : goal.invariant-loop-n
invariant-loop-n l = l.best ≡ least_of (made l.table) l.table l.n
