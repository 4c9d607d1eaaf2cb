use mathlib.Core.List.{[]}
use Prim.Native.Nat.{◌≤◌}
use Rattle.cut_circuit.specs.Packed.{packed_of}
use Rattle.cut_forced.specs.Outside.{Outside}
use Rattle.cut_forced.proofs.few_outside.Given as goal

abbrev pub invariant-loop-x : goal.invariant-loop-x
invariant-loop-x l = (l.c ≤ l.k) × Outside (packed_of l.w.s l.w.net.now []) l.w.slots.now l.members l.x-index l.c
