use mathlib.Core.List.{[]}
use Prim.Native.Nat.{◌+◌, ◌≤◌}
use Rattle.cut_circuit.specs.Packed.{packed_of}
use Rattle.cut_forced.specs.Outside.{PinsOutside}
use Rattle.cut_forced.proofs.outside.Given as goal

abbrev pub invariant-loop-j : goal.invariant-loop-j
invariant-loop-j l = PinsOutside (packed_of l.w.s l.w.net.now []) l.w.slots.now l.x l.j l.c l.out × (l.out ≤ l.c + l.j)
