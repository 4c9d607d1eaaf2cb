use Prim.Native.Nat.{ℕ}
use Rattle.cut_forced.specs.Asked.{unforced}
use Rattle.cut_forced.specs.Forcing.{target, Growing, Grown, Looked}
use Rattle.cut_forced.proofs.force_pins.Given as goal

abbrev pub invariant-loop-j : goal.invariant-loop-j
invariant-loop-j l =
    (v : ℕ) → Growing (unforced l.a) (target l.a.labels.now l.a.q.phi v l.a.q.height) l.a.q.k l.initial.slots l.initial.members l.m
    → Grown (unforced l.a) (target l.a.labels.now l.a.q.phi v l.a.q.height) l.a.q.k (Looked (unforced l.a) (target l.a.labels.now l.a.q.phi v l.a.q.height) l.x l.j) l.initial.slots l.initial.members l.m l.slots l.members l.c
