use Prim.Native.Nat.{ℕ, ◌-◌, ◌*◌}
use Rattle.cut_forced.specs.Asked.{unforced}
use Rattle.cut_forced.specs.Forcing.{target, Growing, Progress}
use Rattle.cut_forced.proofs.grow.Given as goal

abbrev pub invariant-loop-i : goal.invariant-loop-i
invariant-loop-i l =
    (v : ℕ) → Growing (unforced l.a) (target l.a.labels.now l.a.q.phi v l.a.q.height) l.a.q.k l.initial.slots l.initial.members 1
    → Progress (unforced l.a) (target l.a.labels.now l.a.q.phi v l.a.q.height) l.a.q.k l.slots l.members l.m l.i

abbrev pub decreases-loop-i : goal.decreases-loop-i
decreases-loop-i l = l.a.q.k * l.a.s.gates - l.i
