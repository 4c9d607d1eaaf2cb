use Prim.Native.Nat.{ℕ}
use native.Mathlib.Omega.{arith}
use mathlib.Core.Path.{subst}
use Rattle.sequences.specs.Tests.{Tells}
use Rattle.captures.specs.WordRuns.{Same}
use Rattle.captures.specs.WordRunLaws.{run_inside, whole_run}
use Rattle.captures.proofs.agrees.Goals as goal

pub same-requires : goal.same-requires
same-requires c =
    let a = c.args in
    let n = c.overlap_at-n.ensures in
    let o = run_inside a.first.now a.second.now a.s 0 c.overlap_at-n.result (omega (arith, c.if-n-lt-OVERLAP.false)) (omega (arith, n)) in
    (o.0, o.1)

pub returns : goal.returns
returns c =
    let a = c.args in
    let n = c.overlap_at-n.ensures in
    let t = subst (λ (m : ℕ). Tells c.same.result (Same a.first.now a.second.now a.s 0 m)) n c.same.ensures in
    whole_run a.first.now a.second.now a.s (omega (arith, n, c.if-n-lt-OVERLAP.false)) t
