use mathlib.Core.Path.{◌≡◌, refl, ap₂, ◌∙◌}
use Prim.Native.Nat.{ℕ, min}
use native.Mathlib.Numerals.{add-one}
use native.Mathlib.Omega.{arith}
use Rattle.lutclass.specs.Classes.{turn}
use Rattle.lutclass.specs.Turnings.{turning_at, least_of, class_of}
use Rattle.lutclass.specs.ClassLaws.{least_start}
use Rattle.lutclass.proofs.smallest.Goals as goal

-- `lutclass::smallest` meets its contract. The loop's invariant: the smallest that the first n turnings make.
abbrev made : ℕ → ℕ → ℕ
made table i = turn (turning_at i) table

pub loop-n-init : goal.loop-n-init
unfolding least_of
loop-n-init c = c.from-best.ensures

pub loop-n-preserved : goal.loop-n-preserved
unfolding least_of
loop-n-preserved c =
    let loop = c.loop-n in
    c.min-best.ensures ∙ ap₂ min c.turned.ensures loop.invariant ∙ rw (add-one loop.n) refl

pub overflow_cast-result : goal.overflow_cast-result
overflow_cast-result c =
    let loop = c.loop-n in
    omega (arith, loop.invariant, least_start (made c.args.table) c.args.table loop.n)

pub returns : goal.returns
unfolding class_of
returns c =
    let loop = c.loop-n in
    let e : loop.n ≡ 96 = omega arith in
    rw (← e) loop.invariant
