use mathlib.Core.Path.{refl}
use native.Mathlib.Omega.{arith}
use Rattle.label_pass.specs.PassLaws.{sweep-still, swept_end, swept-past}
use Rattle.std.proofs.lemmas.Result.{err_from_is_err_and}
use Rattle.label_pass.proofs.sweep.Goals as goal

pub returns-in_err-rose : goal.returns-in_err-rose
returns-in_err-rose c =
    let p = err_from_is_err_and c.from_residual.result c.from_residual.ensures.1 in
    rw (p.1) (record { at_rest_2 = c.in_err-rose.ensures.at_rest_2; sweep_told = swept-past c.loop-i.invariant.1 c.in_err-rose.ensures.visited })

pub loop-i-preserved : goal.loop-i-preserved
loop-i-preserved c = (
  c.in_ok-rose.ensures.at_rest_2,
  sweep-still c.loop-i-test.true c.loop-i.invariant.1 (rw c.nth.ensures at c.in_ok-rose.ensures.visited) c.if-rose.false refl refl,
)

pub returns : goal.returns
returns c = record { at_rest_2 = c.loop-i.invariant.0; sweep_told = swept_end (omega (arith, c.loop-i-test.false)) c.loop-i.invariant.1 }
