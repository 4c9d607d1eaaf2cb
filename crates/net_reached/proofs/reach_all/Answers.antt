use native.Mathlib.Omega.{arith}
use Rattle.net_reached.proofs.reach_all.Goals as goal

pub loop-new-init : goal.loop-new-init
loop-new-init c = let s = c.reach_sweep-new.ensures in (s.reaching, λ e. s.shut e (omega arith))

pub loop-new-preserved : goal.loop-new-preserved
loop-new-preserved c = let s = c.reach_sweep-new-in-loop-new.ensures in (s.reaching, λ e. s.shut e (omega arith))

pub returns : goal.returns
returns c = (c.loop-new.invariant.0, c.loop-new.invariant.1 (omega arith))
