use Prim.Native.Nat.{◌+◌, ◌-◌}
use native.Mathlib.Omega.{arith}
use Rattle.captures.specs.WordRunLaws.{ranges_tell}
use Rattle.captures.proofs.same.Goals as goal

pub returns : goal.returns
returns c =
    let a = c.args in
    ranges_tell a.first.now a.second.now a.s a.n (a.s + a.n - a.s) (omega arith) c.requires.0 c.requires.1 c.eq.result c.eq.ensures
