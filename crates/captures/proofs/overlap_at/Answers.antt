use mathlib.Core.Path.{◌≡◌}
use Prim.Native.Nat.{◌≤◌, ◌+◌}
use native.Mathlib.Omega.{arith}
use native.Mathlib.Decide.{dec_le}
use Rattle.std.proofs.Math.ListN.{length}
use Rattle.captures.specs.Captures.{overlap}
use Rattle.captures.specs.AgreesLaws.{overlap-none, overlap-all, overlap-part}
use Rattle.captures.proofs.overlap_at.Goals as goal

pub returns : goal.returns
returns c = go (dec_le (length c.args.first.now) c.args.s) (dec_le (length c.args.second.now + c.args.s) (length c.args.first.now))
  where
    go : Dec (length c.args.first.now ≤ c.args.s) → Dec (length c.args.second.now + c.args.s ≤ length c.args.first.now) → c.min.result ≡ overlap c.args.first.now c.args.second.now c.args.s
    go (yes h) d = omega (arith, overlap-none c.args.first.now c.args.second.now c.args.s h)
    go (no h) (yes k) = omega (arith, h, overlap-all c.args.first.now c.args.second.now c.args.s k)
    go (no h) (no k) = omega (arith, h, k, overlap-part c.args.first.now c.args.second.now c.args.s (omega (arith, h)) (omega (arith, k)))
