-- The registerless depth of a node as a function of net and node, for measures: the level where no loop lacks a register, else 0.
use Rattle.std.specs.Prelude.{◌≡◌, ℕ, ◌≤◌, ◌<◌, length}
use Rattle.std.proofs.Common.{zero-le}
use Rattle.net_model.specs.Net.{Net}
use Rattle.net_model.specs.Checks.{Drives, Loopless}
use Rattle.cone_theory.specs.ChecksDecided.{loopless?}
use Rattle.cone_theory.specs.CopyOrder.{levels}

level_by : {N : Net} → Dec (Loopless N) → ℕ → ℕ
level_by (yes l) v = (levels l).level v
level_by (no n) v = 0

pub level_of : Net → ℕ → ℕ
level_of N v = level_by (loopless? N) v

-- **along a pin without a register the depth rises**
pub level-rises : {N : Net} {s v : ℕ} → Loopless N → Drives N s v → level_of N s < level_of N v
unfolding level_by level_of
level-rises {N} {s} {v} loopless d = go (loopless? N)
  where
    go : (e : Dec (Loopless N)) → level_by e s < level_by e v
    go (yes l) = (levels l).rises d
    go (no n) = absurd (n loopless)

-- no depth is above the number of gates
pub level-bound : (N : Net) (v : ℕ) → level_of N v ≤ length N.gates
unfolding level_by level_of
level-bound N v = go (loopless? N)
  where
    go : (e : Dec (Loopless N)) → level_by e v ≤ length N.gates
    go (yes l) = (levels l).bound v
    go (no n) = zero-le
