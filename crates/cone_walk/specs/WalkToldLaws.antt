-- Laws of what the walk tells, for callers.
use Rattle.std.specs.Prelude.{List, ℕ, ◌+◌, ◌≤◌}
use Rattle.std.proofs.Common.{arith}
use Rattle.net_model.specs.Net.{Net}
use Rattle.net_model.specs.Wired.{Wired}
use Rattle.net_model.specs.Copies.{IsCut}
use Rattle.cone_copies.specs.CopyLists.{copies_in}
use Rattle.cone_copies.specs.CopyListLaws.{length-copies_in}
use Rattle.cone_walk.specs.WalkTold.{WalkCut}
use Rattle.cone_walk.specs.declared.Cone.{Cone}

module _ {I G : ℕ} {ps sources counts ln lb : List ℕ} {n g : ℕ} {r : Cone} (t : WalkCut I G ps sources counts ln lb n g r) where
  -- the leaves are a cut
  pub cone-cut : (N : Net) (k : ℕ) → Wired N I G ps sources counts → n ≤ k → IsCut N k (I + g) (copies_in ln lb n)
  cone-cut N k w h = record {
    cone = copies_in r.nodes r.backs r.len;
    is_cone = t.cone N w;
    is_leaves = t.leaves N w;
    few = let q = length-copies_in ln lb n in omega arith;
  }
