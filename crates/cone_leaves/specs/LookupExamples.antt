-- The lookup computed on small lists.
use Rattle.std.specs.Prelude.{◌≡◌, refl, List, [], ◌∷◌}
use Rattle.net_model.specs.Copies.{Copy, copy}
use Rattle.cone_leaves.specs.Lookup.{seek_of}

-- six leaves of two nodes
abbrev leaves : List Copy
leaves = copy 3 5 ∷ copy 4 0 ∷ copy 4 1 ∷ copy 4 2 ∷ copy 4 3 ∷ copy 4 9 ∷ []

pub at_its_place : seek_of leaves (copy 4 2) ≡ 3
unfolding seek_of
at_its_place = refl

-- no leaf, between two of its node
pub between : seek_of leaves (copy 4 4) ≡ 6
unfolding seek_of
between = refl

-- behind a leaf beyond it a copy is not found: by node, and by d
pub behind-a-node : seek_of (copy 5 0 ∷ copy 1 0 ∷ []) (copy 1 0) ≡ 2
unfolding seek_of
behind-a-node = refl

pub behind-a-depth : seek_of (copy 1 3 ∷ copy 1 2 ∷ []) (copy 1 2) ≡ 2
unfolding seek_of
behind-a-depth = refl

-- leaves that do not rise, none of them beyond the copy
pub falling : seek_of (copy 2 7 ∷ copy 1 9 ∷ copy 3 0 ∷ []) (copy 3 0) ≡ 2
unfolding seek_of
falling = refl
