-- Definitions: what the walk tells: a cut with its cone, or no cut.
use Rattle.std.specs.Prelude.{List, ℕ, ◌+◌, Option, MatchOption}
use Rattle.net_model.specs.Net.{Net}
use Rattle.net_model.specs.Checks.{Loopless}
use Rattle.net_model.specs.Wired.{Wired}
use Rattle.net_model.specs.Copies.{IsCone, IsLeaves, IsCut}
use Rattle.cone_theory.specs.Ranks.{Ranked}
use Rattle.cone_copies.specs.CopyLists.{copies_in, Bounded, Room, SourcesFirst}
use Rattle.cone_walk.specs.declared.Cone.{Cone}

-- a cut: the cone between gate g and the n leaves
pub record WalkCut (I G : ℕ) (ps sources counts ln lb : List ℕ) (n g : ℕ) (r : Cone) : Type 0 where
  pub room : Room r.nodes r.backs r.len
  pub bounded : Bounded I G (copies_in r.nodes r.backs r.len)
  pub cone : (N : Net) → Wired N I G ps sources counts → IsCone N (I + g) (copies_in r.nodes r.backs r.len)
  pub leaves : (N : Net) → Wired N I G ps sources counts → IsLeaves N (copies_in r.nodes r.backs r.len) (copies_in ln lb n)
  pub order : (N : Net) → Wired N I G ps sources counts → Loopless N → SourcesFirst N (copies_in r.nodes r.backs r.len)

-- "14. Some LUT's leaves are no cut of its root."
abbrev pub WalkNone : ℕ → ℕ → List ℕ → List ℕ → List ℕ → List ℕ → List ℕ → ℕ → ℕ → Type 0
WalkNone I G ps sources counts ln lb n g = (N : Net) → Wired N I G ps sources counts → Ranked N → (k : ℕ) → ¬ IsCut N k (I + g) (copies_in ln lb n)

-- the walk from gate g to n leaves that rise, over any net with this wiring
abbrev pub Walk : ℕ → ℕ → List ℕ → List ℕ → List ℕ → List ℕ → List ℕ → ℕ → ℕ → Option Cone → Type 0
Walk I G ps sources counts ln lb n g r = MatchOption r (WalkNone I G ps sources counts ln lb n g) (WalkCut I G ps sources counts ln lb n g)
