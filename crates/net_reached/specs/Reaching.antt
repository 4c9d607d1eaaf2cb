-- Definitions: check 10 by marks: a gate is marked once it reads an input or a marked gate; what the steps ask and tell.
use Rattle.std.specs.Prelude.{◌≡◌, Bool, true, List, ◌⊎◌, ℕ, ◌+◌, ◌-◌, ◌*◌, ◌≤◌, ◌<◌, length, get_or}
use Rattle.net_model.specs.Net.{Net}
use Rattle.net_model.specs.Arrays.{stride}
use Rattle.net_model.specs.Wired.{Wired}
use Rattle.net_model.specs.Checks.{Reached, AllReached}
use Rattle.sequences.specs.Tests.{Tells}
use Rattle.net_marks.specs.Marks.{Marked, Known, Grown, unmarked}

-- pin j of gate g has a known source
abbrev pub KnownPin : ℕ → List ℕ → List ℕ → ℕ → ℕ → Type 0
KnownPin I m sources g j = Known I m (get_or sources (stride * g + j) 0)

-- node u is an input, or a marked gate with a rank below r
abbrev pub Falls : ℕ → List ℕ → List ℕ → ℕ → ℕ → Type 0
Falls I m ranks u r = (u < I) ⊎ ((h : ℕ) × (u ≡ I + h) × Marked m h × (get_or ranks h 0 < r))

-- r is the rank of a gate that reads node u: 0 behind an input, else 1 more than the rank of u
abbrev pub Behind : ℕ → List ℕ → ℕ → ℕ → Type 0
Behind I ranks u r = ((u < I) × (r ≡ 0)) ⊎ ((I ≤ u) × (r ≡ get_or ranks (u - I) 0 + 1))

-- each mark is 1 more than a pin's place, ranks fall along these pins, and marked gates of any net with this wiring are reached
pub record Reaching (I G : ℕ) (ps sources counts m ranks : List ℕ) : Type 0 where
  pub size : length m ≡ G
  pub room : length ranks ≡ G
  pub bound : (g : ℕ) → Marked m g → get_or ranks g 0 + unmarked m < G
  pub pin : (g : ℕ) → g < G → Marked m g → get_or m g 0 ≤ get_or ps g 0
  pub falls : (g : ℕ) → g < G → Marked m g → Falls I m ranks (get_or sources (stride * g + (get_or m g 0 - 1)) 0) (get_or ranks g 0)
  pub reached : (N : Net) → Wired N I G ps sources counts → (g : ℕ) → g < G → Marked m g → Reached N (I + g)

-- an unmarked gate has no known source
abbrev pub Shut : ℕ → List ℕ → List ℕ → List ℕ → ℕ → Type 0
Shut I ps sources m g = ¬ Marked m g → (j : ℕ) → j < get_or ps g 0 → ¬ KnownPin I m sources g j

-- the outcome of one gate, of which ranks below the level are looked at: r is 1 if it is newly marked
pub record ReachGate (I G : ℕ) (ps sources counts m m' ranks' : List ℕ) (g level r : ℕ) : Type 0 where
  pub grown : Grown m m' r
  pub reaching : Reaching I G ps sources counts m' ranks'
  pub shut : r ≡ 0 → G ≤ level → Shut I ps sources m' g

-- of all gates below n
pub record ReachSweep (I G : ℕ) (ps sources counts m m' ranks' : List ℕ) (n level r : ℕ) : Type 0 where
  pub grown : Grown m m' r
  pub reaching : Reaching I G ps sources counts m' ranks'
  pub shut : r ≡ 0 → G ≤ level → (g : ℕ) → g < n → Shut I ps sources m' g

-- what the whole check leaves and says: the marks reach as they should, and r tells whether every gate is reached, for any net with this wiring
pub record ReachCheck (I G : ℕ) (ps sources counts m ranks : List ℕ) (r : Bool) : Type 0 where
  pub reaching : Reaching I G ps sources counts m ranks
  pub tells : (N : Net) → Wired N I G ps sources counts → Tells r (AllReached N)
  pub marked : r ≡ true → (g : ℕ) → g < G → Marked m g
