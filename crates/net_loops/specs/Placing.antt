-- Definitions: check 9 by placing gates: a gate is placed once all its sources without registers are known; what the steps ask and tell.
use Rattle.std.specs.Prelude.{◌≡◌, Bool, true, List, ℕ, ◌+◌, ◌-◌, ◌*◌, ◌≤◌, ◌<◌, length, get_or}
use Rattle.net_model.specs.Net.{Net}
use Rattle.net_model.specs.Arrays.{stride}
use Rattle.net_model.specs.Wired.{Wired}
use Rattle.net_model.specs.Checks.{Loopless}
use Rattle.sequences.specs.Tests.{Tells}
use Rattle.net_marks.specs.Marks.{Marked, Known, Grown, unmarked}

-- pin j of gate g has no register and a source that is not known
abbrev pub OpenPin : ℕ → List ℕ → List ℕ → List ℕ → ℕ → ℕ → Type 0
OpenPin I m sources counts g j = (get_or counts (stride * g + j) 0 ≡ 0) × (¬ Known I m (get_or sources (stride * g + j) 0))

-- p gates are placed: order and marks name each other's places, and what drives a placed gate is an input or placed before it
pub record Placing (I G : ℕ) (ps sources counts m order : List ℕ) (p : ℕ) : Type 0 where
  pub size : length m ≡ G
  pub room : length order ≡ G
  pub placed : p + unmarked m ≡ G
  pub bound : (g : ℕ) → get_or m g 0 ≤ p
  pub gates : (i : ℕ) → i < p → get_or order i 0 < G
  pub there : (g : ℕ) → g < G → Marked m g → get_or order (get_or m g 0 - 1) 0 ≡ g
  pub before : (g j h : ℕ) → g < G → Marked m g → j < get_or ps g 0 → get_or counts (stride * g + j) 0 ≡ 0 → get_or sources (stride * g + j) 0 ≡ I + h → Marked m h × (get_or m h 0 < get_or m g 0)

-- an unplaced gate has an open pin
abbrev pub Stuck : ℕ → List ℕ → List ℕ → List ℕ → List ℕ → ℕ → Type 0
Stuck I ps sources counts m g = ¬ Marked m g → (j : ℕ) × (j < get_or ps g 0) × OpenPin I m sources counts g j

pub record PlaceGate (I G : ℕ) (ps sources counts m order m' order' : List ℕ) (p g r : ℕ) : Type 0 where
  pub grown : Grown m m' r
  pub placing : Placing I G ps sources counts m' order' (p + r)
  pub stuck : r ≡ 0 → Stuck I ps sources counts m' g

pub record PlaceSweep (I G : ℕ) (ps sources counts m m' order' : List ℕ) (p n r : ℕ) : Type 0 where
  pub grown : Grown m m' r
  pub placing : Placing I G ps sources counts m' order' (p + r)
  pub stuck : r ≡ 0 → (g : ℕ) → g < n → Stuck I ps sources counts m' g

-- the end of the sweeps: some number is placed, and the others are stuck
pub record Placed (I G : ℕ) (ps sources counts m order : List ℕ) : Type 0 where
  pub number : ℕ
  pub placing : Placing I G ps sources counts m order number
  pub stuck : (g : ℕ) → g < G → Stuck I ps sources counts m g

-- r tells whether every loop of any net with this wiring has a register; if so the order has every gate
-- h stands before g in the order
pub record Before (G : ℕ) (order : List ℕ) (h g : ℕ) : Type 0 where
  pub first : ℕ
  pub second : ℕ
  pub rises : first < second
  pub bound : second < G
  pub at_first : get_or order first 0 ≡ h
  pub at_second : get_or order second 0 ≡ g

pub record PlaceCheck (I G : ℕ) (ps sources counts m order : List ℕ) (r : Bool) : Type 0 where
  pub tells : (N : Net) → Wired N I G ps sources counts → Tells r (Loopless N)
  pub ordered : r ≡ true → (g : ℕ) → g < G → (i : ℕ) × (i < G) × (get_or order i 0 ≡ g)
  pub gates : r ≡ true → (i : ℕ) → i < G → get_or order i 0 < G
  pub before : r ≡ true → (g j h : ℕ) → g < G → j < get_or ps g 0 → get_or counts (stride * g + j) 0 ≡ 0 → get_or sources (stride * g + j) 0 ≡ I + h → Before G order h g
