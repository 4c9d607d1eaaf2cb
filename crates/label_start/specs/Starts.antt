-- Definitions: labels at the start: floors at the gates.
use Rattle.std.specs.Prelude.{◌≡◌, List, ℕ, ◌+◌, ◌*◌, ◌^◌, ◌≤◌, ◌<◌, ℤ, pos, length}
use Rattle.limits.specs.Limits.{most_k}
use Rattle.net_model.specs.Net.{Net}
use Rattle.label_bounds.specs.Bounds.{LowerBound}
use Rattle.label_bounds.specs.Floor.{Floors}
use Rattle.signed.specs.Range.{Small, room, label_in}
use Rattle.cut_circuit.specs.Circuit.{Circuit}
use Rattle.cut_circuit.specs.declared.Extent.{Extent}
use Rattle.label_visit.specs.LabelVisits.{Sane, PinsFit, Fine, Ready}

-- z from one place up to another, all else kept
pub record Filled (ls ls' : List ℤ) (from to : ℕ) (z : ℤ) : Type 0 where
  pub size : length ls' ≡ length ls
  pub between : (u : ℕ) → from ≤ u → u < to → label_in ls' u ≡ z
  pub before : (u : ℕ) → u < from → label_in ls' u ≡ label_in ls u
  pub behind : (u : ℕ) → to ≤ u → label_in ls' u ≡ label_in ls u

-- 1 at the inputs, low at the gates
pub record Started (I G : ℕ) (ls : List ℤ) (low : ℤ) : Type 0 where
  pub size : length ls ≡ I + G
  pub inputs : (u : ℕ) → u < I → label_in ls u ≡ pos 1
  pub gates : (u : ℕ) → I ≤ u → u < I + G → label_in ls u ≡ low
  pub small : (u : ℕ) → Small (label_in ls u)

-- the pins of all gates can be read under any labels that suit the engine
pub record PinsRead (s : Extent) (net : List ℕ) (φ k : ℕ) : Type 0 where
  pub fit : (ls : List ℤ) → Ready s ls φ k → (g : ℕ) → g < s.gates → PinsFit s net ls φ g

-- floors for every net with this wiring
pub record Floored (C : Circuit) (k φ : ℕ) (ls : List ℤ) : Type 0 where
  pub fine : Fine C ls
  pub floors : (N : Net) → Sane C k N → Floors N k φ (label_in ls)

-- what the start needs, whatever the labels hold
pub record Startable (s : Extent) (net : List ℕ) (ls : List ℤ) (φ k : ℕ) : Type 0 where
  pub read : PinsRead s net φ k
  pub size : length ls ≡ s.inputs + s.gates
  pub shift : φ * s.width ≤ room
  pub wide : s.border < s.width
  pub least : 1 ≤ k
  pub limit : k ≤ most_k
  pub fits : (s.inputs + s.gates) * s.width * 16 < 2 ^ 32

-- a lower bound for every net with this wiring
pub record Begun (C : Circuit) (k φ : ℕ) (ls : List ℤ) : Type 0 where
  pub fine : Fine C ls
  pub bounds : (N : Net) → Sane C k N → LowerBound N k φ (label_in ls)
