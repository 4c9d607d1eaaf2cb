-- Definitions: what the functions that count the copies read outside a forced set ask and tell.
use Rattle.std.specs.Prelude.{◌≡◌, List, ◌⊎◌, ℕ, suc, ◌+◌, ◌*◌, ◌≤◌, ◌<◌, ℤ, length, get_or}
use Rattle.limits.specs.Limits.{most_k}
use Rattle.sequences.specs.Member.{◌∈◌}
use Rattle.cut_circuit.specs.Circuit.{Circuit, forced_at, feeder, pins_of}
use Rattle.cut_forced.specs.Slots.{marked, Inner}
use Rattle.cut_forced.specs.Forcing.{Ground}

-- copy y, forced or one more
abbrev pub OneMore : ℕ → ℕ → ℕ → ℕ → List ℕ → ℕ → ℕ → ℕ → Type 0
OneMore inputs gates width border slots y c r = ((0 < forced_at inputs gates width border slots y) × (r ≡ c)) ⊎ (r ≡ c + 1)

-- a gate's copy, and the arrays laid out
pub record OutsideAsked (W : Circuit) (slots : List ℕ) (x : ℕ) : Type 0 where
  pub labels : List ℤ
  pub phi : ℕ
  pub k : ℕ
  pub grounded : Ground W labels phi k
  pub places : suc most_k * W.gates ≤ length slots
  pub held : (g : ℕ) → g < W.gates → get_or slots g 0 ≤ most_k
  pub inner : Inner W x

pub record FewAsked (W : Circuit) (slots members : List ℕ) : Type 0 where
  pub each : (a : ℕ) → a < length members → OutsideAsked W slots (get_or members a 0)

-- the first n pins of x read forced copies, and r - c others at most
pub record PinsOutside (W : Circuit) (slots : List ℕ) (x n c r : ℕ) : Type 0 where
  pub others : List ℕ
  pub count : r ≡ c + length others
  pub all : (j : ℕ) → j < n → (0 < marked W slots (feeder W x j)) ⊎ (feeder W x j ∈ others)

-- the first m members read forced copies, and c others at most
pub record Outside (W : Circuit) (slots members : List ℕ) (m c : ℕ) : Type 0 where
  pub others : List ℕ
  pub count : c ≡ length others
  pub all : (a : ℕ) → a < m → (j : ℕ) → j < pins_of W (get_or members a 0) → (0 < marked W slots (feeder W (get_or members a 0) j)) ⊎ (feeder W (get_or members a 0) j ∈ others)

-- all members read at most k others
pub record FewTold (W : Circuit) (slots members : List ℕ) (k : ℕ) : Type 0 where
  pub count : ℕ
  pub few : count ≤ k
  pub outside : Outside W slots members (length members) count
