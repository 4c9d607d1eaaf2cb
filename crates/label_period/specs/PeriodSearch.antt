-- Definitions: what a search for the least period tells.
use Rattle.std.specs.Prelude.{◌≡◌, List, ℕ, ◌≤◌, ◌<◌, ℤ}
use Rattle.net_model.specs.Net.{Net}
use Rattle.net_model.specs.Arrays.{pins_in}
use Rattle.net_model.specs.Checks.{Passed}
use Rattle.label_theory.specs.Labels.{Mode, LeastIn, OutputsMet, ReachableIn}
use Rattle.cut_circuit.specs.Circuit.{Circuit}
use Rattle.signed.specs.Range.{label_in}
use Rattle.label_visit.specs.LabelVisits.{Suits, Fine}

-- φ is the smallest period from 1 up that is reachable in the mode
pub record FirstReached (M : Mode) (N : Net) (k φ : ℕ) : Type 0 where
  pub positive : 1 ≤ φ
  pub reached : ReachableIn M N k φ
  pub least : (ψ : ℕ) → 1 ≤ ψ → ψ < φ → ¬ ReachableIn M N k ψ

-- no period below φ is reachable
pub record NoneBelow (M : Mode) (C : Circuit) (k : ℕ) (tops os oc : List ℕ) (n φ : ℕ) : Type 0 where
  pub below : (ψ : ℕ) → 1 ≤ ψ → ψ < φ → (N : Net) → Suits M C k tops N → Passed N k → N.outputs ≡ pins_in os oc 0 n → ¬ ReachableIn M N k ψ

-- The least period is from low up to high.
pub record Halved (M : Mode) (C : Circuit) (k : ℕ) (tops os oc : List ℕ) (n low high : ℕ) : Type 0 where
  pub positive : 1 ≤ low
  pub order : low ≤ high
  pub most : high ≤ C.gates
  pub none : NoneBelow M C k tops os oc n low
  pub reached : (N : Net) → Suits M C k tops N → Passed N k → N.outputs ≡ pins_in os oc 0 n → ReachableIn M N k high

-- r is the first period that is reachable for every net that suits, and the labels are its least labelling.
pub record Period (M : Mode) (C : Circuit) (k : ℕ) (tops os oc : List ℕ) (n : ℕ) (ls : List ℤ) (r : ℕ) : Type 0 where
  pub positive : 1 ≤ r
  pub most : r ≤ C.gates
  pub fine : Fine C ls
  pub least : (N : Net) → Suits M C k tops N → Passed N k → N.outputs ≡ pins_in os oc 0 n → FirstReached M N k r
  pub labels : (N : Net) → Suits M C k tops N → Passed N k → N.outputs ≡ pins_in os oc 0 n → LeastIn M N k r (label_in ls) × OutputsMet N r (label_in ls)
