-- Definitions: the period of a cover and its labelling, for a target or the least.
use Rattle.std.specs.Prelude.{◌≡◌, List, Option, Some, None, MatchOption, ℕ, ◌≤◌, ℤ}
use Rattle.net_model.specs.Net.{Net}
use Rattle.net_model.specs.Arrays.{pins_in}
use Rattle.net_model.specs.Checks.{Passed}
use Rattle.limits.specs.Limits.{most_period}
use Rattle.label_theory.specs.Labels.{Mode, plain, forward, LeastIn, OutputsMet, ReachableIn}
use Rattle.cut_circuit.specs.Circuit.{Circuit}
use Rattle.cut_circuit.specs.declared.Extent.{Extent}
use Rattle.signed.specs.Range.{label_in}
use Rattle.label_visit.specs.LabelVisits.{Suits, wiring, Fine, Ceilings}
use Rattle.label_sweep.specs.Sweeps.{Sized, Ordered}
use Rattle.label_period.specs.PeriodSearch.{FirstReached}

-- the ceilings that a mode asks for: each gate's own; in forward mode one period for all gates
abbrev pub cap_in : Mode → Option ℕ
cap_in plain = None
cap_in forward = Some 1

-- arrays for labels, outputs, ceilings and order; a target and gates within the limits
pub record PeriodAsked (s : Extent) (net : List ℕ) (ls : List ℤ) (tops order os oc : List ℕ) (n target k : ℕ) : Type 0 where
  pub sized : Sized s ls os oc most_period k n
  pub ordered : Ordered (wiring s net) order
  pub ceilings : Ceilings (wiring s net) most_period tops
  pub some : 1 ≤ s.gates
  pub few : s.gates ≤ most_period
  pub near : target ≤ most_period

-- φ is the target, or the least period for target 0, and the labels are its least labelling, for every net that suits
pub record Found (M : Mode) (C : Circuit) (k target : ℕ) (tops os oc : List ℕ) (n : ℕ) (ls : List ℤ) (φ : ℕ) : Type 0 where
  pub fine : Fine C ls
  pub positive : 1 ≤ φ
  pub bound : φ ≤ most_period
  pub given : 1 ≤ target → φ ≡ target
  pub least : target ≡ 0 → (N : Net) → Suits M C k tops N → Passed N k → N.outputs ≡ pins_in os oc 0 n → FirstReached M N k φ
  pub labels : (N : Net) → Suits M C k tops N → Passed N k → N.outputs ≡ pins_in os oc 0 n → LeastIn M N k φ (label_in ls) × OutputsMet N φ (label_in ls)

-- the target is not reachable, in any net that suits
abbrev pub Missed : Mode → Circuit → ℕ → ℕ → List ℕ → List ℕ → List ℕ → ℕ → Type 0
Missed M C k target tops os oc n = (1 ≤ target) × ((N : Net) → Suits M C k tops N → N.outputs ≡ pins_in os oc 0 n → ¬ ReachableIn M N k target)

-- the period, where there is one; the labels have their length and bounds in any case
abbrev pub PeriodFound : Mode → Circuit → ℕ → ℕ → List ℕ → List ℕ → List ℕ → ℕ → List ℤ → Option ℕ → Type 0
PeriodFound M C k target tops os oc n ls r = MatchOption r (Fine C ls × Missed M C k target tops os oc n) (λ φ. Found M C k target tops os oc n ls φ)
