-- Definitions: what the functions of the sweep ask and tell.
use Rattle.std.specs.Prelude.{◌≡◌, List, Result, OnOk, OnErr, Bool, true, false, ℕ, ◌+◌, ◌*◌, ◌^◌, ◌≤◌, ◌<◌, ℤ, pos, length, get_or, drop, ◌≤ℤ◌}
use Rattle.net_model.specs.Net.{Net}
use Rattle.net_model.specs.Arrays.{pins_in}
use Rattle.net_model.specs.PackedNet.{outs_at, delays_at}
use Rattle.label_theory.specs.Labels.{Mode, plain, forward, LeastIn, OutputsMet, ReachableIn}
use Rattle.signed.specs.Range.{room, label_in}
use Rattle.cut_circuit.specs.Circuit.{Circuit}
use Rattle.cut_circuit.specs.declared.Extent.{Extent}
use Rattle.limits.specs.Limits.{most_k}
use Rattle.label_visit.specs.LabelVisits.{Suits, Quiet, Bounds, Refuted, Fine}
use Rattle.label_visit.specs.declared.PastCeiling.{PastCeiling}
pub use Rattle.label_pass.specs.Passes.{order_in, Ordered}
use Rattle.label_pass.specs.Passes.{QuietFrom}
use Rattle.label_pins.specs.PinHeights.{height_at, PinFits}

-- the outputs' sources and registers in a net's slice
abbrev pub outs_in : Extent → List ℕ → List ℕ
outs_in s net = drop (outs_at s.inputs s.gates) net

abbrev pub delays_in : Extent → List ℕ → ℕ → List ℕ
delays_in s net n = drop (delays_at s.inputs s.gates n) net

-- outputs that can be read
pub record OutFits (os oc : List ℕ) (ls : List ℤ) (φ n : ℕ) : Type 0 where
  pub period : φ ≤ room
  pub sources : n ≤ length os
  pub counts : n ≤ length oc
  pub pin : (i : ℕ) → i < n → PinFits os oc ls φ i

-- outputs met, as places of the arrays
abbrev pub OutsMet : List ℕ → List ℕ → List ℤ → ℕ → ℕ → Type 0
OutsMet os oc ls φ n = (i : ℕ) → i < n → height_at os oc ls φ i ≤ℤ pos φ

-- what the search for labels needs, whatever the labels hold
pub record Sized (s : Extent) (ls : List ℤ) (os oc : List ℕ) (φ k n : ℕ) : Type 0 where
  pub size : length ls ≡ s.inputs + s.gates
  pub shift : φ * s.width ≤ room
  pub period : φ ≤ room
  pub least : 1 ≤ k
  pub limit : k ≤ most_k
  pub fits : (s.inputs + s.gates) * s.width * 16 < 2 ^ 32
  pub sources : n ≤ length os
  pub counts : n ≤ length oc
  pub node : (i : ℕ) → i < n → get_or os i 0 < s.inputs + s.gates
  pub count : (i : ℕ) → i < n → φ * get_or oc i 0 ≤ room

-- no label from one place up to another is above φ
abbrev pub AllLow : List ℤ → ℕ → ℕ → ℕ → Type 0
AllLow ls from to φ = (u : ℕ) → from ≤ u → u < to → label_in ls u ≤ℤ pos φ

-- What decides at the end: the outputs are met; in forward mode, where they then are too, no gate's label is above the period.
abbrev pub Ends : Mode → Circuit → List ℕ → List ℕ → List ℤ → ℕ → ℕ → Type 0
Ends plain C os oc ls φ n = OutsMet os oc ls φ n
Ends forward C os oc ls φ n = AllLow ls C.inputs (C.inputs + C.gates) φ

-- The labels' end, for every net with this wiring and these outputs: the least labelling, which meets the outputs, or that the target is not reachable.
pub record Labelled (M : Mode) (C : Circuit) (k φ : ℕ) (tops os oc : List ℕ) (n : ℕ) (ls : List ℤ) (r : Bool) : Type 0 where
  pub fine : Fine C ls
  pub found : r ≡ true → (N : Net) → Suits M C k tops N → N.outputs ≡ pins_in os oc 0 n → LeastIn M N k φ (label_in ls) × OutputsMet N φ (label_in ls)
  pub none : r ≡ false → (N : Net) → Suits M C k tops N → N.outputs ≡ pins_in os oc 0 n → ¬ ReachableIn M N k φ

-- The sweeps so far: from place stop of the order on nothing can change.
pub record Swept (M : Mode) (δ : ℕ) (C : Circuit) (k φ : ℕ) (tops order : List ℕ) (ls ls' : List ℤ) (stop : ℕ) : Type 0 where
  pub fine : Fine C ls'
  pub bounds : Bounds M C k φ tops ls → Bounds M C k φ tops ls'
  pub place : stop ≤ C.gates
  pub rest : QuietFrom M δ C k φ tops order ls' stop

-- The sweeps' end: all gates are quiet under labels no higher than any labelling's, or a label would pass its ceiling, and no labelling meets the outputs.
pub record SettleTold (M : Mode) (δ : ℕ) (C : Circuit) (k φ : ℕ) (tops : List ℕ) (ls ls' : List ℤ) (r : Result (Unit {0}) PastCeiling) : Type 0 where
  pub fine : Fine C ls'
  pub bounds : Bounds M C k φ tops ls → Bounds M C k φ tops ls'
  pub quiet : OnOk r ((g : ℕ) → g < C.gates → Quiet M δ C k φ tops ls' g)
  pub refuted : OnErr r (Bounds M C k φ tops ls → Refuted M C k φ tops)
