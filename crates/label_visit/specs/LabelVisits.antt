-- Definitions: one visit of a gate in the sweep: what it keeps, when nothing can change, and when it refutes.
use Rattle.std.specs.Prelude.{◌≡◌, true, false, Bool, List, [], Option, Some, None, Result, Ok, OnErr, ℕ, zero, suc, ◌+◌, ◌-◌, ◌*◌, ◌^◌, ◌≤◌, ◌<◌, ℤ, pos, ◌+ℤ◌, ◌-ℤ◌, length, get_or, set, drop, replicate, ◌≤ℤ◌, ◌<ℤ◌}
use Rattle.limits.specs.Limits.{most_k, most_pins}
use Rattle.integers.specs.Parts.{up}
use Rattle.net_model.specs.Net.{Net}
use Rattle.net_model.specs.PackedNet.{tops_at}
use Rattle.net_model.specs.Arrays.{stride}
use Rattle.net_model.specs.Checks.{Sound, Fits, Loopless}
use Rattle.cone_theory.specs.Ranks.{Ranked}
use Rattle.cone_theory.specs.Reach.{reach_of}
use Rattle.label_theory.specs.Labels.{Mode, plain, forward, LabellingIn, OutputsMet}
use Rattle.label_theory.proofs.Pins.{OutPath}
use Rattle.label_bounds.specs.Bounds.{LowerBoundIn}
use Rattle.label_theory.specs.Forced.{Falling}
use Rattle.label_theory.specs.Near.{Keeps, TrialCut}
use Rattle.signed.specs.Range.{Small, room, label_in}
use Rattle.cut_circuit.specs.Circuit.{Circuit}
use Rattle.cut_circuit.specs.Packed.{packed_of, sources_at, counts_at}
use Rattle.cut_circuit.specs.declared.Extent.{Extent}
use Rattle.cut_circuit.specs.Bridge.{Holds}
use Rattle.label_pins.specs.PinHeights.{height_at, PinFits}
use Rattle.label_visit.specs.declared.PastCeiling.{PastCeiling}

-- What a ceiling of so many periods stands on: a path from the gate to an output with one register less; in forward mode no label is above one period.
abbrev pub Ceiled : Mode → Net → ℕ → ℕ → Type 0
Ceiled plain N v top = (1 ≤ top) × OutPath N v (top - 1)
Ceiled forward N v top = 1 ≤ top

-- What the sweep may assume of a net: its wiring is the circuit's, it passed the checks, the border leaves room for its cuts, and its ceilings are right.
pub record Suits (M : Mode) (C : Circuit) (k : ℕ) (tops : List ℕ) (N : Net) : Type 0 where
  pub holds : Holds C N
  pub ranked : Ranked N
  pub loopless : Loopless N
  pub sound : Sound N
  pub fits : Fits N k
  pub border : k * reach_of N ≤ C.border
  pub path : (g : ℕ) → g < C.gates → Ceiled M N (C.inputs + g) (get_or tops g 0)

-- The same without ceilings and numbers of pins: all that a visit's new label needs.
pub record Sane (C : Circuit) (k : ℕ) (N : Net) : Type 0 where
  pub holds : Holds C N
  pub ranked : Ranked N
  pub loopless : Loopless N
  pub sound : Sound N
  pub border : k * reach_of N ≤ C.border

-- label(u) − φ·w for pin j of gate g
abbrev pub pin_height : Circuit → List ℤ → ℕ → ℕ → ℕ → ℤ
pin_height C ls φ g j = height_at C.sources C.counts ls φ (stride * g + j)

-- p is the largest of them
pub record PinMax (C : Circuit) (ls : List ℤ) (φ g : ℕ) (p : ℤ) : Type 0 where
  pub above : (j : ℕ) → j < get_or C.pins g 0 → pin_height C ls φ g j ≤ℤ p
  pub pin : ℕ
  pub is_pin : pin < get_or C.pins g 0
  pub attained : pin_height C ls φ g pin ≡ p

-- Nothing can change at gate g: its label is above the pins' by 1, or it is the pins' and there is a cut so low, wherever labels do not fall along pins.
pub data Quiet (M : Mode) (δ : ℕ) (C : Circuit) (k φ : ℕ) (tops : List ℕ) (ls : List ℤ) (g : ℕ) : Type 0 where
  higher : (p : ℤ) → PinMax C ls φ g p → (p +ℤ pos 1) ≤ℤ label_in ls (C.inputs + g) → Quiet M δ C k φ tops ls g
  level : (p : ℤ) → PinMax C ls φ g p → label_in ls (C.inputs + g) ≡ p
      → ((N : Net) → Suits M C k tops N → Falling N φ (label_in ls) → TrialCut M N k φ δ (label_in ls) (C.inputs + g) p) → Quiet M δ C k φ tops ls g

-- a lower bound for every net that suits
abbrev pub Bounds : Mode → Circuit → ℕ → ℕ → List ℕ → List ℤ → Type 0
Bounds M C k φ tops ls = (N : Net) → Suits M C k tops N → LowerBoundIn M N k φ (label_in ls)

-- The labels of inputs stay, and labels that no labelling is below by more than δ stay so near. No ceiling occurs here.
pub record Kept (M : Mode) (δ : ℕ) (C : Circuit) (k φ : ℕ) (ls ls' : List ℤ) : Type 0 where
  pub inputs : (u : ℕ) → u < C.inputs → label_in ls' u ≡ label_in ls u
  pub near : (N : Net) → Sane C k N → Keeps M N k φ δ (label_in ls) (label_in ls')

-- no labelling meets the outputs of a net that suits
abbrev pub Refuted : Mode → Circuit → ℕ → ℕ → List ℕ → Type 0
Refuted M C k φ tops = (N : Net) → Suits M C k tops N → (lab : ℕ → ℤ) → LabellingIn M N k φ lab → ¬ OutputsMet N φ lab

-- What the answer r to the question of a visit means.
pub record Answered (M : Mode) (δ : ℕ) (C : Circuit) (k φ : ℕ) (ls : List ℤ) (g : ℕ) (p : ℤ) (r : Bool) : Type 0 where
  pub none : (N : Net) → Sane C k N → r ≡ false → ¬ TrialCut M N k φ δ (label_in ls) (C.inputs + g) p
  pub some : (N : Net) → Sane C k N → r ≡ true → Falling N φ (label_in ls) → TrialCut M N k φ δ (label_in ls) (C.inputs + g) p

-- the circuit without slots: what is told of labels does not speak of forced copies
abbrev pub wiring : Extent → List ℕ → Circuit
wiring s net = packed_of s net []

-- The pins of gate g can be read, and their numbers do not overflow.
pub record PinsFit (s : Extent) (net : List ℕ) (ls : List ℤ) (φ g : ℕ) : Type 0 where
  pub gate : g < s.gates
  pub room : counts_at s.gates + most_pins * s.gates ≤ length net
  pub some : 0 < get_or net g 0
  pub few : get_or net g 0 ≤ most_pins
  pub pin : (j : ℕ) → j < get_or net g 0 → PinFits (drop (sources_at s.gates) net) (drop (counts_at s.gates) net) ls φ (most_pins * g + j)

-- the label of v raised to p, unless it is p
pub record Raised (ls ls' : List ℤ) (v : ℕ) (p : ℤ) (r : Bool) : Type 0 where
  pub lower : r ≡ true → (label_in ls v <ℤ p) × (ls' ≡ set ls v p)
  pub there : r ≡ false → (label_in ls v ≡ p) × (ls' ≡ ls)

-- one label changed
pub record Changed (ls ls' : List ℤ) (v : ℕ) (p : ℤ) : Type 0 where
  pub size : length ls' ≡ length ls
  pub at : label_in ls' v ≡ p
  pub other : (u : ℕ) → ¬ (u ≡ v) → label_in ls' u ≡ label_in ls u

-- labels for all nodes, far from the ends of 64 bits
pub record Fine (C : Circuit) (ls : List ℤ) : Type 0 where
  pub size : length ls ≡ C.inputs + C.gates
  pub small : (u : ℕ) → Small (label_in ls u)

-- what the engine needs of labels and sizes
pub record Ready (s : Extent) (ls : List ℤ) (φ k : ℕ) : Type 0 where
  pub size : length ls ≡ s.inputs + s.gates
  pub small : (u : ℕ) → Small (label_in ls u)
  pub shift : φ * s.width ≤ room
  pub least : 1 ≤ k
  pub limit : k ≤ most_k
  pub fits : (s.inputs + s.gates) * s.width * 16 < 2 ^ 32

-- the ceilings in a net's slice, or one for all gates
unfoldable pub tops_in : Extent → List ℕ → Option ℕ → List ℕ
tops_in s net None = drop (tops_at s.inputs s.gates) net
tops_in s net (Some cap) = replicate s.gates cap

-- ceilings that do not overflow
pub record Ceilings (C : Circuit) (φ : ℕ) (tops : List ℕ) : Type 0 where
  pub size : C.gates ≤ length tops
  pub top : (g : ℕ) → g < C.gates → φ * get_or tops g 0 < room

-- what is left below the ceilings of the first n gates
unfoldable pub left : Circuit → ℕ → List ℕ → List ℤ → ℕ → ℕ
left C φ tops ls zero = 0
left C φ tops ls (suc n) = up (pos (φ * get_or tops n 0) -ℤ label_in ls (C.inputs + n)) + left C φ tops ls n

-- One visit of gate g. No: nothing can change. Yes: its label rose. Else it would pass its ceiling.
pub record Visited (M : Mode) (δ : ℕ) (C : Circuit) (k φ : ℕ) (tops : List ℕ) (ls ls' : List ℤ) (g : ℕ) (r : Result Bool PastCeiling) : Type 0 where
  pub fine : Fine C ls'
  pub keeps : Kept M δ C k φ ls ls'
  pub same : r ≡ Ok false → ls' ≡ ls
  pub quiet : r ≡ Ok false → Quiet M δ C k φ tops ls g
  pub less : left C φ tops ls' C.gates ≤ left C φ tops ls C.gates
  pub falls : r ≡ Ok true → left C φ tops ls' C.gates < left C φ tops ls C.gates
  pub refuted : OnErr r (Bounds M C k φ tops ls → Refuted M C k φ tops)
