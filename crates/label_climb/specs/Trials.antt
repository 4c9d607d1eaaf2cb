-- Definitions: a trial over labels that rose of late: what its steps ask and tell.
use Rattle.std.specs.Prelude.{◌≡◌, Bool, true, List, ◌⊎◌, ℕ, ◌+◌, ◌*◌, ◌≤◌, ◌<◌, ℤ, pos, ◌+ℤ◌, length, get_or, ◌≤ℤ◌, ◌<ℤ◌}
use Rattle.limits.specs.Limits.{most_nodes}
use Rattle.signed.specs.Range.{Small, label_in}
use Rattle.label_theory.specs.Labels.{Mode}
use Rattle.cut_circuit.specs.Circuit.{Circuit}
use Rattle.label_visit.specs.LabelVisits.{Bounds, Refuted}

-- the first n labels of one array in another
pub record Copied (from to to' : List ℤ) (n : ℕ) : Type 0 where
  pub size : length to' ≡ length to
  pub at : (u : ℕ) → u < n → label_in to' u ≡ label_in from u

-- a small number at most d above a label
pub record Nudge (z : ℤ) (d : ℕ) (r : ℤ) : Type 0 where
  pub small : Small r
  pub most : r ≤ℤ (z +ℤ pos d)

-- the label of u as it was, or at most d higher where it was above the old one
abbrev pub Nudged : List ℤ → List ℤ → List ℤ → ℕ → ℕ → Type 0
Nudged old ls ls' d u = (label_in ls' u ≡ label_in ls u) ⊎ ((label_in old u <ℤ label_in ls u) × Nudge (label_in ls u) d (label_in ls' u))

-- so at the places from one up to another, all else kept
pub record Hoisted (old ls ls' : List ℤ) (from to d : ℕ) : Type 0 where
  pub size : length ls' ≡ length ls
  pub before : (u : ℕ) → u < from → label_in ls' u ≡ label_in ls u
  pub behind : (u : ℕ) → to ≤ u → label_in ls' u ≡ label_in ls u
  pub between : (u : ℕ) → from ≤ u → u < to → Nudged old ls ls' d u

-- small labels and old ones at the places from one up to another
pub record Lent (ls old : List ℤ) (from to : ℕ) : Type 0 where
  pub ends : from ≤ to
  pub room : to ≤ length ls
  pub space : to ≤ length old
  pub small : (u : ℕ) → u < to → Small (label_in ls u)

-- where the label of u was above the old one it is by now more than d higher
pub record RoseFurther (old sv ls : List ℤ) (d u : ℕ) : Type 0 where
  pub further : label_in old u <ℤ label_in sv u → (label_in sv u +ℤ pos d) <ℤ label_in ls u

-- so at all places from one up to another
pub record AllRose (old sv ls : List ℤ) (from to d : ℕ) : Type 0 where
  pub at : (u : ℕ) → from ≤ u → u < to → RoseFurther old sv ls d u

-- some gate's label is above its ceiling
pub record Over (I G φ : ℕ) (tops : List ℕ) (ls : List ℤ) : Type 0 where
  pub gate : ℕ
  pub is_gate : gate < G
  pub above : pos (φ * get_or tops gate 0) <ℤ label_in ls (I + gate)

-- every label that rose of late rose further, and one is above its ceiling
pub record Accepted (I G φ : ℕ) (old sv ls : List ℤ) (tops : List ℕ) (d : ℕ) : Type 0 where
  pub rose : AllRose old sv ls I (I + G) d
  pub over : Over I G φ tops ls

-- A trial leaves the labels as they were. Yes: if they are a lower bound, no labelling meets the outputs.
pub record TrialTold (M : Mode) (C : Circuit) (k φ : ℕ) (tops : List ℕ) (ls ls' : List ℤ) (r : Bool) : Type 0 where
  pub same : ls' ≡ ls
  pub refuted : r ≡ true → Bounds M C k φ tops ls → Refuted M C k φ tops

-- the ceilings of a trial, in periods, and the greatest period that they suit
abbrev pub farthest : ℕ
farthest = 1048575

-- a trial's arrays are long enough, and its ceilings do not overflow
pub record Roomy (nodes φ : ℕ) : Type 0 where
  pub room : nodes ≤ most_nodes
  pub period : φ ≤ farthest
