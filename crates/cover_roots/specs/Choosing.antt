-- Definitions: what is asked to choose the roots of a cover and their cuts, and what the arrays then tell.
use Rattle.std.specs.Prelude.{◌≡◌, List, ℕ, ◌+◌, ◌*◌, ◌^◌, ◌≤◌, ◌<◌, ℤ, length, get_or}
use Rattle.net_model.specs.Net.{Net}
use Rattle.net_model.specs.Checks.{Sound, Loopless}
use Rattle.net_model.specs.Arrays.{stride, pins_in, copies_from}
use Rattle.cone_theory.specs.Ranks.{Ranked}
use Rattle.cone_theory.specs.Reach.{reach_of}
use Rattle.label_theory.specs.Labels.{Mode}
use Rattle.cover_theory.specs.Key.{KeyIn, Root}
use Rattle.cover_records.specs.Rows.{row_room}
use Rattle.signed.specs.Range.{Small, room, label_in}
use Rattle.cut_circuit.specs.Circuit.{Circuit, total}
use Rattle.cut_circuit.specs.Bridge.{Holds}

-- Labels for all nodes, numbers that do not overflow, cuts that fit their places, and a net that has this wiring, without loops and with ranks.
pub record Asking (C : Circuit) (ls : List ℤ) (φ k : ℕ) : Type 0 where
  pub labels : length ls ≡ C.inputs + C.gates
  pub small : (u : ℕ) → Small (label_in ls u)
  pub shift : φ * C.width ≤ room
  pub least : 1 ≤ k
  pub few : k ≤ stride
  pub fits : total C * 16 < 2 ^ 32
  pub net : Net
  pub holds : Holds C net
  pub ranked : Ranked net
  pub loopless : Loopless net

-- What is asked: room for the cover, and no gate is marked yet.
pub record Chooses (C : Circuit) (ls : List ℤ) (φ k : ℕ) (rows : List ℕ) : Type 0 where
  pub asking : Asking C ls φ k
  pub places : row_room C.gates ≤ length rows
  pub unmarked : (g : ℕ) → g < C.gates → get_or rows g 0 ≡ 0

-- A net with this wiring whose cuts the border leaves room for, and a key of it with these labels.
pub record Keyed (M : Mode) (C : Circuit) (ls : List ℤ) (φ k : ℕ) : Type 0 where
  pub net : Net
  pub key : KeyIn M net k φ
  pub holds : Holds C net
  pub ranked : Ranked net
  pub loopless : Loopless net
  pub sound : Sound net
  pub border : k * reach_of net ≤ C.border
  pub label : (u : ℕ) → key.label u ≡ label_in ls u

-- n of the nodes are the sources of the outputs
abbrev pub Reads : Net → List ℕ → ℕ → Type 0
Reads N os n = (counts : List ℕ) × (N.outputs ≡ pins_in os counts 0 n)

-- The marked gates are the chosen roots, and each has the number of its chosen cut's leaves and these leaves at its places.
pub record RootsTold (M : Mode) (C : Circuit) (ls : List ℤ) (os : List ℕ) (n φ k : ℕ) (marks sizes nodes backs : List ℕ) : Type 0 where
  pub root : (c : Keyed M C ls φ k) → Reads c.net os n → (g : ℕ) → g < C.gates → ¬ (get_or marks g 0 ≡ 0) → Root c.net c.key.leaves (C.inputs + g)
  pub all : (c : Keyed M C ls φ k) → Reads c.net os n → (g : ℕ) → g < C.gates → Root c.net c.key.leaves (C.inputs + g) → ¬ (get_or marks g 0 ≡ 0)
  pub leaves : (c : Keyed M C ls φ k) → (g : ℕ) → g < C.gates → ¬ (get_or marks g 0 ≡ 0) → copies_from nodes backs (stride * g) (get_or sizes g 0) ≡ c.key.leaves (C.inputs + g)
  pub size : (c : Keyed M C ls φ k) → (g : ℕ) → g < C.gates → ¬ (get_or marks g 0 ≡ 0) → get_or sizes g 0 ≤ k
