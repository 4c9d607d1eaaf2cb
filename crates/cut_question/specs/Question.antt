-- Definitions: the cut question asked of the engine for gate g and a threshold, and what its answer means.
use Rattle.std.specs.Prelude.{◌≡◌, Bool, true, false, List, ℕ, ◌+◌, ◌*◌, ◌^◌, ◌≤◌, ◌<◌, ℤ, length}
use Rattle.limits.specs.Limits.{most_k}
use Rattle.sequences.specs.Member.{Within}
use Rattle.net_model.specs.Net.{Net}
use Rattle.net_model.specs.Checks.{Loopless}
use Rattle.net_model.specs.Copies.{Copy, IsLeaves, Cut}
use Rattle.net_model.specs.Arrays.{copies_from}
use Rattle.cone_theory.specs.Ranks.{Ranked}
use Rattle.cone_theory.specs.Reach.{reach_of}
use Rattle.label_theory.specs.Labels.{Low, Mode, Inside}
use Rattle.label_theory.specs.Modes.{Bordered}
use Rattle.label_theory.specs.Forced.{ForcedSet, Separation}
use Rattle.signed.specs.Range.{Small, room, label_in}
use Rattle.cut_circuit.specs.Circuit.{Circuit, Layout, total}
use Rattle.cut_circuit.specs.Chains.{Chains}
use Rattle.cut_circuit.specs.Bridge.{Holds}
use Rattle.cut_forced.specs.Slots.{Unmarked}

-- The circuit at rest: arrays laid out, chains linked, no copy forced, and room for the members.
pub record Resting (C : Circuit) (members : List ℕ) : Type 0 where
  pub layout : Layout C
  pub chains : Chains C
  pub unforced : Unmarked C.gates C.slots
  pub space : most_k * C.gates ≤ length members

-- What may be asked: a gate, labels for all nodes, and numbers that do not overflow.
pub record Asks (C : Circuit) (ls : List ℤ) (φ k g : ℕ) : Type 0 where
  pub labels : length ls ≡ C.inputs + C.gates
  pub small : (u : ℕ) → Small (label_in ls u)
  pub shift : φ * C.width ≤ room
  pub gate : g < C.gates
  pub least : 1 ≤ k
  pub limit : k ≤ most_k
  pub fits : total C * 16 < 2 ^ 32

-- A separation of the forced set with at most k leaves.
pub record Parted (N : Net) (v φ : ℕ) (lab : ℕ → ℤ) (h : ℤ) (border k : ℕ) : Type 0 where
  pub set : List Copy
  pub cone : List Copy
  pub leaves : List Copy
  pub forced : ForcedSet N v (Low φ lab h) set
  pub separation : Separation N v set border cone
  pub is_leaves : IsLeaves N cone leaves
  pub few : length leaves ≤ k

-- One with r leaves; none inside the border has fewer, and its cone lies inside that of each with as few.
pub record Separated (N : Net) (v φ : ℕ) (lab : ℕ → ℤ) (h : ℤ) (border k r : ℕ) : Type 0 where
  pub parted : Parted N v φ lab h border k
  pub count : length parted.leaves ≡ r
  pub fewest : (D L : List Copy) → Separation N v parted.set border D → IsLeaves N D L → r ≤ length L
  pub smallest : (D L : List Copy) → Separation N v parted.set border D → IsLeaves N D L → length L ≡ r → Within parted.cone D

-- What an answer means, for any net with this wiring. Where it is no, gate g has no k-cut so low whose members stand inside the border; they need not be asked to where the border is
-- k·M or more (`bordered-plain`). Else there is a separation.
pub record Decides (C : Circuit) (ls : List ℤ) (φ k g : ℕ) (h : ℤ) (found : Bool) : Type 0 where
  pub none :
      (N : Net) → Holds C N → Ranked N → Loopless N → (M : Mode) (b : ℤ) → Bordered (Inside M φ b) (k * reach_of N) C.border → found ≡ false
      → ¬ Cut N k (C.inputs + g) (Low φ (label_in ls) h) (Inside M φ b)
  pub some : (N : Net) → Holds C N → Ranked N → Loopless N → found ≡ true → Parted N (C.inputs + g) φ (label_in ls) h C.border k

-- Two arrays with room for k leaves, and a net that has this wiring, without loops and with ranks.
pub record Takes (C : Circuit) (k : ℕ) (nodes backs : List ℕ) : Type 0 where
  pub net : Net
  pub holds : Holds C net
  pub ranked : Ranked net
  pub loopless : Loopless net
  pub at_nodes : k ≤ length nodes
  pub at_backs : k ≤ length backs

-- The leaves written to the first r places of two arrays, by node and d, where r is at most k: those of a separation with fewest leaves and smallest cone.
pub record Written (C : Circuit) (ls : List ℤ) (φ k g : ℕ) (h : ℤ) (nodes backs : List ℕ) (r : ℕ) : Type 0 where
  pub leaves :
      (N : Net) → Holds C N → Ranked N → Loopless N → r ≤ k
      → (w : Separated N (C.inputs + g) φ (label_in ls) h C.border k r) × (w.parted.leaves ≡ copies_from nodes backs 0 r)
