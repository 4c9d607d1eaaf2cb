-- Definitions: forced copies in the slots of their gates.
use Rattle.std.specs.Prelude.{◌≡◌, List, ℕ, suc, ◌+◌, ◌-◌, ◌*◌, ◌/◌, ◌≤◌, ◌<◌, length, get_or, set}
use Rattle.limits.specs.Limits.{most_k}
use Rattle.cut_circuit.specs.Circuit.{Circuit, total, ending_at, forced_at}

-- positive at the copies that the slots hold
abbrev pub marked : Circuit → List ℕ → ℕ → ℕ
marked W slots x = forced_at W.inputs W.gates W.width W.border slots x

-- a gate's copy inside the border
pub record Inner (W : Circuit) (x : ℕ) : Type 0 where
  pub below : x < total W
  pub ends : ending_at W.inputs W.width W.border x ≡ 0

-- the gate of copy x
abbrev pub gate_at : Circuit → ℕ → ℕ
gate_at W x = x / W.width - W.inputs

-- the place of slot i of gate g
abbrev pub slot_at : ℕ → ℕ → ℕ → ℕ
slot_at gates g i = gates + most_k * g + i

-- d put into slot n of gate g, and counted
abbrev pub holding : ℕ → List ℕ → ℕ → ℕ → ℕ → List ℕ
holding gates slots g n d = set (set slots (slot_at gates g n) d) g (n + 1)

-- Each gate has at most k forced copies, of different d, none beyond the border.
pub record Slotted (W : Circuit) (k : ℕ) (slots : List ℕ) : Type 0 where
  pub wide : W.border < W.width
  pub places : suc most_k * W.gates ≤ length slots
  pub limit : k ≤ most_k
  pub held : (g : ℕ) → g < W.gates → get_or slots g 0 ≤ k
  pub backs : (g i : ℕ) → g < W.gates → i < get_or slots g 0 → get_or slots (slot_at W.gates g i) 0 ≤ W.border
  pub apart : (g i j : ℕ) → g < W.gates → i < j → j < get_or slots g 0 → ¬ (get_or slots (slot_at W.gates g i) 0 ≡ get_or slots (slot_at W.gates g j) 0)

-- no gate has a forced copy
abbrev pub Unmarked : ℕ → List ℕ → Type 0
Unmarked gates slots = (g : ℕ) → g < gates → get_or slots g 0 ≡ 0
