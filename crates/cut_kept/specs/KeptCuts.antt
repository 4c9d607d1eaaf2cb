-- Definitions: kept cuts. Behind the members each gate has a row: how many leaves its cut has, 0 where none is kept; the border of the question that found it; the leaves, by their numbers.
use Rattle.std.specs.Prelude.{◌≡◌, List, [], ℕ, ◌+◌, ◌*◌, ◌/◌, ◌%◌, ◌≤◌, ◌<◌, length, get_or}
use Rattle.limits.specs.Limits.{most_k}
use Rattle.sequences.specs.Member.{◌∈◌}
use Rattle.net_model.specs.Net.{Net}
use Rattle.net_model.specs.Checks.{Loopless}
use Rattle.net_model.specs.Copies.{Copy, copy, IsCone, Leaf}
use Rattle.cone_theory.specs.Ranks.{Ranked}
use Rattle.cut_circuit.specs.Circuit.{Circuit, circuit, total}
use Rattle.cut_circuit.specs.Bridge.{Holds}

-- the places of a row
abbrev pub row_places : ℕ
row_places = 2 + most_k

-- where the row of gate g begins
abbrev pub row_at : ℕ → ℕ → ℕ
row_at gates g = most_k * gates + row_places * g

pub record CutRow : Type 0 where
  pub count : ℕ
  pub border : ℕ
  pub leaf : ℕ → ℕ

abbrev pub row_in : ℕ → List ℕ → ℕ → CutRow
row_in gates l g = record { count = get_or l (row_at gates g) 0; border = get_or l (row_at gates g + 1) 0; leaf = λ i. get_or l (row_at gates g + 2 + i) 0 }

-- x is one of the row's leaves
abbrev pub InRow : CutRow → ℕ → Type 0
InRow w x = (i : ℕ) × (i < w.count) × (w.leaf i ≡ x)

-- The row has its places, and its leaves are numbers of copies.
pub record RowFits (most : ℕ) (w : CutRow) : Type 0 where
  pub few : w.count ≤ most_k
  pub inside : (i : ℕ) → i < w.count → w.leaf i < most

-- A cone of v that has no member beyond the border, and whose leaves are among certain numbers.
pub record ConeAmong (N : Net) (v width border : ℕ) (Among : ℕ → Type 0) : Type 0 where
  pub cone : List Copy
  pub is_cone : IsCone N v cone
  pub near : (c : Copy) → c ∈ cone → c.back ≤ border
  pub leaves : (y : Copy) → Leaf N cone y → (x : ℕ) × Among x × (y ≡ copy (x / width) (x % width))

-- a circuit without a border and slots: kept cuts do not speak of them
abbrev pub unbordered : Circuit → Circuit
unbordered C = circuit C.inputs C.gates C.width 0 C.pins C.first C.sources C.counts C.heads C.nexts []

-- Each row that is not empty has the leaves of a cut of its gate, for any net with this wiring.
pub record KeptCuts (C : Circuit) (members : List ℕ) : Type 0 where
  pub room : row_at C.gates C.gates ≤ length members
  pub fits : (g : ℕ) → g < C.gates → RowFits (total C) (row_in C.gates members g)
  pub cut :
      (g : ℕ) → g < C.gates → 0 < (row_in C.gates members g).count → (N : Net) → Holds C N → Ranked N → Loopless N
      → ConeAmong N (C.inputs + g) C.width (row_in C.gates members g).border (InRow (row_in C.gates members g))
