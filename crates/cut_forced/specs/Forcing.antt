-- Definitions: the forced set by a work list, and what the functions that grow it and take it back ask and tell. `slots` holds the forced copies found by their gates,
-- `members` lists the m of them. Each pin of a member is looked at once: its source may be a leaf, or is forced. A forced terminal, or more forced copies of one gate
-- than a cone with k leaves has, refutes every cut.
use Rattle.std.specs.Prelude.{◌≡◌, Result, Ok, Err, List, [], ◌⊎◌, ℕ, suc, ◌+◌, ◌-◌, ◌*◌, ◌/◌, ◌%◌, ◌^◌, ◌≤◌, ◌<◌, ℤ, length, get_or, set}
use Rattle.limits.specs.Limits.{most_k}
use Rattle.net_model.specs.Net.{Net}
use Rattle.net_model.specs.Copies.{Copy, copy, Cut}
use Rattle.cone_theory.specs.Ranks.{Ranked}
use Rattle.cone_theory.specs.Reach.{reach_of}
use Rattle.label_theory.specs.Labels.{Low, Mode, Inside}
use Rattle.label_theory.specs.Modes.{Bordered}
use Rattle.label_theory.specs.Forced.{Forced}
use Rattle.signed.specs.Range.{Small, room, label_in}
use Rattle.cut_circuit.specs.Circuit.{Circuit, Layout, total, circuit, pins_of, feeder, ending_at, forced_at}
use Rattle.cut_circuit.specs.Packed.{SourceAsked}
use Rattle.cut_circuit.specs.Bridge.{Holds, decode}
use Rattle.cut_forced.specs.Slots.{marked, holding, Slotted, Unmarked}

-- a circuit with other slots
abbrev pub filled : Circuit → List ℕ → Circuit
filled W slots = circuit W.inputs W.gates W.width W.border W.pins W.first W.sources W.counts W.heads W.nexts slots

-- a circuit without slots
abbrev pub wires_of : Circuit → Circuit
wires_of C = filled C []

-- What is asked: labels, φ, the root and the height.
pub record Target : Type 0 where
  pub labels : List ℤ
  pub phi : ℕ
  pub root : ℕ
  pub height : ℤ

abbrev pub target : List ℤ → ℕ → ℕ → ℤ → Target
target ls φ v h = record { labels = ls; phi = φ; root = v; height = h }

abbrev pub LowOf : Target → Copy → Type 0
LowOf T c = Low T.phi (label_in T.labels) T.height c

abbrev pub ForcedAt : Circuit → Target → ℕ → Type 0
ForcedAt W T x = (N : Net) → Holds W N → Forced N T.root (LowOf T) (decode W x)

-- no cut of at most k leaves is low enough, where the border is, up to the reach, what a mode asks of members
abbrev pub Refuted : Circuit → Target → ℕ → Type 0
Refuted W T k =
    (N : Net) → Holds W N → Ranked N → (M : Mode) (b : ℤ) → Bordered (Inside M T.phi b) (k * reach_of N) W.border → ¬ Cut N k T.root (LowOf T) (Inside M T.phi b)

-- What does not change: the arrays laid out, labels for all nodes, room for k copies of a gate, and numbers that do not overflow.
pub record Ground (W : Circuit) (ls : List ℤ) (φ k : ℕ) : Type 0 where
  pub slots : List ℕ
  pub layout : Layout (filled W slots)
  pub labels : length ls ≡ W.inputs + W.gates
  pub small : (u : ℕ) → Small (label_in ls u)
  pub shift : φ * W.width ≤ room
  pub limit : k ≤ most_k
  pub fits : total W * 16 < 2 ^ 32

-- The forced copies found so far: m of them, in slots and listed.
pub record Growing (W : Circuit) (T : Target) (k : ℕ) (slots members : List ℕ) (m : ℕ) : Type 0 where
  pub slotted : Slotted W k slots
  pub space : k * W.gates ≤ length members
  pub some : 0 < m
  pub few : m ≤ k * W.gates
  pub root : 0 < marked W slots (T.root * W.width)
  pub listed : (a : ℕ) → a < m → 0 < marked W slots (get_or members a 0)
  pub all : (x : ℕ) → 0 < marked W slots x → (a : ℕ) × (a < m) × (get_or members a 0 ≡ x)
  pub once : (a b : ℕ) → a < b → b < m → ¬ (get_or members a 0 ≡ get_or members b 0)
  pub forced : (x : ℕ) → 0 < marked W slots x → ForcedAt W T x

-- What was found is kept.
pub record Grew (W : Circuit) (slots members : List ℕ) (m : ℕ) (slots' members' : List ℕ) (r : ℕ) : Type 0 where
  pub more : m ≤ r
  pub marked : (x : ℕ) → 0 < marked W slots x → 0 < marked W slots' x
  pub listed : (a : ℕ) → a < m → get_or members' a 0 ≡ get_or members a 0

-- Every cut is refuted, and so many copies are forced.
pub record Refutes (W : Circuit) (T : Target) (k : ℕ) (slots members : List ℕ) (count : ℕ) : Type 0 where
  pub growing : Growing W T k slots members count
  pub refuted : Refuted W T k

-- A step has made P hold of the slots, and r copies are forced.
pub record Grown (W : Circuit) (T : Target) (k : ℕ) (P : List ℕ → Type 0) (slots members : List ℕ) (m : ℕ) (slots' members' : List ℕ) (r : ℕ) : Type 0 where
  pub growing : Growing W T k slots' members' r
  pub grew : Grew W slots members m slots' members' r
  pub done : P slots'

-- The result of a step that is to make P hold of the slots.
abbrev pub Told : Circuit → Target → ℕ → (List ℕ → Type 0) → List ℕ → List ℕ → ℕ → List ℕ → List ℕ → Result ℕ ℕ → Type 0
Told W T k P slots members m slots' members' (Ok r) = Grown W T k P slots members m slots' members' r
Told W T k P slots members m slots' members' (Err c) = Refutes W T k slots' members' c

-- the source of pin j of x may be a leaf, or is forced
abbrev pub Settled : Circuit → Target → List ℕ → ℕ → ℕ → Type 0
Settled W T slots x j = LowOf T (decode W (feeder W x j)) ⊎ (0 < marked W slots (feeder W x j))

abbrev pub AllSettled : Circuit → Target → ℕ → List ℕ → Type 0
AllSettled W T x slots = (j : ℕ) → j < pins_of W x → Settled W T slots x j

-- the first n pins of x are settled
abbrev pub Looked : Circuit → Target → ℕ → ℕ → List ℕ → Type 0
Looked W T x n slots = (j : ℕ) → j < n → Settled W T slots x j

-- ---- one copy
-- what `hold` asks
pub record HoldAsked (gates : ℕ) (slots : List ℕ) (g n d : ℕ) : Type 0 where
  pub gate : g < gates
  pub slot : n < most_k
  pub places : suc most_k * gates ≤ length slots
  pub fits : d < 2 ^ 32

-- How copy y was added: it was there, or it is now, or it must not be.
pub data Added (inputs gates width border k : ℕ) (slots members : List ℕ) (m y : ℕ) (slots' members' : List ℕ) (r : Result ℕ ℕ) : Type 0 where
  there-before : r ≡ Ok m → slots' ≡ slots → members' ≡ members → 0 < forced_at inputs gates width border slots y
      → Added inputs gates width border k slots members m y slots' members' r
  there-now : r ≡ Ok (m + 1) → slots' ≡ holding gates slots (y / width - inputs) (get_or slots (y / width - inputs) 0) (y % width) → members' ≡ set members m y
      → forced_at inputs gates width border slots y ≡ 0 → ending_at inputs width border y ≡ 0 → get_or slots (y / width - inputs) 0 < k
      → Added inputs gates width border k slots members m y slots' members' r
  must_not : r ≡ Err m → slots' ≡ slots → members' ≡ members → forced_at inputs gates width border slots y ≡ 0
      → (0 < ending_at inputs width border y) ⊎ ((ending_at inputs width border y ≡ 0) × (k ≤ get_or slots (y / width - inputs) 0))
      → Added inputs gates width border k slots members m y slots' members' r

-- what `add` asks
pub record AddAsked (inputs gates width border k : ℕ) (slots members : List ℕ) (m y : ℕ) : Type 0 where
  pub wide : 0 < width
  pub below : y < (inputs + gates) * width
  pub places : suc most_k * gates ≤ length slots
  pub held : (g : ℕ) → g < gates → get_or slots g 0 ≤ most_k
  pub limit : k ≤ most_k
  pub few : m ≤ k * gates
  pub fits : (inputs + gates) * width * 16 < 2 ^ 32
  pub room : forced_at inputs gates width border slots y ≡ 0 → ending_at inputs width border y ≡ 0 → get_or slots (y / width - inputs) 0 < k → m < length members

-- ---- one pin
pub record LowAsked (width : ℕ) (ls : List ℤ) (φ y : ℕ) : Type 0 where
  pub wide : 0 < width
  pub label : y / width < length ls
  pub small : (u : ℕ) → Small (label_in ls u)
  pub shift : φ * width ≤ room

pub record PinAsked (W : Circuit) (ls : List ℤ) (φ k : ℕ) (slots members : List ℕ) (m x j : ℕ) : Type 0 where
  pub source : SourceAsked W x j
  pub low : LowAsked W.width ls φ (feeder W x j)
  pub add : AddAsked W.inputs W.gates W.width W.border k slots members m (feeder W x j)

pub data PinTold (inputs gates width border : ℕ) (ls : List ℤ) (φ : ℕ) (h : ℤ) (k : ℕ) (slots members : List ℕ) (m y : ℕ) (slots' members' : List ℕ) (r : Result ℕ ℕ) : Type 0 where
  leaf : r ≡ Ok m → slots' ≡ slots → members' ≡ members → Low φ (label_in ls) h (copy (y / width) (y % width))
      → PinTold inputs gates width border ls φ h k slots members m y slots' members' r
  forced : ¬ Low φ (label_in ls) h (copy (y / width) (y % width)) → Added inputs gates width border k slots members m y slots' members' r
      → PinTold inputs gates width border ls φ h k slots members m y slots' members' r

-- ---- one member
pub record MemberAsked (W : Circuit) (ls : List ℤ) (φ : ℕ) (h : ℤ) (k : ℕ) (slots members : List ℕ) (m x : ℕ) : Type 0 where
  pub grounded : Ground W ls φ k
  pub root : ℕ
  pub growing : Growing W (target ls φ root h) k slots members m
  pub member : 0 < marked W slots x

abbrev pub MemberTold : Circuit → List ℤ → ℕ → ℤ → ℕ → List ℕ → List ℕ → ℕ → ℕ → List ℕ → List ℕ → Result ℕ ℕ → Type 0
MemberTold W ls φ h k slots members m x slots' members' r =
    (v : ℕ) → Growing W (target ls φ v h) k slots members m → Told W (target ls φ v h) k (AllSettled W (target ls φ v h) x) slots members m slots' members' r

-- ---- all of them
pub record GrowAsked (W : Circuit) (ls : List ℤ) (φ : ℕ) (h : ℤ) (k : ℕ) (slots members : List ℕ) : Type 0 where
  pub grounded : Ground W ls φ k
  pub root : ℕ
  pub growing : Growing W (target ls φ root h) k slots members 1

-- The forced set is found and closed.
pub record AllForced (W : Circuit) (T : Target) (k : ℕ) (slots members : List ℕ) (r : ℕ) : Type 0 where
  pub growing : Growing W T k slots members r
  pub closed : (x : ℕ) → 0 < marked W slots x → AllSettled W T x slots

-- The forced set: found and closed, or every cut is refuted.
abbrev pub ForceTold : Circuit → Target → ℕ → List ℕ → List ℕ → Result ℕ ℕ → Type 0
ForceTold W T k slots members (Ok r) = AllForced W T k slots members r
ForceTold W T k slots members (Err c) = Refutes W T k slots members c

abbrev pub GrowTold : Circuit → List ℤ → ℕ → ℤ → ℕ → List ℕ → List ℕ → List ℕ → List ℕ → Result ℕ ℕ → Type 0
GrowTold W ls φ h k slots members slots' members' r =
    (v : ℕ) → Growing W (target ls φ v h) k slots members 1 → ForceTold W (target ls φ v h) k slots' members' r

-- The first i members have all pins settled.
pub record Progress (W : Circuit) (T : Target) (k : ℕ) (slots members : List ℕ) (m i : ℕ) : Type 0 where
  pub growing : Growing W T k slots members m
  pub closed : (a : ℕ) → a < i → AllSettled W T (get_or members a 0) slots

-- what `force` asks of gate g
pub record ForceAsked (W : Circuit) (ls : List ℤ) (φ k g : ℕ) (slots members : List ℕ) : Type 0 where
  pub grounded : Ground W ls φ k
  pub places : suc most_k * W.gates ≤ length slots
  pub space : k * W.gates ≤ length members
  pub gate : g < W.gates
  pub some : 0 < k
  pub unforced : Unmarked W.gates slots

-- from place n on, l' is as l
abbrev pub SameFrom : ℕ → List ℕ → List ℕ → Type 0
SameFrom n l l' = (i : ℕ) → n ≤ i → get_or l' i 0 ≡ get_or l i 0

-- ---- forced copies taken away
-- The members are copies of gates, and only gates of members from place i on have forced copies.
pub record Listed (inputs gates width : ℕ) (slots members : List ℕ) (i : ℕ) : Type 0 where
  pub wide : 0 < width
  pub places : gates ≤ length slots
  pub low : (a : ℕ) → a < length members → inputs ≤ get_or members a 0 / width
  pub high : (a : ℕ) → a < length members → get_or members a 0 / width - inputs < gates
  pub rest : (g : ℕ) → g < gates → 0 < get_or slots g 0 → (a : ℕ) × (i ≤ a) × (a < length members) × (get_or members a 0 / width - inputs ≡ g)
