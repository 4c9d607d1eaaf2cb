-- Definitions: the net (document 01, "The net"), free of its limits.
use Rattle.std.specs.Prelude.{◌≡◌, Bool, List, [], ◌∷◌, ℕ, ◌+◌, ◌-◌, ◌≤◌, ◌<◌, length, get_or}

-- "A pin or an output reads one node through w registers": the node and w.
pub record Pin : Type 0 where
  pub src : ℕ
  pub count : ℕ

-- A gate's present pins, rising, and its table: "bit i the value where the j-th present pin carries bit j of i".
pub record Gate : Type 0 where
  pub pins : List Pin
  pub table : ℕ

-- "Inputs are numbered 0 to I−1, gates I to I+G−1": I, the gates in order, and the outputs in order.
pub record Net : Type 0 where
  pub inputs : ℕ
  pub gates : List Gate
  pub outputs : List Pin

-- I + G, the number of nodes
abbrev pub size : Net → ℕ
size N = N.inputs + length N.gates

abbrev pub IsNode : Net → ℕ → Type 0
IsNode N v = v < size N

abbrev pub IsInput : Net → ℕ → Type 0
IsInput N v = v < N.inputs

pub record IsGate (N : Net) (v : ℕ) : Type 0 where
  pub low : N.inputs ≤ v
  pub high : v < size N

abbrev pub nothing : Gate
nothing = record { pins = []; table = 0 }

-- the gate with number v
unfoldable pub gate : Net → ℕ → Gate
gate N v = get_or N.gates (v - N.inputs) nothing

abbrev pub pins : Net → ℕ → List Pin
pins N v = (gate N v).pins
