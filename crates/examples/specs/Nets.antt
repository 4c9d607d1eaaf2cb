-- The nets of document 01's examples, and the records of their covers.
use Rattle.std.specs.Prelude.{List, [], ◌∷◌, ℕ, eqb, ℤ, pos, cond}
use Rattle.net_model.specs.Net.{Net, Pin, Gate}
use Rattle.net_model.specs.Copies.{Copy, copy}
use Rattle.cover_theory.specs.Key.{Entry}

abbrev pub pin : ℕ → ℕ → Pin
pin s w = record { src = s; count = w }

-- a gate of two pins, its table given
abbrev pub pair : Pin → Pin → ℕ → Gate
pair p q t = record { pins = p ∷ q ∷ []; table = t }

-- "net A", behind its k and target
abbrev pub bytes_a : List ℕ
bytes_a = 2 ∷ 3 ∷ 1 ∷ 3 ∷ 0 ∷ 0 ∷ 1 ∷ 8 ∷ 3 ∷ 2 ∷ 2 ∷ 4 ∷ 1 ∷ 6 ∷ 1 ∷ 0 ∷ 3 ∷ 1 ∷ 0 ∷ 4 ∷ []

-- gate 2 = AND(0, 1), gate 3 = XOR(2, 4:1), gate 4 = NOT 3, output 4
abbrev pub net_a : Net
net_a = record {
  inputs = 2;
  gates = pair (pin 0 0) (pin 1 0) 8 ∷ pair (pin 2 0) (pin 4 1) 6 ∷ record { pins = pin 3 0 ∷ []; table = 1 } ∷ [];
  outputs = pin 4 0 ∷ [];
}

-- "B: gate 3 = AND(0,1), gate 4 = AND(3,2)", its output reading 4 through w registers
abbrev pub through_b : ℕ → Net
through_b w = record { inputs = 3; gates = pair (pin 0 0) (pin 1 0) 8 ∷ pair (pin 3 0) (pin 2 0) 8 ∷ []; outputs = pin 4 w ∷ [] }

-- "output reads 4 through one register"
abbrev pub net_b : Net
net_b = through_b 1

abbrev pub bytes_b : List ℕ
bytes_b = 3 ∷ 2 ∷ 1 ∷ 3 ∷ 0 ∷ 0 ∷ 1 ∷ 8 ∷ 3 ∷ 0 ∷ 3 ∷ 2 ∷ 8 ∷ 1 ∷ 4 ∷ 1 ∷ []

-- "C: gate 2 = AND(0:1, 1:1), output reads 2."
abbrev pub net_c : Net
net_c = record { inputs = 2; gates = pair (pin 0 1) (pin 1 1) 8 ∷ []; outputs = pin 2 0 ∷ [] }

abbrev pub bytes_c : List ℕ
bytes_c = 2 ∷ 1 ∷ 1 ∷ 3 ∷ 3 ∷ 0 ∷ 1 ∷ 1 ∷ 1 ∷ 8 ∷ 0 ∷ 2 ∷ []

-- A's listing at k 2 and target 0, as LUTs
abbrev pub entries_a : List Entry
entries_a =
    record { root = 2; leaves = copy 0 0 ∷ copy 1 0 ∷ []; lag = pos 0; table = 8 }
    ∷ record { root = 4; leaves = copy 2 0 ∷ copy 4 1 ∷ []; lag = pos 0; table = 9 } ∷ []

-- its labels
abbrev pub labels_a : ℕ → ℤ
labels_a v = cond (eqb v 2) (pos 1) (pos 2)

-- and as a record
abbrev pub record_a : List ℕ
record_a = 2 ∷ 2 ∷ 2 ∷ 2 ∷ 0 ∷ 0 ∷ 1 ∷ 8 ∷ 4 ∷ 2 ∷ 2 ∷ 2 ∷ 4 ∷ 1 ∷ 0 ∷ 9 ∷ []

-- "Without the register"
abbrev pub net_b0 : Net
net_b0 = through_b 0

abbrev pub bytes_b0 : List ℕ
bytes_b0 = 3 ∷ 2 ∷ 1 ∷ 3 ∷ 0 ∷ 0 ∷ 1 ∷ 8 ∷ 3 ∷ 0 ∷ 3 ∷ 2 ∷ 8 ∷ 0 ∷ 4 ∷ []

-- "A gate AND(0:0, 0:0)", gate 1 behind one input
abbrev pub net_d : Net
net_d = record { inputs = 1; gates = pair (pin 0 0) (pin 0 0) 8 ∷ []; outputs = pin 1 0 ∷ [] }

abbrev pub bytes_d : List ℕ
bytes_d = 1 ∷ 1 ∷ 1 ∷ 3 ∷ 0 ∷ 0 ∷ 0 ∷ 8 ∷ 0 ∷ 1 ∷ []

-- "AND(0:0, 0:1)"
abbrev pub net_e : Net
net_e = record { inputs = 1; gates = pair (pin 0 0) (pin 0 1) 8 ∷ []; outputs = pin 1 0 ∷ [] }

abbrev pub bytes_e : List ℕ
bytes_e = 1 ∷ 1 ∷ 1 ∷ 3 ∷ 2 ∷ 0 ∷ 0 ∷ 1 ∷ 8 ∷ 0 ∷ 1 ∷ []
