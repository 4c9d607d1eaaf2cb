-- Definitions: a net kept as arrays, as programs keep it. Gate g, counted from 0, has `pins g` pins; its pin j stands at stride·g + j.
use Rattle.std.specs.Prelude.{◌≡◌, refl, List, [], ◌∷◌, ℕ, zero, suc, ◌+◌, ◌*◌, length, get_or}
use Rattle.limits.specs.Limits.{most_pins}
use Rattle.net_model.specs.Net.{Net, Pin, Gate}
use Rattle.net_model.specs.Copies.{Copy, copy}

-- places for the pins of a gate: a pin map has "bits 0..5"
abbrev pub stride : ℕ
stride = most_pins

-- n pins, from place `at` on
unfoldable pub pins_in : List ℕ → List ℕ → ℕ → ℕ → List Pin
pins_in sources counts at zero = []
pins_in sources counts at (suc n) = record { src = get_or sources at 0; count = get_or counts at 0 } ∷ pins_in sources counts (suc at) n

-- n gates, from gate g on
unfoldable pub gates_in : List ℕ → List ℕ → List ℕ → List ℕ → ℕ → ℕ → List Gate
unfolding pins_in
gates_in pins sources counts tables g zero = []
gates_in pins sources counts tables g (suc n) =
    record { pins = pins_in sources counts (stride * g) (get_or pins g 0); table = get_or tables g 0 } ∷ gates_in pins sources counts tables (suc g) n

-- the arrays of a net
pub record Arrays : Type 0 where
  pub inputs : ℕ
  pub gates : ℕ
  pub outputs : ℕ
  pub pins : List ℕ
  pub sources : List ℕ
  pub counts : List ℕ
  pub tables : List ℕ
  pub out_sources : List ℕ
  pub out_counts : List ℕ

-- the net that they hold
unfoldable pub net_in : Arrays → Net
unfolding pins_in gates_in
net_in a = record {
  inputs = a.inputs;
  gates = gates_in a.pins a.sources a.counts a.tables 0 a.gates;
  outputs = pins_in a.out_sources a.out_counts 0 a.outputs;
}

-- ---- lists of copies: nodes in one array, d's in another

-- the copy at place i
abbrev pub copy_at : List ℕ → List ℕ → ℕ → Copy
copy_at nodes backs i = copy (get_or nodes i 0) (get_or backs i 0)

-- n copies, from place `at` on
unfoldable pub copies_from : List ℕ → List ℕ → ℕ → ℕ → List Copy
copies_from nodes backs at zero = []
copies_from nodes backs at (suc n) = copy_at nodes backs at ∷ copies_from nodes backs (suc at) n
