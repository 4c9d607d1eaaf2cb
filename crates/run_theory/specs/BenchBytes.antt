-- Definitions: a section and the inputs of a run as bytes (document 02, E5), and what a net has kept after them (E7).
use Rattle.std.specs.Prelude.{Bool, List, ℕ, ◌+◌, ◌*◌, ◌/◌, length, get_or}
use Rattle.net_model.specs.Net.{Net}
use Rattle.net_model.specs.Tables.{bit}
use Rattle.run_theory.specs.Bench.{value_at, section_at}

-- "one byte per node, bits 0 to 2 its value one, two and three steps before step 0"
abbrev pub section_in : List ℕ → ℕ → ℕ → Bool
section_in bytes v j = bit (get_or bytes v 0) j

-- "two input bytes per step, all low first"
abbrev pub pair_at : List ℕ → ℕ → ℕ
pair_at pairs t = get_or pairs (2 * t) 0 + 256 * get_or pairs (2 * t + 1) 0

-- "input i in bit i, higher bits ignored"
abbrev pub pairs_in : List ℕ → ℕ → ℕ → Bool
pairs_in pairs v t = bit (pair_at pairs t) v

-- "a lone last byte is no step"
abbrev pub steps_of : List ℕ → ℕ
steps_of pairs = length pairs / 2

-- "from the old net's last three values of every node": the values before the step that is "the number of E5's input pairs lent; the net first runs on them from its section"
abbrev pub kept_after : List ℕ → Net → List ℕ → ℕ → ℕ → Bool
kept_after pairs N section = section_at (section_in section) (value_at N (section_in section) (pairs_in pairs)) (steps_of pairs)
