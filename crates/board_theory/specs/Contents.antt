-- Definitions: the first contents of a cover's registers as bytes (document 02, E6): "a byte 0 or 1 per register, newest first, connections in record order (leaves, then outputs)".
use Rattle.std.specs.Prelude.{Bool, false, List, [], ◌∷◌, ◌++◌, ℕ, zero, suc, length}
use Rattle.integers.specs.Parts.{up}
use Rattle.net_model.specs.Net.{Net}
use Rattle.net_model.specs.Copies.{Copy}
use Rattle.net_model.specs.Tables.{as_number}
use Rattle.run_theory.specs.Bench.{pin_from, value_at}
use Rattle.cover_theory.specs.Covers.{Cover, lut, registers, output, output_registers}
use Rattle.board_theory.specs.Boards.{leaf_contents, output_contents, board_at, shows}

-- the registers of one connection
unfoldable pub cells : (ℕ → Bool) → ℕ → List ℕ
cells f zero = []
cells f (suc n) = as_number (f 0) ∷ cells (λ j. f (suc j)) n

-- those of some leaves of LUT i, of the first n LUTs, of the first n outputs
unfoldable pub leaf_cells : Net → Cover → (ℕ → Copy → ℕ → Bool) → ℕ → List Copy → List ℕ
unfolding cells
leaf_cells N K contents i [] = []
leaf_cells N K contents i (y ∷ L) = cells (contents i y) (up (registers N K i y)) ++ leaf_cells N K contents i L

unfoldable pub lut_cells : Net → Cover → (ℕ → Copy → ℕ → Bool) → ℕ → List ℕ
unfolding leaf_cells
lut_cells N K contents zero = []
lut_cells N K contents (suc n) = lut_cells N K contents n ++ leaf_cells N K contents n (lut K n).leaves

unfoldable pub output_cells : Net → Cover → (ℕ → ℕ → Bool) → ℕ → List ℕ
unfolding cells
output_cells N K last zero = []
output_cells N K last (suc n) = output_cells N K last n ++ cells (last n) (up (output_registers N K n))

unfoldable pub contents_bytes : Net → Cover → (ℕ → Copy → ℕ → Bool) → (ℕ → ℕ → Bool) → List ℕ
unfolding lut_cells output_cells
contents_bytes N K contents last = lut_cells N K contents (length K.luts) ++ output_cells N K last (length N.outputs)

-- inputs that are all 0; any others would do
abbrev pub quiet : ℕ → ℕ → Bool
quiet v t = false

-- the bytes for a section, or for what a running net has kept
abbrev pub contents_of : Net → Cover → (ℕ → ℕ → Bool) → List ℕ
contents_of N K kept = contents_bytes N K (leaf_contents N K kept (value_at N kept quiet)) (output_contents N K kept (value_at N kept quiet))

-- output o of the board, and of the net, at step t
abbrev pub board_shows : Net → Cover → ℕ → (ℕ → ℕ) → (ℕ → Copy → ℕ → Bool) → (ℕ → ℕ → Bool) → (ℕ → ℕ → Bool) → ℕ → ℕ → Bool
board_shows N K φ table contents last inputs o t = shows N K last inputs (board_at N K φ table contents inputs) o t

abbrev pub net_shows : Net → (ℕ → ℕ → Bool) → (ℕ → ℕ → Bool) → ℕ → ℕ → Bool
net_shows N section inputs o t = pin_from section (value_at N section inputs) t (output N o)
