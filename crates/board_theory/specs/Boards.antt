-- Definitions: the board of a cover, with the contents that its registers have at first (document 02, E6). Without a machine of shifts: a connection with n
-- registers brings at step t what its source had n steps before, or, before that, what stood in its registers.
use Rattle.std.specs.Prelude.{◌≡◌, Bool, cond, List, map, ℕ, suc, ◌+◌, ◌*◌, ◌<◌, ltb, ℤ, length}
use Rattle.integers.specs.Parts.{up, dn}
use Rattle.sequences.specs.Member.{◌∈◌}
use Rattle.net_model.specs.Net.{Net}
use Rattle.net_model.specs.Copies.{Copy, IsCone, IsLeaves}
use Rattle.net_model.specs.Tables.{apply, table_of}
use Rattle.run_theory.specs.Bench.{ago, Rule, repeated}
use Rattle.cover_theory.specs.Covers.{Cover, lut, lag_of, registers, output, output_registers}

-- ---- first contents. Place j is the register j + 1, "newest first".

-- u's value j + 1 steps before step −q
abbrev pub held : (ℕ → ℕ → Bool) → (ℕ → ℕ → Bool) → ℕ → ℤ → ℕ → Bool
held section value u q j = ago (section u) (value u) (dn q) (up q + suc j)

-- of the connection from leaf y into LUT i, and of that into output o
abbrev pub leaf_contents : Net → Cover → (ℕ → ℕ → Bool) → (ℕ → ℕ → Bool) → ℕ → Copy → ℕ → Bool
leaf_contents N K section value i y = held section value y.node (lag_of N K y.node (K.feeder i y))

abbrev pub output_contents : Net → Cover → (ℕ → ℕ → Bool) → (ℕ → ℕ → Bool) → ℕ → ℕ → Bool
output_contents N K section value o = held section value (output N o).src (lag_of N K (output N o).src (K.named o))

-- all registers of the cover hold these
pub record Filled (N : Net) (K : Cover) (contents : ℕ → Copy → ℕ → Bool) (last : ℕ → ℕ → Bool) (section value : ℕ → ℕ → Bool) : Type 0 where
  pub leaf : (i : ℕ) → i < length K.luts → (y : Copy) → y ∈ (lut K i).leaves → (j : ℕ) → j < up (registers N K i y)
      → contents i y j ≡ leaf_contents N K section value i y j
  pub out : (o : ℕ) → o < length N.outputs → (j : ℕ) → j < up (output_registers N K o) → last o j ≡ output_contents N K section value o j

-- ---- the board. `board i t` is the value of LUT i at step t; `contents` and `last` are what the registers hold at first, whatever that is.

-- what feeds a connection from node u: the input, or LUT l
abbrev pub source : Net → (ℕ → ℕ → Bool) → (ℕ → ℕ → Bool) → ℕ → ℕ → ℕ → Bool
source N inputs board u l t = cond (ltb u N.inputs) (inputs u t) (board l t)

abbrev pub brings : Net → Cover → (ℕ → Copy → ℕ → Bool) → (ℕ → ℕ → Bool) → (ℕ → ℕ → Bool) → ℕ → ℕ → Copy → Bool
brings N K contents inputs board i t y = ago (contents i y) (source N inputs board y.node (K.feeder i y)) t (up (registers N K i y))

abbrev pub board_rule : Net → Cover → (ℕ → ℕ) → (ℕ → Copy → ℕ → Bool) → (ℕ → ℕ → Bool) → Rule
board_rule N K table contents inputs board i t = apply (table i) (map (brings N K contents inputs board i t) (lut K i).leaves)

-- the LUTs' values are those of the board
pub record Boarded (N : Net) (K : Cover) (table : ℕ → ℕ) (contents : ℕ → Copy → ℕ → Bool) (inputs board : ℕ → ℕ → Bool) : Type 0 where
  pub rule : (i t : ℕ) → i < length K.luts → board i t ≡ board_rule N K table contents inputs board i t

-- as a function, for a cover that meets φ
unfoldable pub board_at : Net → Cover → ℕ → (ℕ → ℕ) → (ℕ → Copy → ℕ → Bool) → (ℕ → ℕ → Bool) → ℕ → ℕ → Bool
unfolding repeated
board_at N K φ table contents inputs i t = repeated (board_rule N K table contents inputs) (suc t * suc φ) i t

-- output o of the board at step t
abbrev pub shows : Net → Cover → (ℕ → ℕ → Bool) → (ℕ → ℕ → Bool) → (ℕ → ℕ → Bool) → ℕ → ℕ → Bool
shows N K last inputs board o t = ago (last o) (source N inputs board (output N o).src (K.named o)) t (up (output_registers N K o))

-- each LUT has the table of its cut
abbrev pub Tabled : Net → Cover → (ℕ → ℕ) → Type 0
Tabled N K table =
    (i : ℕ) → i < length K.luts → (C : List Copy) → IsCone N (lut K i).root C → IsLeaves N C (lut K i).leaves
    → table i ≡ table_of N (lut K i).root C (lut K i).leaves
