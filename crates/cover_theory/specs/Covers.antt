-- Definitions: covers in full generality (document 01, "Copies, cuts, covers").
use Rattle.std.specs.Prelude.{◌≡◌, cond, List, [], ℕ, suc, ◌≤◌, ◌<◌, ltb, ℤ, pos, ◌+ℤ◌, ◌-ℤ◌, length, get_or, ◌≤ℤ◌}
use Rattle.sequences.specs.Member.{◌∈◌}
use Rattle.net_model.specs.Net.{Net, Pin, IsGate, IsInput}
use Rattle.net_model.specs.Copies.{Copy, IsCut}

-- "each with root, k-cut, lag (a whole number)"
pub record Lut : Type 0 where
  pub root : ℕ
  pub leaves : List Copy
  pub lag : ℤ

-- "A cover is a finite list of LUTs, each with root, k-cut, lag and, for each gate leaf, one LUT of the list rooted there that feeds it; several LUTs may share a root.
-- Each output with a gate source names one such LUT." LUTs are named by their places in the list.
pub record Cover : Type 0 where
  pub luts : List Lut
  pub feeder : ℕ → Copy → ℕ
  pub named : ℕ → ℕ

abbrev pub lut : Cover → ℕ → Lut
lut K i = get_or K.luts i (record { root = 0; leaves = []; lag = pos 0 })

-- "Inputs and outputs have lag 0": the lag of node u, where LUT number j stands for it if it is a gate.
abbrev pub lag_of : Net → Cover → ℕ → ℕ → ℤ
lag_of N K u j = cond (ltb u N.inputs) (pos 0) (lut K j).lag

-- "A leaf u:d of a LUT with lag r fed from lag q has d + r − q registers"
abbrev pub registers : Net → Cover → ℕ → Copy → ℤ
registers N K i y = (pos y.back +ℤ (lut K i).lag) -ℤ lag_of N K y.node (K.feeder i y)

abbrev pub output : Net → ℕ → Pin
output N o = get_or N.outputs o (record { src = 0; count = 0 })

-- "an output has w − q"
abbrev pub output_registers : Net → Cover → ℕ → ℤ
output_registers N K o = pos (output N o).count -ℤ lag_of N K (output N o).src (K.named o)

-- "one LUT of the list rooted there"
pub record RootedAt (K : Cover) (u j : ℕ) : Type 0 where
  pub listed : j < length K.luts
  pub rooted : (lut K j).root ≡ u

-- K is a cover of N for k: roots are gates, leaves are k-cuts, feeders and named LUTs are rooted where they should be, and all registers "must be 0 or more".
pub record IsCover (N : Net) (k : ℕ) (K : Cover) : Type 0 where
  pub gates : (i : ℕ) → i < length K.luts → IsGate N (lut K i).root
  pub cuts : (i : ℕ) → i < length K.luts → IsCut N k (lut K i).root (lut K i).leaves
  pub fed : (i : ℕ) → i < length K.luts → (y : Copy) → y ∈ (lut K i).leaves → IsGate N y.node → RootedAt K y.node (K.feeder i y)
  pub leaf_registers : (i : ℕ) → i < length K.luts → (y : Copy) → y ∈ (lut K i).leaves → pos 0 ≤ℤ registers N K i y
  pub names : (o : ℕ) → o < length N.outputs → IsGate N (output N o).src → RootedAt K (output N o).src (K.named o)
  pub output_registers : (o : ℕ) → o < length N.outputs → pos 0 ≤ℤ output_registers N K o

-- A "chain of LUTs joined by connections with 0 registers": n of them, the last one LUT i.
pub data Chain (N : Net) (K : Cover) : ℕ → ℕ → Type 0 where
  one : {i n : ℕ} → n ≡ 1 → Chain N K i n
  more : {i n : ℕ} (y : Copy) (m : ℕ) → y ∈ (lut K i).leaves → IsGate N y.node → registers N K i y ≡ pos 0 → n ≡ suc m
      → Chain N K (K.feeder i y) m → Chain N K i n

-- "The cover meets φ if no chain of LUTs joined by connections with 0 registers has more than φ LUTs."
abbrev pub Meets : Net → Cover → ℕ → Type 0
Meets N K φ = (i n : ℕ) → i < length K.luts → Chain N K i n → n ≤ φ

-- some cover of N for k meets φ
pub record Met (N : Net) (k φ : ℕ) : Type 0 where
  pub cover : Cover
  pub is_cover : IsCover N k cover
  pub meets : Meets N cover φ

-- "the least period is the smallest whole φ from 1 up that some cover of that net meets"
pub record LeastPeriod (N : Net) (k φ : ℕ) : Type 0 where
  pub positive : 1 ≤ φ
  pub met : Met N k φ
  pub least : (ψ : ℕ) → 1 ≤ ψ → ψ < φ → ¬ Met N k ψ
