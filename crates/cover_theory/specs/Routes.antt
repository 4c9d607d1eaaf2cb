-- Definitions: paths of pins of a net, and routes through the LUTs of a cover.
use Rattle.std.specs.Prelude.{◌≡◌, ℕ, ◌+◌, ℤ, ◌+ℤ◌}
use Rattle.sequences.specs.Member.{◌∈◌}
use Rattle.net_model.specs.Net.{Net, Pin, IsGate, IsInput, pins}
use Rattle.net_model.specs.Copies.{Copy}
use Rattle.cover_theory.specs.Covers.{Cover, lut, registers, output_registers, output}

-- A path of pins of the net from node x to node v, with the sum of its counts.
pub data Path (N : Net) (x : ℕ) : ℕ → ℕ → Type 0 where
  starts : {v c : ℕ} → x ≡ v → c ≡ 0 → Path N x v c
  pin : {v c : ℕ} (p : Pin) (b : ℕ) → IsGate N v → p ∈ pins N v → Path N x p.src b → c ≡ b + p.count → Path N x v c

-- A path of connections of a cover from input x to LUT i: `before` registers on it in the net, `after` after moving.
pub data Route (N : Net) (K : Cover) (x : ℕ) : ℕ → ℕ → ℤ → Type 0 where
  enters : {i before : ℕ} {after : ℤ} (y : Copy) → y ∈ (lut K i).leaves → IsInput N x → y.node ≡ x → before ≡ y.back → after ≡ registers N K i y → Route N K x i before after
  passes : {i before : ℕ} {after : ℤ} (y : Copy) (b : ℕ) (a : ℤ) → y ∈ (lut K i).leaves → IsGate N y.node → Route N K x (K.feeder i y) b a
      → before ≡ b + y.back → after ≡ (a +ℤ registers N K i y) → Route N K x i before after

-- The same to output o: through the LUT that it names, or from the input that it reads.
pub data Whole (N : Net) (K : Cover) (x o before : ℕ) (after : ℤ) : Type 0 where
  direct : IsInput N x → (output N o).src ≡ x → before ≡ (output N o).count → after ≡ output_registers N K o → Whole N K x o before after
  through : (b : ℕ) (a : ℤ) → IsGate N (output N o).src → Route N K x (K.named o) b a → before ≡ b + (output N o).count
      → after ≡ (a +ℤ output_registers N K o) → Whole N K x o before after
