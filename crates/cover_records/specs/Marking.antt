-- Definitions: what checks 14 to 18 of document 01 ask of a candidate's LUTs, as statements about the LUTs read.
use Rattle.std.specs.Prelude.{◌≡◌, List, ℕ, ◌<◌, ℤ, pos, length, ◌≤ℤ◌}
use Rattle.sequences.specs.Member.{◌∈◌}
use Rattle.net_model.specs.Net.{Net, Pin, IsGate}
use Rattle.net_model.specs.Copies.{Copy, IsCut}
use Rattle.net_model.specs.Tables.{table_of}
use Rattle.cover_theory.specs.Covers.{lut, registers, output_registers, Meets}
use Rattle.cover_theory.specs.Key.{Entry, HasLut, as_cover}

-- 14, "Some LUT's leaves are no cut of its root": all are.
abbrev pub CutsRight : Net → ℕ → List Entry → Type 0
CutsRight N k es = (e : Entry) → e ∈ es → IsCut N k e.root e.leaves

-- the leaves are a cut, and the table is the LUT's table
pub record TableRight (N : Net) (k : ℕ) (e : Entry) : Type 0 where
  pub cut : IsCut N k e.root e.leaves
  pub table : e.table ≡ table_of N e.root cut.cone e.leaves

-- 15, "Some table is wrong": none is.
abbrev pub TablesRight : Net → ℕ → List Entry → Type 0
TablesRight N k es = (e : Entry) → e ∈ es → TableRight N k e

-- 16, "A gate leaf or gate source of an output has no LUT": each has.
pub record AllFed (N : Net) (es : List Entry) : Type 0 where
  pub leaves : (e : Entry) → e ∈ es → (y : Copy) → y ∈ e.leaves → IsGate N y.node → HasLut es y.node
  pub outputs : (o : Pin) → o ∈ N.outputs → IsGate N o.src → HasLut es o.src

-- 17, "Some connection gets fewer than 0 registers": none does.
pub record EnoughRegisters (N : Net) (es : List Entry) : Type 0 where
  pub leaves : (i : ℕ) → i < length es → (y : Copy) → y ∈ (lut (as_cover N es) i).leaves → pos 0 ≤ℤ registers N (as_cover N es) i y
  pub outputs : (o : ℕ) → o < length N.outputs → pos 0 ≤ℤ output_registers N (as_cover N es) o

-- 18, "Some registerless chain is longer than the period": none is.
abbrev pub ShortChains : Net → ℕ → List Entry → Type 0
ShortChains N period es = Meets N (as_cover N es) period
