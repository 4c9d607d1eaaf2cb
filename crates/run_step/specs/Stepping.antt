-- Definitions: what is kept from step to step, and what the functions that make steps ask and tell.
use Rattle.std.specs.Prelude.{◌≡◌, List, ℕ, suc, ◌+◌, ◌-◌, ◌*◌, ◌%◌, ◌≤◌, ◌<◌, length, get_or}
use Rattle.limits.specs.Limits.{most_inputs, most_count}
use Rattle.net_model.specs.Arrays.{net_in}
use Rattle.net_model.specs.PackedNet.{order_at}
use Rattle.net_model.specs.Tables.{as_number}
use Rattle.net_reader.specs.ReadAnswer.{arrays_of}
use Rattle.net_reader.specs.declared.NetSizes.{NetSizes}
use Rattle.run_theory.specs.Bench.{value_at, Keeps}
use Rattle.run_theory.specs.BenchBytes.{section_in, pairs_in}
use Rattle.run_values.specs.Sheets.{Runnable, Sheet, value_of, told, StepReady}

-- the first n gates of the order are noted
pub record Ordering (S : Sheet) (known₀ known : List ℕ) (n : ℕ) : Type 0 where
  pub ready : StepReady S known
  pub long : length known ≡ length known₀
  pub noted : (i : ℕ) → i < n → 1 ≤ get_or known (get_or S.net (order_at S.sizes.inputs S.sizes.gates + i) 0) 0

-- every gate's value of this step is noted
pub record Valued (S : Sheet) (known known' : List ℕ) : Type 0 where
  pub long : length known' ≡ length known
  pub all : (g : ℕ) → g < S.sizes.gates → get_or known' g 0 ≡ suc (as_number (value_of S (S.sizes.inputs + g) 0))

-- a byte of a section, one step on: the newest value in bit 0, the two newest that were kept behind it
abbrev pub next_byte : ℕ → ℕ → ℕ
next_byte byte value = 2 * (byte % 4) + value

pub record AdvanceAsked (z : NetSizes) (known kept : List ℕ) : Type 0 where
  pub inputs : z.inputs ≤ most_inputs
  pub room : z.inputs + z.gates ≤ length kept
  pub size : z.gates ≤ length known
  pub low : (g : ℕ) → g < z.gates → 1 ≤ get_or known g 0
  pub high : (g : ℕ) → g < z.gates → get_or known g 0 ≤ 2

-- the first n bytes are one step on, the others stay
pub record Advanced (I word : ℕ) (known kept kept' : List ℕ) (n : ℕ) : Type 0 where
  pub long : length kept' ≡ length kept
  pub next : (v : ℕ) → v < n → get_or kept' v 0 ≡ next_byte (get_or kept v 0) (told I kept word known v 0 - 1)
  pub rest : (v : ℕ) → n ≤ v → get_or kept' v 0 ≡ get_or kept v 0

-- ---- a step

pub record StepAsked (z : NetSizes) (net tables kept known : List ℕ) : Type 0 where
  pub runnable : Runnable z net tables
  pub room : z.inputs + z.gates ≤ length kept
  pub size : z.gates ≤ length known

-- what is kept is one step on
pub record StepTold (S : Sheet) (kept' known known' : List ℕ) : Type 0 where
  pub next : (v : ℕ) → v < S.sizes.inputs + S.sizes.gates → get_or kept' v 0 ≡ next_byte (get_or S.kept v 0) (as_number (value_of S v 0))
  pub long : length kept' ≡ length S.kept
  pub size : length known' ≡ length known

-- ---- the run over pairs of input bytes

-- what is kept after so many steps
pub record RunTo (z : NetSizes) (net tables pairs kept known kept' known' : List ℕ) (steps : ℕ) : Type 0 where
  pub keeps : Keeps (net_in (arrays_of z net tables)) most_count (section_in kept) (value_at (net_in (arrays_of z net tables)) (section_in kept) (pairs_in pairs)) (section_in kept') steps
  pub long : length kept' ≡ length kept
  pub size : length known' ≡ length known
