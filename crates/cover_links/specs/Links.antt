-- Definitions: what the test of checks 16, 17 and 18 asks of its arrays, and what its answer tells.
use Rattle.std.specs.Prelude.{◌≡◌, List, ℕ, ◌+◌, ◌≤◌, ◌<◌, ℤ, length, get_or}
use Rattle.net_model.specs.Net.{Net, size}
use Rattle.net_model.specs.Arrays.{pins_in}
use Rattle.limits.specs.Limits.{most_count, most_period}
use Rattle.cover_theory.specs.Key.{Entry}
use Rattle.cover_records.specs.Marking.{AllFed, EnoughRegisters, ShortChains}
use Rattle.cover_records.specs.Held.{held, luts_in}
use Rattle.cover_links.specs.LinkPlaces.{LutsJoined}

-- n LUTs and O outputs of a net with I inputs and G gates, and the period
pub record Linking (I G : ℕ) (outs delays : List ℕ) (O : ℕ) (roots sizes nodes backs : List ℕ) (lags : List ℤ) (n period : ℕ) : Type 0 where
  pub luts : LutsJoined I G roots sizes nodes backs lags n
  pub limit : period ≤ most_period
  pub at_outs : O ≤ length outs
  pub at_delays : O ≤ length delays
  pub out : (o : ℕ) → o < O → get_or outs o 0 < I + G
  pub delay : (o : ℕ) → o < O → get_or delays o 0 ≤ most_count

-- r is the number of the first of 16, 17, 18 that the LUTs break, or 0
pub data LinkedAs (N : Net) (period : ℕ) (es : List Entry) (r : ℕ) : Type 0 where
  unfed : r ≡ 16 → ¬ AllFed N es → LinkedAs N period es r
  short : r ≡ 17 → AllFed N es → ¬ EnoughRegisters N es → LinkedAs N period es r
  long : r ≡ 18 → AllFed N es → EnoughRegisters N es → ¬ ShortChains N period es → LinkedAs N period es r
  linked : r ≡ 0 → AllFed N es → EnoughRegisters N es → ShortChains N period es → LinkedAs N period es r

-- the answer r for the LUTs in the arrays, whatever their tables, and each net with these inputs, gates and outputs
pub record LinksTold (I G : ℕ) (outs delays : List ℕ) (O : ℕ) (roots sizes nodes backs : List ℕ) (lags : List ℤ) (n period r : ℕ) : Type 0 where
  pub tells : (N : Net) → N.inputs ≡ I → size N ≡ I + G → N.outputs ≡ pins_in outs delays 0 O → (tables : List ℕ)
      → LinkedAs N period (luts_in (held roots sizes nodes backs lags tables) n) r
