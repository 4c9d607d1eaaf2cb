-- Definitions: what the functions that write the bench's text ask and tell.
use Rattle.std.specs.Prelude.{List, map, ℕ, ◌+◌, ◌≤◌, length}
use Rattle.limits.specs.Limits.{most_outputs, bench_room}
use Rattle.net_model.specs.Net.{Pin}
use Rattle.net_model.specs.Arrays.{pins_in}
use Rattle.net_reader.specs.declared.NetSizes.{NetSizes}
use Rattle.net_checks.specs.Graphs.{outs_of, delays_of}
use Rattle.run_theory.specs.BenchBytes.{section_in}
use Rattle.run_values.specs.Sheets.{Sheet, net_of, value_of, pin_of, StepReady, More}
use Rattle.run_step.specs.Stepping.{StepAsked, StepTold}
use Rattle.text_digits.specs.Put.{Put}
use Rattle.text_bench.specs.BenchText.{bit_digit, bench_digits, bench_line}

-- the digits of the first n outputs
unfoldable pub first_digits : Sheet → ℕ → List ℕ
first_digits S n = map (λ (o : Pin). bit_digit (pin_of S o)) (pins_in (outs_of S.sizes S.net) (delays_of S.sizes S.net) 0 n)

-- room for the digits of the outputs
pub record DigitsAsked (S : Sheet) (known : List ℕ) (at : ℕ) (out : List ℕ) : Type 0 where
  pub ready : StepReady S known
  pub room : at + S.sizes.outputs ≤ length out

pub record DigitsTold (S : Sheet) (known known' : List ℕ) (at : ℕ) (out out' : List ℕ) (r : ℕ) : Type 0 where
  pub more : More S known known'
  pub digits : Put S.sizes.outputs at (bench_digits (net_of S) (section_in S.kept) (value_of S) 0) out out' r

-- room for a line
pub record LineAsked (z : NetSizes) (net tables kept known : List ℕ) (at : ℕ) (out : List ℕ) : Type 0 where
  pub step : StepAsked z net tables kept known
  pub outputs : z.outputs ≤ most_outputs
  pub room : at + (most_outputs + 1) ≤ length out

pub record LineTold (S : Sheet) (kept' known known' : List ℕ) (at : ℕ) (out out' : List ℕ) (r : ℕ) : Type 0 where
  pub step : StepTold S kept' known known'
  pub line : Put (most_outputs + 1) at (bench_line (net_of S) (section_in S.kept) (value_of S) 0) out out' r

-- room for the text
pub record BenchAsked (z : NetSizes) (net tables kept known out : List ℕ) : Type 0 where
  pub step : StepAsked z net tables kept known
  pub outputs : z.outputs ≤ most_outputs
  pub room : bench_room ≤ length out
