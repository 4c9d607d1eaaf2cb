-- Worked examples of the bench's text, computed by the prover.
use Rattle.std.specs.Prelude.{◌≡◌, refl, [], ◌∷◌, ℕ}
use Rattle.net_model.specs.Net.{Net, Pin, gate}
use Rattle.run_theory.specs.Bench.{ago, repeated, value_at}
use Rattle.text_bench.specs.BenchText.{bench_digits, bench_lines, bench_text}

unfoldable pin : ℕ → ℕ → Pin
pin s w = record { src = s; count = w }

-- document 01's net C: gate 2 = AND(0:1, 1:1), output reads 2
unfoldable pub net_c : Net
unfolding pin
net_c = record { inputs = 2; gates = record { pins = pin 0 1 ∷ pin 1 1 ∷ []; table = 8 } ∷ []; outputs = pin 2 0 ∷ [] }

-- net A: gate 2 = AND(0, 1), gate 3 of 2 and of 4 one step back, gate 4 = NOT 3; output reads 4
unfoldable pub net_a : Net
unfolding pin
net_a = record {
  inputs = 2;
  gates = record { pins = pin 0 0 ∷ pin 1 0 ∷ []; table = 8 } ∷ record { pins = pin 2 0 ∷ pin 4 1 ∷ []; table = 6 } ∷ record { pins = pin 3 0 ∷ []; table = 1 } ∷ [];
  outputs = pin 4 0 ∷ [];
}

-- at step 0 a gate is computed from the section's inputs, whatever its own byte says; a lone last byte is no step
pub gate-from-section : bench_text net_c (1 ∷ 1 ∷ 0 ∷ []) (2 ∷ 0 ∷ 9 ∷ []) ≡ 49 ∷ 10 ∷ []
unfolding net_c pin bench_text bench_lines bench_digits value_at repeated ago gate
gate-from-section = refl

-- from step 1 on its pins read the inputs of the step before
pub inputs-of-the-step-before : bench_text net_c (0 ∷ 0 ∷ 1 ∷ []) (3 ∷ 0 ∷ 255 ∷ 255 ∷ 1 ∷ 0 ∷ 0 ∷ 0 ∷ []) ≡ 48 ∷ 10 ∷ 49 ∷ 10 ∷ 49 ∷ 10 ∷ 48 ∷ 10 ∷ []
unfolding net_c pin bench_text bench_lines bench_digits value_at repeated ago gate
inputs-of-the-step-before = refl

-- a loop through a register, from its own value before step 0
pub loop-from-section : bench_text net_a (0 ∷ 0 ∷ 0 ∷ 0 ∷ 1 ∷ []) (3 ∷ 0 ∷ 3 ∷ 0 ∷ 0 ∷ 0 ∷ 0 ∷ 0 ∷ []) ≡ 49 ∷ 10 ∷ 49 ∷ 10 ∷ 48 ∷ 10 ∷ 49 ∷ 10 ∷ []
unfolding net_a pin bench_text bench_lines bench_digits value_at repeated ago gate
loop-from-section = refl
