-- Definitions: what the bench prints of a net that was read and checked (document 02, E5).
use Rattle.std.specs.Prelude.{Bool, List, [], ◌++◌, map, ℕ, zero, suc, ◌+◌, min}
use Rattle.limits.specs.Limits.{most_steps}
use Rattle.net_model.specs.Net.{Net, Pin}
use Rattle.net_model.specs.Tables.{as_number}
use Rattle.cover_records.specs.Listing.{newline}
use Rattle.run_theory.specs.Bench.{pin_from, value_at}
use Rattle.run_theory.specs.BenchBytes.{section_in, pairs_in, steps_of}

-- "0s and 1s"
abbrev pub bit_digit : Bool → ℕ
bit_digit b = 48 + as_number b

-- "outputs in order"
unfoldable pub bench_digits : Net → (ℕ → ℕ → Bool) → (ℕ → ℕ → Bool) → ℕ → List ℕ
bench_digits N section value t = map (λ (o : Pin). bit_digit (pin_from section value t o)) N.outputs

-- "a line of 0s and 1s per step"
abbrev pub bench_line : Net → (ℕ → ℕ → Bool) → (ℕ → ℕ → Bool) → ℕ → List ℕ
bench_line N section value t = bench_digits N section value t ++ newline

-- the lines of the first n steps
unfoldable pub bench_lines : Net → (ℕ → ℕ → Bool) → (ℕ → ℕ → Bool) → ℕ → List ℕ
bench_lines N section value zero = []
bench_lines N section value (suc n) = bench_lines N section value n ++ bench_line N section value n

-- "for 65,535 steps at most, later bytes unread"
abbrev pub steps_shown : List ℕ → ℕ
steps_shown pairs = min most_steps (steps_of pairs)

-- the text for a net, its section and the input bytes
unfoldable pub bench_text : Net → List ℕ → List ℕ → List ℕ
unfolding bench_lines
bench_text N section pairs = bench_lines N (section_in section) (value_at N (section_in section) (pairs_in pairs)) (steps_shown pairs)
