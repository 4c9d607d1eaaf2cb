-- The net record with its last section, computed on document 01's net C: gate 2 = AND(0:1, 1:1), output reads 2.
use Rattle.std.specs.Prelude.{◌≡◌, refl, List, [], ◌∷◌, ◌++◌, ℕ}
use Rattle.std.specs.Int.Count.{ones, ones_in}
use Rattle.limits.specs.Courses.{long}
use Rattle.net_bytes.specs.Reading.{got, refused, times}
use Rattle.net_bytes.specs.Walk.{drawn, drawn_reader, body_reader, gate_reader, output_reader, pins_from, from_bytes}
use Rattle.cover_records.specs.Listing.{refusal_text}
use Rattle.text_bench.specs.BenchExamples.{net_c}
use Rattle.job_bench.specs.BenchProgram.{bench_of, bench_read, bench_program}

-- all of its bytes behind the first
abbrev pub body_c : List ℕ
body_c = 1 ∷ 1 ∷ 3 ∷ 3 ∷ 0 ∷ 1 ∷ 1 ∷ 1 ∷ 8 ∷ 0 ∷ 2 ∷ []

-- with bit 7 a byte a node is the section; without it there is none
pub reads_section :
    (drawn_reader long 2 (0x82 ∷ body_c ++ 1 ∷ 1 ∷ 0 ∷ []) ≡ got (drawn net_c (1 ∷ 1 ∷ 0 ∷ [])) []) × (drawn_reader long 2 (2 ∷ body_c) ≡ got (drawn net_c []) [])
unfolding drawn_reader body_reader gate_reader output_reader pins_from from_bytes times ones ones_in net_c
reads_section = (refl, refl)

-- too few bytes of a section; a byte above 7; bytes behind it, and a section without bit 7
pub section-refused :
    (drawn_reader long 2 (0x82 ∷ body_c ++ 1 ∷ 1 ∷ []) ≡ refused 4) × (drawn_reader long 2 (0x82 ∷ body_c ++ 1 ∷ 8 ∷ []) ≡ refused 6)
    × (drawn_reader long 2 (0x82 ∷ body_c ++ 1 ∷ 1 ∷ 0 ∷ 0 ∷ []) ≡ refused 8) × (drawn_reader long 2 (2 ∷ body_c ++ 1 ∷ 1 ∷ 0 ∷ []) ≡ refused 8)
unfolding drawn_reader body_reader gate_reader output_reader pins_from from_bytes times ones ones_in
section-refused = (refl, refl, refl, refl)

-- the range of I without bit 7
pub inputs-refused : (drawn_reader long 2 (0x80 ∷ body_c) ≡ refused 5) × (drawn_reader long 2 (0x91 ∷ body_c) ≡ refused 5) × (drawn_reader long 2 (0x42 ∷ body_c) ≡ refused 5)
unfolding drawn_reader body_reader gate_reader output_reader pins_from from_bytes times ones ones_in
inputs-refused = (refl, refl, refl)

-- nothing to read: k is 0; k alone: the net is empty; a length beyond the input: the net is what is there
pub input-missing :
    (bench_program [] ≡ refusal_text 1) × (bench_program (2 ∷ []) ≡ refusal_text 4) × (bench_program (2 ∷ 9 ∷ 0 ∷ 0x82 ∷ 1 ∷ []) ≡ refusal_text 4)
unfolding bench_program bench_of bench_read drawn_reader body_reader gate_reader output_reader pins_from from_bytes times ones ones_in
input-missing = (refl, refl, refl)
