-- The program takes a limited number of bytes from its input: what it prints for these is what the definition says of the whole input.
use Rattle.std.specs.Prelude.{◌≡◌, not, ℕ, ◌+◌, ◌*◌, ◌≤◌, ◌<◌, length, get_or, take, drop}
use Rattle.std.proofs.Math.Path.{refl, ap}
use Rattle.std.proofs.Common.{sym, ap₂, ◌∙◌, arith, length-drop}
use Rattle.std.proofs.Math.Bool.{cond}
use mathlib.Core.List.{List, [], ◌∷◌, ◌++◌}
use Rattle.std.proofs.Math.ListN.{get_or-append}
use Rattle.std.proofs.lemmas.List.{take-append-le, drop-append-le}
use Rattle.limits.specs.Courses.{long}
use Rattle.limits.specs.Limits.{least_k, most_k, bench_input}
use Rattle.sequences.specs.Member.{in_get_or}
use Rattle.net_model.specs.Net.{Net}
use Rattle.net_model.specs.Checks.{Loopless, AllReached, AllLeading}
use Rattle.net_bytes.specs.Reading.{Result, got, refused, between}
use Rattle.net_bytes.specs.Walk.{Drawn, drawn_reader}
use Rattle.net_bytes.specs.Short.{Bytes}
use Rattle.cone_theory.specs.ChecksDecided.{loopless?, reached?, leading?}
use Rattle.cover_records.specs.Listing.{refusal_text}
use Rattle.text_bench.specs.BenchText.{bench_text}
use Rattle.text_bench.specs.BenchTextLaws.{text-unread}
use Rattle.job_bench.specs.BenchProgram.{bench_section, bench_graph, bench_drawn, bench_read, bench_of, bench_program}

-- input bytes with which every net has the same text
module _ (pairs pairs' : List ℕ) (same : (N : Net) (section : List ℕ) → bench_text N section pairs ≡ bench_text N section pairs') where
  section-same : (N : Net) (section : List ℕ) → bench_section N section pairs ≡ bench_section N section pairs'
  section-same N [] = refl
  section-same N (b ∷ bytes) = same N (b ∷ bytes)

  graph_same : (d : Drawn) (a : Dec (Loopless d.net)) (b : Dec (AllReached d.net)) (c : Dec (AllLeading d.net)) → bench_graph d pairs a b c ≡ bench_graph d pairs' a b c
  unfolding bench_graph
  graph_same d (no a) b c = refl
  graph_same d (yes a) (no b) c = refl
  graph_same d (yes a) (yes b) (no c) = refl
  graph_same d (yes a) (yes b) (yes c) = section-same d.net d.section

  read_same : (r : Result Drawn) → bench_read r pairs ≡ bench_read r pairs'
  unfolding bench_read bench_drawn
  read_same (refused n) = refl
  read_same (got d end) = graph_same d (loopless? d.net) (reached? d.net) (leading? d.net)

  bench-same : (k : ℕ) (net : List ℕ) → bench_of k net pairs ≡ bench_of k net pairs'
  unfolding bench_of
  bench-same k net = ap (λ (l : List ℕ). cond (not (between least_k most_k k)) (refusal_text 1) l) (read_same (drawn_reader long k net))

-- **what follows the first 196,608 bytes changes nothing**
pub bench-cut : (s t : List ℕ) → Bytes s → bench_input ≤ length s → bench_program s ≡ bench_program (s ++ t)
unfolding bench_program
bench-cut s t b l =
    bench-same (drop n behind) (drop n behind ++ t) (λ N section. text-unread N section (drop n behind) t (omega (arith, length-drop n behind, length-drop 3 s, byte 1 (omega arith), byte 2 (omega arith)))) (get_or s 0 0) (take n behind)
    ∙ ap₂ (λ (net pairs : List ℕ). bench_of (get_or s 0 0) net pairs) (sym (take-append-le n behind t enough)) (sym (drop-append-le n behind t enough))
    ∙ ap₂ (λ (k : ℕ) (r : List ℕ). bench_of k (take n r) (drop n r)) (at 0 (omega arith)) (sym (drop-append-le 3 s t (omega arith)))
    ∙ ap (λ (m : ℕ). bench_of (get_or (s ++ t) 0 0) (take m (drop 3 (s ++ t))) (drop m (drop 3 (s ++ t)))) (ap₂ (λ (low high : ℕ). low + 256 * high) (at 1 (omega arith)) (at 2 (omega arith)))
  where
    n : ℕ
    n = get_or s 1 0 + 256 * get_or s 2 0

    behind : List ℕ
    behind = drop 3 s

    at : (i : ℕ) → i < length s → get_or s i 0 ≡ get_or (s ++ t) i 0
    at i h = sym (get_or-append s t 0 i h)

    byte : (i : ℕ) → i < length s → get_or s i 0 < 256
    byte i h = b (get_or s i 0) (in_get_or s i 0 h)

    enough : get_or s 1 0 + 256 * get_or s 2 0 ≤ length (drop 3 s)
    enough = omega (arith, byte 1 (omega arith), byte 2 (omega arith), length-drop 3 s)
