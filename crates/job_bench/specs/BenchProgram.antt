-- Definitions: the bench program (document 02, E5), from the bytes it reads to the bytes it prints.
use Rattle.std.specs.Prelude.{cond, not, List, [], ◌∷◌, ℕ, ◌+◌, ◌*◌, take, drop, get_or}
use Rattle.limits.specs.Courses.{long}
use Rattle.limits.specs.Limits.{least_k, most_k}
use Rattle.net_model.specs.Net.{Net}
use Rattle.net_model.specs.Checks.{Loopless, AllReached, AllLeading}
use Rattle.net_bytes.specs.Reading.{Result, got, refused, between}
use Rattle.net_bytes.specs.Walk.{Drawn, drawn_reader}
use Rattle.cone_theory.specs.ChecksDecided.{loopless?, reached?, leading?}
use Rattle.cover_records.specs.Listing.{refusal_text}
use Rattle.text_bench.specs.BenchText.{bench_text}

-- "Answers: 21, a run is wanted of a net without the section, told after 11."
abbrev pub bench_section : Net → List ℕ → List ℕ → List ℕ
bench_section N [] pairs = refusal_text 21
bench_section N (b ∷ bytes) pairs = bench_text N (b ∷ bytes) pairs

-- 9, 10 and 11, in this order
unfoldable pub bench_graph : (d : Drawn) → List ℕ → Dec (Loopless d.net) → Dec (AllReached d.net) → Dec (AllLeading d.net) → List ℕ
bench_graph d pairs (no a) b c = refusal_text 9
bench_graph d pairs (yes a) (no b) c = refusal_text 10
bench_graph d pairs (yes a) (yes b) (no c) = refusal_text 11
bench_graph d pairs (yes a) (yes b) (yes c) = bench_section d.net d.section pairs

unfoldable pub bench_drawn : Drawn → List ℕ → List ℕ
unfolding bench_graph
bench_drawn d pairs = bench_graph d pairs (loopless? d.net) (reached? d.net) (leading? d.net)

unfoldable pub bench_read : Result Drawn → List ℕ → List ℕ
unfolding bench_drawn
bench_read (refused n) pairs = refusal_text n
bench_read (got d end) pairs = bench_drawn d pairs

-- refusals in document 01's order; the program lends areas that are large enough, so that 3 never arises, and there is no target, so that 2 does not
unfoldable pub bench_of : ℕ → List ℕ → List ℕ → List ℕ
unfolding bench_read drawn_reader
bench_of k net pairs = cond (not (between least_k most_k k)) (refusal_text 1) (bench_read (drawn_reader long k net) pairs)

-- "The bench program reads k, a two-byte length, the net (what there is of it), then two input bytes per step, all low first"; "k or length missing reads as 0"
unfoldable pub bench_program : List ℕ → List ℕ
unfolding bench_of
bench_program input =
    let n = get_or input 1 0 + 256 * get_or input 2 0 in
    bench_of (get_or input 0 0) (take n (drop 3 input)) (drop n (drop 3 input))
