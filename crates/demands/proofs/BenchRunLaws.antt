-- Laws of document 02, E5.
use Rattle.std.specs.Prelude.{◌≡◌, Bool, true, false, length}
use Rattle.std.proofs.Math.Path.{refl, ap}
use Rattle.std.proofs.Common.{sym, ap₂, ◌∙◌, arith}
use Rattle.std.proofs.Math.Bool.{not}
use mathlib.Core.List.{List, [], ◌∷◌, ◌++◌, append-nil}
use Prim.Native.Nat.{ℕ, zero, suc, ◌%◌, ◌≤◌, ◌<◌}
use Rattle.std.proofs.Math.Decide.{dec_le}
use Rattle.limits.specs.Limits.{least_k, most_k, most_net_bytes}
use Rattle.limits.specs.Courses.{long}
use Rattle.net_model.specs.Net.{Net}
use Rattle.net_model.specs.Checks.{Loopless, AllReached, AllLeading}
use Rattle.net_bytes.specs.Reading.{Result, and_then, between, got, refused}
use Rattle.net_bytes.specs.Walk.{Drawn, drawn_reader, net_reader}
use Rattle.net_bytes.specs.Readers.{refused-not-got, then-goes}
use Rattle.net_bytes.specs.Stages.{net_of, net_stages}
use Rattle.net_bytes.specs.SectionLaws.{Unsectioned, net-plain, section-off, net-off}
use Rattle.net_bytes.specs.Short.{Bytes, short-refuses, short-net}
use Rattle.net_bytes.specs.Sound.{drawn-facts}
use Rattle.run_theory.proofs.BenchLaws as law
use Rattle.cone_theory.specs.ChecksDecided.{loopless?, reached?, leading?}
use Rattle.cover_records.specs.Listing.{refusal_text}
use Rattle.cover_records.specs.CheckLaws.{check-same}
use Rattle.cover_records.specs.LoaderOutcome.{LoaderOutcome, loader_sized, loader_fit, loader_outcome, too_short}
use Rattle.cover_records.specs.Outcomes.{Checked, check_net, cleared, MapOutcome, MarkOutcome, map_sizes, map_checked, map_sized, map_outcome, mark_sizes, mark_checked, mark_sized, mark_outcome}
use Rattle.job_bench.specs.BenchProgram.{bench_section, bench_graph, bench_drawn, bench_of, bench_program}
use Rattle.job_bench.specs.BenchJobLaws.{section-none, section-some}
use Rattle.job_bench.specs.BenchInputs.{of-unknown, of-refused, of-drawn}
use Rattle.job_bench.specs.LongBench.{bench-cut}
use Rattle.demands.specs.TurnedBack.{IsNet}
use Rattle.demands.specs.BenchRun.{IsDrawn, TakenOff, Runs, Stops, loop, unreached, unled, BenchRun}

-- ---- outcomes look at the net's record through the checks alone

module _ (k : ℕ) (net net' : List ℕ) (e : check_net long k net ≡ check_net long k net') where
  map-bytes : (target : ℕ) (area scratch : List ℕ) → map_outcome long net k target area scratch ≡ map_outcome long net' k target area scratch
  unfolding map_outcome map_sized
  map-bytes target area scratch = go (map_sizes long k target area scratch)
    where
      go : (n : ℕ) → map_sized long n k target net area scratch ≡ map_sized long n k target net' area scratch
      go zero = ap (λ (c : Checked k). map_checked long k target c area scratch) e
      go (suc n) = refl

  loader-bytes : (target : ℕ) (area scratch loader : List ℕ) → loader_outcome long net k target area scratch loader ≡ loader_outcome long net' k target area scratch loader
  unfolding loader_outcome loader_sized
  loader-bytes target area scratch loader = go (map_sizes long k target area scratch)
    where
      go : (n : ℕ) → loader_sized long n k target net area scratch loader ≡ loader_sized long n k target net' area scratch loader
      go zero = ap (λ (c : Checked k). loader_fit long (too_short loader) k target c area scratch loader) e
      go (suc n) = refl

  mark-bytes : (bytes scratch : List ℕ) → mark_outcome long net k bytes scratch ≡ mark_outcome long net' k bytes scratch
  unfolding mark_outcome mark_sized
  mark-bytes bytes scratch = go (mark_sizes long k scratch)
    where
      go : (n : ℕ) → mark_sized long n k net bytes scratch ≡ mark_sized long n k net' bytes scratch
      go zero = ap (λ (c : Checked k). record { answer = mark_checked long k c bytes; scratch = cleared long.scratch scratch }) e
      go (suc n) = refl

-- ---- the section taken off

drawn-net : (k : ℕ) (bytes : List ℕ) (d : Drawn) → IsDrawn k bytes d → IsNet k bytes d.net
drawn-net k bytes d x = (x.0, net_stages long k bytes ∙ then-goes net_of x.1)

off : (k : ℕ) (bytes : List ℕ) (d : Drawn) → IsDrawn k bytes d → (plain : List ℕ) × TakenOff bytes d.section plain × (check_net long k bytes ≡ check_net long k plain)
unfolding drawn_reader
off k [] d x = absurd (refused-not-got 4 d x.0 x.1)
off k (b ∷ r) d x =
    let u = section-off long k b r d x.0 x.1 in
    let plain : List ℕ = b % 128 ∷ u.body in
    (plain, record { first = b; body = u.body; whole = ap (λ (l : List ℕ). b ∷ l) u.parts; off = refl }, check-same long long k (b ∷ r) plain (net-off long k b r d x.0 x.1))

drawn-most : (k : ℕ) (bytes : List ℕ) → Bytes bytes → (d : Drawn) → IsDrawn k bytes d → length bytes ≤ most_net_bytes
drawn-most k bytes b d x = go (dec_le (length bytes) most_net_bytes)
  where
    go : Dec (length bytes ≤ most_net_bytes) → length bytes ≤ most_net_bytes
    go (yes l) = l
    go (no n) =
        let r = short-refuses (short-net long k) bytes b (omega arith) in
        absurd (refused-not-got r.0 d.net (drawn-net k bytes d x).0 (sym (r.1 []) ∙ ap (net_reader long k) (append-nil bytes) ∙ (drawn-net k bytes d x).1))

-- ---- the text, one law for each way out

module _ (k : ℕ) (known : between least_k most_k k ≡ true) (bytes : List ℕ) where
  walk-told : (n : ℕ) → net_reader long k bytes ≡ refused n → (pairs : List ℕ) → bench_of k bytes pairs ≡ refusal_text n
  walk-told n e pairs = of-refused k bytes pairs (ap not known) (go (drawn_reader long k bytes) (sym (net_stages long k bytes) ∙ e))
    where
      go : (r : Result Drawn) → and_then r net_of ≡ refused n → r ≡ refused n
      go (got d rest) q = absurd (refused-not-got n d.net rest (sym q))
      go (refused m) q = let same : m ≡ n = cc in ap refused same

  module _ (d : Drawn) (x : IsDrawn k bytes d) where
    read_all : drawn_reader long k bytes ≡ got d []
    read_all = x.1 ∙ ap (λ (l : List ℕ). got d l) (drawn-facts long k bytes d x.0 x.1).1

    -- behind 9 to 11
    passed : Runs d.net → (pairs : List ℕ) → bench_of k bytes pairs ≡ bench_section d.net d.section pairs
    unfolding bench_drawn
    passed r pairs = of-drawn k bytes pairs (ap not known) d read_all ∙ go (loopless? d.net) (reached? d.net) (leading? d.net)
      where
        go : (a : Dec (Loopless d.net)) (b : Dec (AllReached d.net)) (c : Dec (AllLeading d.net)) → bench_graph d pairs a b c ≡ bench_section d.net d.section pairs
        go (yes a) (yes b) (yes c) = unfold bench_graph in refl
        go (no a) b c = absurd (a r.loopless)
        go (yes a) (no b) c = absurd (b r.reached)
        go (yes a) (yes b) (no c) = absurd (c r.leading)

    stopped : ¬ Runs d.net → (n : ℕ) × Stops d.net n × ((pairs : List ℕ) → bench_of k bytes pairs ≡ refusal_text n)
    unfolding bench_drawn
    stopped r = go (loopless? d.net) (reached? d.net) (leading? d.net) (λ pairs. of-drawn k bytes pairs (ap not known) d read_all)
      where
        go : (a : Dec (Loopless d.net)) (b : Dec (AllReached d.net)) (c : Dec (AllLeading d.net)) → ((pairs : List ℕ) → bench_of k bytes pairs ≡ bench_graph d pairs a b c)
            → (n : ℕ) × Stops d.net n × ((pairs : List ℕ) → bench_of k bytes pairs ≡ refusal_text n)
        go (yes a) (yes b) (yes c) e = absurd (r (record { loopless = a; reached = b; leading = c }))
        go (no a) b c e = (9, loop a, λ pairs. e pairs ∙ (unfold bench_graph in refl))
        go (yes a) (no b) c e = (10, unreached a b, λ pairs. e pairs ∙ (unfold bench_graph in refl))
        go (yes a) (yes b) (no c) e = (11, unled a b c, λ pairs. e pairs ∙ (unfold bench_graph in refl))

pub bench-run : BenchRun
bench-run = record {
  net = drawn-net;
  most = drawn-most;
  plain = net-plain long;
  map_same = λ c d x. let p = off c.k c.net d x in (p.0, p.1, map-bytes c.k c.net p.0 p.2 c.target c.area c.scratch);
  loader-same = λ c loader d x. let p = off c.k c.net d x in (p.0, p.1, loader-bytes c.k c.net p.0 p.2 c.target c.area c.scratch loader);
  mark-same = λ c d x. let p = off c.k c.net d x in (p.0, p.1, mark-bytes c.k c.net p.0 p.2 c.bytes c.scratch);
  run = λ s l. law.bench s l;
  only = λ s l section inputs b. law.bench_unique s l section inputs b;
  demand_2 = law.bench-run;
  text = λ k known bytes d x r h pairs. passed k known bytes d x r pairs ∙ sym (section-some d.net d.section pairs (λ e. omega (arith, h, e)));
  unknown = λ k h bytes pairs. of-unknown k bytes pairs (ap not h);
  walk = walk-told;
  graph = stopped;
  none = λ k known bytes d x r h pairs. passed k known bytes d x r pairs ∙ sym (section-none d.net d.section pairs h);
  unread = bench-cut;
}
