-- Laws of the parts of the bench program's input, and of a net read with its section.
use Rattle.std.specs.Prelude.{◌≡◌, Bool, true, false, not, List, [], ◌⊎◌, ℕ, ◌+◌, ◌-◌, ◌*◌, ◌≤◌, length, get_or, take, drop, Ok}
use Rattle.std.proofs.Common.{sym, ◌∙◌, inl, inr, arith}
use Rattle.std.proofs.Math.Path.{ap, ap₂}
use Rattle.std.proofs.Math.Bool.{cond}
use Rattle.limits.specs.Courses.{long, is-long}
use Rattle.limits.specs.Limits.{least_k, most_k, most_gates, most_nodes, most_packed, bench_room}
use Rattle.net_model.specs.Net.{size}
use Rattle.net_model.specs.Arrays.{net_in}
use Rattle.net_model.specs.ArrayLaws.{size-net_in}
use Rattle.net_bytes.specs.Reading.{Result as Outcome, between, got, refused}
use Rattle.net_bytes.specs.Walk.{Drawn, drawn, drawn_reader}
use Rattle.net_bytes.specs.Sound.{drawn-facts}
use Rattle.net_reader.specs.ReadAnswer.{arrays_of, drawn_of}
use Rattle.net_reader.specs.NetLaws.{net-alone}
use Rattle.net_reader.specs.ReadWires.{room-read}
use Rattle.net_reader.specs.WalkFacts.{WalkFacts, read-facts}
use Rattle.net_reader.specs.declared.DrawnRead.{DrawnRead}
use Rattle.inputs.specs.InputParts.{Behind}
use Rattle.cover_records.specs.Listing.{refusal_text}
use Rattle.job_bench.specs.BenchProgram.{bench_drawn, bench_read, bench_of, bench_program}
use Rattle.job_bench.specs.BenchJob.{Benching}

-- **the text of the parts is the program's**
pub program_parts : (l net pairs : List ℕ) (k n at end : ℕ) → k ≡ get_or l 0 0 → n ≡ get_or l 1 0 + 256 * get_or l 2 0 → Behind l 0 3 at → Behind l at n end
    → net ≡ take (end - at) (drop at l) → pairs ≡ drop end l → bench_program l ≡ bench_of k net pairs
unfolding bench_program
program_parts l net pairs k n at end e f b d g h =
    let m : ℕ = get_or l 1 0 + 256 * get_or l 2 0 in
    ap (λ (x : ℕ). bench_of x (take m (drop 3 l)) (drop m (drop 3 l))) (sym e)
    ∙ ap₂ (λ (x : ℕ) (y : List ℕ). bench_of k (take x y) (drop x y)) (sym f) (sym b.behind)
    ∙ ap₂ (bench_of k) (sym (g ∙ d.before)) (sym (h ∙ d.behind))

-- ---- one law for each way out of the reading

module _ (k : ℕ) (net pairs : List ℕ) where
  pub of-unknown : not (between least_k most_k k) ≡ true → bench_of k net pairs ≡ refusal_text 1
  unfolding bench_of
  of-unknown h = ap (λ (t : Bool). cond t (refusal_text 1) (bench_read (drawn_reader long k net) pairs)) h

  of-known : not (between least_k most_k k) ≡ false → {r : Outcome Drawn} → drawn_reader long k net ≡ r → bench_of k net pairs ≡ bench_read r pairs
  unfolding bench_of
  of-known h e = ap₂ (λ (t : Bool) (r : Outcome Drawn). cond t (refusal_text 1) (bench_read r pairs)) h e

  pub of-refused : not (between least_k most_k k) ≡ false → {n : ℕ} → drawn_reader long k net ≡ refused n → bench_of k net pairs ≡ refusal_text n
  unfolding bench_read
  of-refused h e = of-known h e

  pub of-drawn : not (between least_k most_k k) ≡ false → (d : Drawn) → drawn_reader long k net ≡ got d [] → bench_of k net pairs ≡ bench_drawn d pairs
  unfolding bench_read
  of-drawn h d e = of-known h e

-- ---- the net read

module _ (k : ℕ) (bytes : List ℕ) (r : DrawnRead) (net ts : List ℕ) (e : drawn_reader long k bytes ≡ drawn_of (Ok r) net ts bytes)
    (packed : length net ≡ most_packed) (tabled : length ts ≡ most_gates) (section : List ℕ) (rest : section ≡ drop r.at bytes) where
  pub drawn-got : drawn_reader long k bytes ≡ got (drawn (net_in (arrays_of r.sizes net ts)) section) []
  drawn-got = e ∙ ap (λ (l : List ℕ). got (drawn (net_in (arrays_of r.sizes net ts)) l) []) (sym rest)

  facts : WalkFacts k (arrays_of r.sizes net ts)
  facts = read-facts long k bytes r.sizes net ts (net-alone long k bytes _ e) is-long

  -- a byte a node, or none
  section-long : (length section ≡ 0) ⊎ (length section ≡ r.sizes.inputs + r.sizes.gates)
  section-long = by (drawn-facts long k bytes (drawn (net_in (arrays_of r.sizes net ts)) section) [] drawn-got).0.long
    where
      by : (length section ≡ 0) ⊎ (length section ≡ size (net_in (arrays_of r.sizes net ts))) → (length section ≡ 0) ⊎ (length section ≡ r.sizes.inputs + r.sizes.gates)
      by (inl p) = inl p
      by (inr p) = inr (p ∙ size-net_in (arrays_of r.sizes net ts))

  pub section-most : length section ≤ most_nodes
  section-most = by section-long
    where
      by : (length section ≡ 0) ⊎ (length section ≡ r.sizes.inputs + r.sizes.gates) → length section ≤ most_nodes
      by (inl p) = omega arith
      by (inr p) = omega (arith, facts.inputs-high, facts.gates-high)

  pub benching : {out : List ℕ} → bench_room ≤ length out → Benching r.sizes net ts section out
  benching room = record { k = k; facts = facts; packed = room-read facts packed tabled; bytes = by section-long; room = room }
    where
      by : (length section ≡ 0) ⊎ (length section ≡ r.sizes.inputs + r.sizes.gates) → (length section ≡ 0) ⊎ (r.sizes.inputs + r.sizes.gates ≤ length section)
      by (inl p) = inl p
      by (inr p) = inr (omega arith)
