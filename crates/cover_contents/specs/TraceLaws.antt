-- Laws of the trace: sample by sample, and for all inputs 0.
use Rattle.std.specs.Prelude.{◌≡◌, refl, Bool, false, List, [], ℕ, zero, suc, ◌+◌, ◌-◌, ◌*◌, ◌≤◌, ◌<◌, ℤ, pos, length, get_or, set}
use Rattle.std.proofs.Common.{sym, ap, subst, ◌∙◌, arith, length-set, get_or-set_same, get_or-set_other}
use Rattle.std.proofs.Math.Path.{fun_ext}
use Rattle.std.proofs.Math.Decide.{ℕ_discrete, dec_lt}
use Rattle.limits.specs.Limits.{most_count, most_nodes}
use Rattle.net_model.specs.Arrays.{net_in}
use Rattle.net_model.specs.ArrayLaws.{size-net_in}
use Rattle.net_model.specs.Tables.{bit, as_number}
use Rattle.cone_values.specs.Words.{bit-half}
use Rattle.net_reader.specs.ReadAnswer.{arrays_of}
use Rattle.net_reader.specs.declared.NetSizes.{NetSizes}
use Rattle.run_theory.specs.Bench.{ago, value_at}
use Rattle.run_theory.specs.BenchBytes.{section_in, pairs_in}
use Rattle.run_values.specs.Sheets.{Runnable, sheet}
use Rattle.run_step.specs.Stepping.{StepAsked, StepTold}
use Rattle.run_step.specs.SteppingLaws.{run_none, run_more, step-asks}
use Rattle.board_theory.specs.Contents.{quiet}
use Rattle.cover_records.specs.Kept.{Kept, entries_in}
use Rattle.cover_records.specs.Listing.{lag_in}
use Rattle.cover_registers.specs.Counting.{Within}
use Rattle.cover_registers.specs.RegisterCountLaws.{within-pos, within_minus}
use Rattle.cover_registers.specs.LagLaws.{lag-input, lag-beyond}
use Rattle.cover_contents.specs.Traces.{Sampled, Traced, Tracing, samples_to, MostSamples}

-- ---- one sample

pub sampled_none : (kept trace : List ℕ) (at : ℕ) → Sampled kept trace at 0 trace
sampled_none kept trace at = record { each = λ v h. absurd (omega arith); below = λ i h. refl; long = refl }

pub sampled_more : {kept trace trace' : List ℕ} {at n : ℕ} (byte : ℕ) → Sampled kept trace at n trace' → at + n < length trace' → byte ≡ as_number (bit (get_or kept n 0) (most_count - 1))
    → Sampled kept trace at (n + 1) (set trace' (at + n) byte)
sampled_more {kept} {trace} {trace'} {at} {n} byte s h e = record { each = each; below = below; long = length-set trace' (at + n) byte ∙ s.long }
  where
    each : (v : ℕ) → v < n + 1 → get_or (set trace' (at + n) byte) (at + v) 0 ≡ as_number (bit (get_or kept v 0) (most_count - 1))
    each v l = go (ℕ_discrete v n)
      where
        go : Dec (v ≡ n) → get_or (set trace' (at + n) byte) (at + v) 0 ≡ as_number (bit (get_or kept v 0) (most_count - 1))
        go (yes q) =
            ap (λ (x : ℕ). get_or (set trace' (at + n) byte) (at + x) 0) q ∙ get_or-set_same trace' (at + n) byte 0 h ∙ e ∙ ap (λ (x : ℕ). as_number (bit (get_or kept x 0) (most_count - 1))) (sym q)
        go (no m) = get_or-set_other trace' (at + n) (at + v) byte 0 (λ q. m (omega arith)) ∙ s.each v (omega arith)

    below : (i : ℕ) → i < at → get_or (set trace' (at + n) byte) i 0 ≡ get_or trace i 0
    below i l = get_or-set_other trace' (at + n) i byte 0 (λ q. absurd (omega arith)) ∙ s.below i l

-- ---- sample by sample

module _ {z : NetSizes} {net tables : List ℕ} (kept known trace : List ℕ) where
  pub tracing_none : Tracing z net tables kept known trace kept known trace 0
  tracing_none = record { run = run_none [] kept known; traced = record { each = λ t v h l. absurd (omega arith) }; long = refl }

  pub tracing_more : {kept' known' trace' kept'' known'' trace'' : List ℕ} {n : ℕ} → Runnable z net tables → z.inputs + z.gates ≤ most_nodes
      → Tracing z net tables kept known trace kept' known' trace' n → Sampled kept' trace' (most_nodes * n) (z.inputs + z.gates) trace''
      → StepTold (sheet z net tables kept' 0) kept'' known' known'' → Tracing z net tables kept known trace kept'' known'' trace'' (n + 1)
  tracing_more {kept'} {known'} {trace'} {kept''} {known''} {trace''} {n} r few u s t = record {
    run = run_more [] kept known r u.run t;
    traced = record { each = each };
    long = s.long ∙ u.long;
  }
    where
      value : ℕ → ℕ → Bool
      value = value_at (net_in (arrays_of z net tables)) (section_in kept) (pairs_in [])

      each : (i v : ℕ) → i < n + 1 → v < z.inputs + z.gates → get_or trace'' (most_nodes * i + v) 0 ≡ as_number (ago (section_in kept v) (value v) i most_count)
      each i v h l = go (ℕ_discrete i n)
        where
          go : Dec (i ≡ n) → get_or trace'' (most_nodes * i + v) 0 ≡ as_number (ago (section_in kept v) (value v) i most_count)
          go (yes q) =
              ap (λ (x : ℕ). get_or trace'' (most_nodes * x + v) 0) q ∙ s.each v l
              ∙ ap as_number (u.run.keeps v (most_count - 1) (omega (arith, size-net_in (arrays_of z net tables))) (omega arith))
              ∙ ap (λ (x : ℕ). as_number (ago (section_in kept v) (value v) x most_count)) (sym q)
          go (no m) = s.below (most_nodes * i + v) (omega arith) ∙ u.traced.each i v (omega arith) l

pub tracing_asks : {z : NetSizes} {net tables kept known trace kept' known' trace' : List ℕ} {n : ℕ} → StepAsked z net tables kept known → Tracing z net tables kept known trace kept' known' trace' n
    → StepAsked z net tables kept' known'
tracing_asks a u = step-asks a u.run

-- ---- the trace with all inputs 0

no_bit : (v : ℕ) → bit 0 v ≡ false
no_bit zero = refl
no_bit (suc v) = bit-half 0 v ∙ no_bit v

no_pairs : pairs_in [] ≡ quiet
no_pairs = fun_ext (λ v. fun_ext (λ t. no_bit v))

-- **a run without pairs has all inputs 0**
pub tracing_traced : {z : NetSizes} {net tables kept known trace kept' known' trace' : List ℕ} {n : ℕ} → Tracing z net tables kept known trace kept' known' trace' n
    → Traced (z.inputs + z.gates) (section_in kept) (value_at (net_in (arrays_of z net tables)) (section_in kept) quiet) trace' n
tracing_traced {z} {net} {tables} {kept} {trace' = trace'} {n = n} u =
    subst (λ (i : ℕ → ℕ → Bool). Traced (z.inputs + z.gates) (section_in kept) (value_at (net_in (arrays_of z net tables)) (section_in kept) i) trace' n) no_pairs u.traced

-- ---- how many samples

pub samples-few : (q : ℤ) → Within 128 q → samples_to q ≤ most_count + 128
samples-few q w = (within_minus (pos most_count) q (within-pos most_count most_count (omega arith)) w).high

pub most-none : (a : Kept) → MostSamples a 0 most_count
most-none a = record { inputs = omega arith; each = λ g h. absurd (omega arith); few = omega arith }

pub most-more : {a : Kept} {g r : ℕ} (m : ℕ) → MostSamples a g r → samples_to (lag_in (entries_in a) (a.inputs + g)) ≤ m → r ≤ m → m ≤ most_count + 128 → MostSamples a (g + 1) m
most-more {a} {g} {r} m q h l f = record { inputs = omega (arith, q.inputs); each = each; few = f }
  where
    each : (i : ℕ) → i < g + 1 → samples_to (lag_in (entries_in a) (a.inputs + i)) ≤ m
    each i k = go (ℕ_discrete i g)
      where
        go : Dec (i ≡ g) → samples_to (lag_in (entries_in a) (a.inputs + i)) ≤ m
        go (yes e) = subst (λ (x : ℕ). samples_to (lag_in (entries_in a) (a.inputs + x)) ≤ m) (sym e) h
        go (no n) = omega (arith, q.each i (omega arith))

-- enough for every node
pub most-all : {a : Kept} {r : ℕ} → MostSamples a a.gates r → (u : ℕ) → samples_to (lag_in (entries_in a) u) ≤ r
most-all {a} {r} q u = go (dec_lt u a.inputs) (dec_lt u (a.inputs + a.gates))
  where
    go : Dec (u < a.inputs) → Dec (u < a.inputs + a.gates) → samples_to (lag_in (entries_in a) u) ≤ r
    go (yes h) d = omega (arith, q.inputs, ap samples_to (lag-input a u h))
    go (no h) (yes l) =
        let e : a.inputs + (u - a.inputs) ≡ u = omega arith in
        subst (λ (x : ℕ). samples_to (lag_in (entries_in a) x) ≤ r) e (q.each (u - a.inputs) (omega arith))
    go (no h) (no l) = omega (arith, q.inputs, ap samples_to (lag-beyond a u (omega arith)))
