-- Laws of the bench's text for a net read: one for each way out.
use Rattle.std.specs.Prelude.{◌≡◌, refl, List, [], ◌∷◌, ◌⊎◌, ℕ, ◌≤◌, ◌<◌, length}
use Rattle.std.proofs.Common.{ap, ◌∙◌, subst, inl, inr, arith}
use Rattle.net_model.specs.Net.{Net}
use Rattle.net_model.specs.Arrays.{net_in}
use Rattle.net_model.specs.ArrayLaws.{outputs-net_in}
use Rattle.net_model.specs.WiredLaws.{net_in-wired}
use Rattle.net_model.specs.Checks.{Loopless, AllReached, AllLeading}
use Rattle.net_model.specs.PackedNetLaws.{kept-net}
use Rattle.net_bytes.specs.Walk.{drawn}
use Rattle.net_reader.specs.ReadAnswer.{arrays_of}
use Rattle.net_reader.specs.declared.NetSizes.{NetSizes}
use Rattle.net_checks.specs.Graphs.{Says, passed, loop, unreached, unled, GraphTold}
use Rattle.cone_theory.specs.ChecksDecided.{loopless?, reached?, leading?}
use Rattle.cover_records.specs.Listing.{refusal_text}
use Rattle.run_values.specs.RunnableLaws.{checked-runnable}
use Rattle.text_bench.specs.BenchText.{bench_text}
use Rattle.text_bench.specs.BenchAsked.{BenchAsked}
use Rattle.job_bench.specs.BenchProgram.{bench_section, bench_graph, bench_drawn}
use Rattle.job_bench.specs.BenchJob.{Benching}

-- a check failed
says-refused : {z : NetSizes} {net : List ℕ} {N : Net} {r : ℕ} (section pairs : List ℕ) (a : Dec (Loopless N)) (b : Dec (AllReached N)) (c : Dec (AllLeading N))
    → Says z net N r → 0 < r → refusal_text r ≡ bench_graph (drawn N section) pairs a b c
unfolding bench_graph
says-refused section pairs a b c (passed e l m n g) h = absurd (omega arith)
says-refused section pairs (yes x) b c (loop e n) h = absurd (n x)
says-refused section pairs (no x) b c (loop e n) h = ap refusal_text e
says-refused section pairs (no x) b c (unreached e l n) h = absurd (x l)
says-refused section pairs (yes x) (yes y) c (unreached e l n) h = absurd (n y)
says-refused section pairs (yes x) (no y) c (unreached e l n) h = ap refusal_text e
says-refused section pairs (no x) b c (unled e l m n) h = absurd (x l)
says-refused section pairs (yes x) (no y) c (unled e l m n) h = absurd (y m)
says-refused section pairs (yes x) (yes y) (yes w) (unled e l m n) h = absurd (n w)
says-refused section pairs (yes x) (yes y) (no w) (unled e l m n) h = ap refusal_text e

-- all passed
says-passed : {z : NetSizes} {net : List ℕ} {N : Net} (section pairs : List ℕ) (a : Dec (Loopless N)) (b : Dec (AllReached N)) (c : Dec (AllLeading N))
    → Says z net N 0 → bench_section N section pairs ≡ bench_graph (drawn N section) pairs a b c
unfolding bench_graph
says-passed section pairs a b c (loop e n) = absurd (omega arith)
says-passed section pairs a b c (unreached e l n) = absurd (omega arith)
says-passed section pairs a b c (unled e l m n) = absurd (omega arith)
says-passed section pairs (no x) b c (passed e l m n g) = absurd (x l)
says-passed section pairs (yes x) (no y) c (passed e l m n g) = absurd (y m)
says-passed section pairs (yes x) (yes y) (no w) (passed e l m n g) = absurd (w n)
says-passed section pairs (yes x) (yes y) (yes w) (passed e l m n g) = refl

pub section-none : (N : Net) (section pairs : List ℕ) → length section ≡ 0 → refusal_text 21 ≡ bench_section N section pairs
section-none N [] pairs h = refl
section-none N (b ∷ bytes) pairs h = absurd (omega arith)

pub section-some : (N : Net) (section pairs : List ℕ) → (length section ≡ 0 → ⊥) → bench_text N section pairs ≡ bench_section N section pairs
section-some N [] pairs h = absurd (h refl)
section-some N (b ∷ bytes) pairs h = refl

module _ {z : NetSizes} {net net' tables section out : List ℕ} {r : ℕ} (j : Benching z net tables section out) (t : GraphTold z net net' r) (pairs : List ℕ) where
  says : Says z net' (net_in (arrays_of z net tables)) r
  says = t.says (net_in (arrays_of z net tables)) (record { wired = net_in-wired (arrays_of z net tables); ended = outputs-net_in (arrays_of z net tables) })

  zeroed : r ≡ 0 → Says z net' (net_in (arrays_of z net tables)) 0
  zeroed e = subst (Says z net' (net_in (arrays_of z net tables))) e says

  pub text-refused : 0 < r → refusal_text r ≡ bench_drawn (drawn (net_in (arrays_of z net tables)) section) pairs
  unfolding bench_drawn
  text-refused h =
      says-refused section pairs (loopless? (net_in (arrays_of z net tables))) (reached? (net_in (arrays_of z net tables))) (leading? (net_in (arrays_of z net tables))) says h

  passes : r ≡ 0 → bench_section (net_in (arrays_of z net tables)) section pairs ≡ bench_drawn (drawn (net_in (arrays_of z net tables)) section) pairs
  unfolding bench_drawn
  passes e =
      says-passed section pairs (loopless? (net_in (arrays_of z net tables))) (reached? (net_in (arrays_of z net tables))) (leading? (net_in (arrays_of z net tables))) (zeroed e)

  pub text-none : r ≡ 0 → length section ≡ 0 → refusal_text 21 ≡ bench_drawn (drawn (net_in (arrays_of z net tables)) section) pairs
  text-none e h = section-none (net_in (arrays_of z net tables)) section pairs h ∙ passes e

  pub text-run : r ≡ 0 → (length section ≡ 0 → ⊥) → bench_text (net_in (arrays_of z net' tables)) section pairs ≡ bench_drawn (drawn (net_in (arrays_of z net tables)) section) pairs
  text-run e h =
      ap (λ (N : Net). bench_text N section pairs) (kept-net t.kept j.facts.pins-high z.outputs tables)
      ∙ section-some (net_in (arrays_of z net tables)) section pairs h ∙ passes e

  pub run-asks : {known : List ℕ} → r ≡ 0 → (length section ≡ 0 → ⊥) → length known ≡ z.gates → BenchAsked z net' tables section known out
  run-asks {known} e h l = record {
    step = record { runnable = checked-runnable j.facts j.packed t.kept (zeroed e); room = by j.bytes; size = omega (arith, l) };
    outputs = j.facts.outputs-high;
    room = j.room;
  }
    where
      by : {n : ℕ} → (length section ≡ 0) ⊎ (n ≤ length section) → n ≤ length section
      by (inl x) = absurd (h x)
      by (inr x) = x
