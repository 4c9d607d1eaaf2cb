-- Definitions: document 02, E5, as one record.
use Rattle.std.specs.Prelude.{◌≡◌, Bool, true, false, List, [], ◌∷◌, ◌++◌, ◌⊎◌, ℕ, ◌%◌, ◌≤◌, ◌<◌, length}
use Rattle.limits.specs.Limits.{least_k, most_k, most_net_bytes, bench_input}
use Rattle.limits.specs.Courses.{long}
use Rattle.net_model.specs.Net.{Net, IsNode}
use Rattle.net_model.specs.Checks.{Sound, Loopless, AllReached, AllLeading}
use Rattle.net_model.specs.Runs.{Run}
use Rattle.net_bytes.specs.Reading.{between, got, refused}
use Rattle.net_bytes.specs.Walk.{Drawn, drawn_reader, net_reader}
use Rattle.net_bytes.specs.SectionLaws.{plain_reader}
use Rattle.net_bytes.specs.Short.{Bytes}
use Rattle.run_theory.specs.Bench.{Bench, value_at}
use Rattle.cover_records.specs.Listing.{refusal_text}
use Rattle.text_bench.specs.BenchText.{bench_text}
use Rattle.job_bench.specs.BenchProgram.{bench_of, bench_program}
use Rattle.demands.specs.TurnedBack.{IsNet}
use Rattle.demands.specs.Calls.{MapCall, map_done, MarkCall, mark_done}
use Rattle.demands.specs.LoaderArea.{loader_done}

-- the record is that of a net and its section; the section is empty where it has none
abbrev pub IsDrawn : ℕ → List ℕ → Drawn → Type 0
IsDrawn k bytes d = (rest : List ℕ) × (drawn_reader long k bytes ≡ got d rest)

-- `plain` is the record with bit 7 of its first byte and its section taken off
pub record TakenOff (bytes section plain : List ℕ) : Type 0 where
  pub first : ℕ
  pub body : List ℕ
  pub whole : bytes ≡ first ∷ (body ++ section)
  pub off : plain ≡ first % 128 ∷ body

-- a net that passes 9 to 11
pub record Runs (N : Net) : Type 0 where
  pub loopless : Loopless N
  pub reached : AllReached N
  pub leading : AllLeading N

-- the first of 9, 10 and 11 that it fails
pub data Stops (N : Net) : ℕ → Type 0 where
  loop : ¬ Loopless N → Stops N 9
  unreached : Loopless N → ¬ AllReached N → Stops N 10
  unled : Loopless N → AllReached N → ¬ AllLeading N → Stops N 11

pub record BenchRun : Type 0 where
  -- map and mark read the net of the record, and look at no section
  pub net : (k : ℕ) (bytes : List ℕ) (d : Drawn) → IsDrawn k bytes d → IsNet k bytes d.net
  -- no net has a record of more than 803 bytes
  pub most : (k : ℕ) (bytes : List ℕ) → Bytes bytes → (d : Drawn) → IsDrawn k bytes d → length bytes ≤ most_net_bytes
  -- "Nets without the section map and mark as always": without bit 7 the walk is document 01's
  pub plain : (k b : ℕ) (r : List ℕ) → b < 128 → net_reader long k (b ∷ r) ≡ plain_reader long k (b ∷ r)
  -- "and the section changes no cover": taken off, with its bit, it leaves answer, areas and scratch as they are
  pub map_same : (c : MapCall) (d : Drawn) → IsDrawn c.k c.net d
      → (plain : List ℕ) × TakenOff c.net d.section plain × (map_done c ≡ map_done (record { net = plain; k = c.k; target = c.target; area = c.area; scratch = c.scratch }))
  pub loader-same : (c : MapCall) (loader : List ℕ) (d : Drawn) → IsDrawn c.k c.net d
      → (plain : List ℕ) × TakenOff c.net d.section plain
      × (loader_done c loader ≡ loader_done (record { net = plain; k = c.k; target = c.target; area = c.area; scratch = c.scratch }) loader)
  pub mark-same : (c : MarkCall) (d : Drawn) → IsDrawn c.k c.net d
      → (plain : List ℕ) × TakenOff c.net d.section plain × (mark_done c ≡ mark_done (record { net = plain; k = c.k; bytes = c.bytes; scratch = c.scratch }))
  -- "A gate's value at a step comes from its pins, and a pin's value from the gate or input behind it, none or some steps earlier. The section need not obey the tables":
  -- from every section and with all inputs there is such a run, by check 9, and only one
  pub run : {N : Net} → Sound N → Loopless N → (section inputs : ℕ → ℕ → Bool) → Bench N section inputs (value_at N section inputs)
  pub only : {N : Net} → Sound N → Loopless N → (section inputs : ℕ → ℕ → Bool) {value : ℕ → ℕ → Bool} → Bench N section inputs value
      → (v t : ℕ) → IsNode N v → value v t ≡ value_at N section inputs v t
  -- "for demand 2 a run's values exist from step 0 on"
  pub demand_2 : {N : Net} {section inputs value : ℕ → ℕ → Bool} → Bench N section inputs value → Run N value
  -- "It prints a line of 0s and 1s per step, outputs in order, for 65,535 steps at most": of a net that passes and has a section
  pub text : (k : ℕ) → between least_k most_k k ≡ true → (bytes : List ℕ) (d : Drawn) → IsDrawn k bytes d → Runs d.net → 0 < length d.section
      → (pairs : List ℕ) → bench_of k bytes pairs ≡ bench_text d.net d.section pairs
  -- "or `refused N`": k first, then the walk's numbers, then the first of 9 to 11 that fails
  pub unknown : (k : ℕ) → between least_k most_k k ≡ false → (bytes pairs : List ℕ) → bench_of k bytes pairs ≡ refusal_text 1
  pub walk : (k : ℕ) → between least_k most_k k ≡ true → (bytes : List ℕ) (n : ℕ) → net_reader long k bytes ≡ refused n → (pairs : List ℕ) → bench_of k bytes pairs ≡ refusal_text n
  pub graph : (k : ℕ) → between least_k most_k k ≡ true → (bytes : List ℕ) (d : Drawn) → IsDrawn k bytes d → ¬ Runs d.net
      → (n : ℕ) × Stops d.net n × ((pairs : List ℕ) → bench_of k bytes pairs ≡ refusal_text n)
  -- "Answers: 21, a run is wanted of a net without the section, told after 11."
  pub none : (k : ℕ) → between least_k most_k k ≡ true → (bytes : List ℕ) (d : Drawn) → IsDrawn k bytes d → Runs d.net → length d.section ≡ 0
      → (pairs : List ℕ) → bench_of k bytes pairs ≡ refusal_text 21
  -- "later bytes unread": those behind the first 196,608 of the program's input change nothing
  pub unread : (s t : List ℕ) → Bytes s → bench_input ≤ length s → bench_program s ≡ bench_program (s ++ t)
