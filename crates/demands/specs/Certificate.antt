-- **The certificate**: one field for each sentence of the three demands and of the requests that landed, in their words, over every call there can be; `certificate` is its
-- inhabitant.
-- The contracts of `job_map: map` and `job_mark: mark` equate what the programs do, for all arguments, with `map_outcome` and `mark_outcome`; so the fields hold of the programs.
use Rattle.std.specs.Prelude.{◌≡◌, Bool, List, ◌↔◌, ℕ, ◌+◌, ◌≤◌, ◌<◌, length, get_or, take}
use Rattle.limits.specs.Limits.{cover_area, scratch_area}
use Rattle.limits.specs.Courses.{long}
use Rattle.net_model.specs.Net.{Net}
use Rattle.net_model.specs.Runs.{Run}
use Rattle.net_bytes.specs.Short.{Bytes}
use Rattle.cover_theory.specs.Covers.{Met, LeastPeriod}
use Rattle.cover_theory.specs.Board.{Satisfied}
use Rattle.cover_theory.specs.Key.{Key, entries, as_cover}
use Rattle.cover_period.specs.Written.{no_entry}
use Rattle.cover_records.specs.CoverBytes.{Record, cover_bytes}
use Rattle.cover_records.specs.Outcomes.{accepted, turned_back, cleared, written}
use Rattle.lutclass.specs.ClassTable.{ClassTable, shipped}
use Rattle.lutclass.proofs.ClassTableLaws.{class_table}
use Rattle.text_classes.specs.ClassText.{number_lines, class_text}
use Rattle.text_classes.specs.ClassTextLaws.{prints_shipped}
use Rattle.captures.specs.AlignTold.{AlignTold}
use Rattle.captures.proofs.CaptureLaws.{align_told}
use Rattle.job_find.specs.RootLookup.{found, find_root}
use Rattle.job_find.specs.RootLookup as find
use Rattle.job_find.specs.LookupTold.{RootTold, Unread}
use Rattle.job_find.specs.Unread.{unread}
use Rattle.job_find.specs.LookupRange.{only_19, find-range}
use Rattle.cone_leaves.specs.Lookup.{seek_of, LeafLookup}
use Rattle.cone_leaves.proofs.LookupLaws.{leaf-lookup}
use Rattle.demands.specs.TurnedBack.{IsNet, IsRecord, First, OfMap, OfMark}
use Rattle.demands.specs.Calls.{MapCall, MarkCall, map_done, mark_done, MapBad, MarkBad, MapNet, MarkNet, Asked}
use Rattle.demands.specs.Right.{RightRecord, Wrote}
use Rattle.demands.specs.ShortCourse.{ShortCourse}
use Rattle.demands.specs.BenchRun.{BenchRun}
use Rattle.demands.specs.ForwardMap.{ForwardMap}
use Rattle.demands.specs.ChangeOver.{ChangeOver}
use Rattle.demands.specs.LeastLags.{LeastLags}
use Rattle.demands.specs.LoaderArea.{LoaderArea}
use Rattle.demands.specs.SharedCount.{SharedCount}

pub record Certificate : Type 0 where
  -- ---- Demand 1. "Every call ends": the prover shows it of every function. "Nothing is assumed of the caller": the fields speak of every call.

  -- "an accepted one leaves cover area and scratch exactly as document 01 says": the record in front of the area, in at most 962 bytes, those behind it kept;
  -- the first 65,536 bytes of the scratch 0, the rest kept
  pub map-leaves : (c : MapCall) (n : ℕ) → (map_done c).answer ≡ accepted n
      → (n ≤ cover_area) × ((N : Net) × (φ : ℕ) × MapNet c N × Asked c N φ × Wrote N c.k φ c.area (map_done c).area n) × ((map_done c).scratch ≡ cleared scratch_area c.scratch)
  pub mark-leaves : (c : MarkCall) (n : ℕ) → (mark_done c).answer ≡ accepted n → (mark_done c).scratch ≡ cleared scratch_area c.scratch
  -- "any other ends with the one number that 01's order picks": that check fails, and none before it; a call is accepted exactly if none fails
  pub map-number : (c : MapCall) (n : ℕ) → ((map_done c).answer ≡ turned_back n) ↔ First (MapBad c) n
  pub mark-number : (c : MarkCall) (n : ℕ) → ((mark_done c).answer ≡ turned_back n) ↔ First (MarkBad c) n
  pub map-accepts : (c : MapCall) → ((n : ℕ) × ((map_done c).answer ≡ accepted n)) ↔ ((m : ℕ) → ¬ MapBad c m)
  pub mark-accepts : (c : MarkCall) → ((n : ℕ) × ((mark_done c).answer ≡ accepted n)) ↔ ((m : ℕ) → ¬ MarkBad c m)
  -- "Map checks 1 to 12, mark checks 1, 3 to 11 and 13 to 18": no other number
  pub map-numbers : (c : MapCall) (n : ℕ) → (map_done c).answer ≡ turned_back n → OfMap n
  pub mark-numbers : (c : MarkCall) (n : ℕ) → (mark_done c).answer ≡ turned_back n → OfMark n
  -- "the cover area untouched"
  pub map-untouched : (c : MapCall) (n : ℕ) → (map_done c).answer ≡ turned_back n → (map_done c).area ≡ c.area
  -- "After 1 to 3 the scratch keeps its bytes too; after every other outcome its first 65,536 bytes are 0, the rest kept."
  pub map-kept : (c : MapCall) (n : ℕ) → (map_done c).answer ≡ turned_back n → n ≤ 3 → (map_done c).scratch ≡ c.scratch
  pub map-cleared : (c : MapCall) (n : ℕ) → (map_done c).answer ≡ turned_back n → 3 < n → (map_done c).scratch ≡ cleared scratch_area c.scratch
  pub mark-kept : (c : MarkCall) (n : ℕ) → (mark_done c).answer ≡ turned_back n → n ≤ 3 → (mark_done c).scratch ≡ c.scratch
  pub mark-cleared : (c : MarkCall) (n : ℕ) → (mark_done c).answer ≡ turned_back n → 3 < n → (mark_done c).scratch ≡ cleared scratch_area c.scratch
  -- ---- Demand 2. "Labels, cuts, LUT tables and lags are those of Pan and Liu's definition (DAC 1996), ties as in 01": the record written is that of every key
  pub keys : (c : MapCall) (n : ℕ) → (map_done c).answer ≡ accepted n → (N : Net) → IsNet c.k c.net N → (φ : ℕ) → Asked c N φ
      → Key N c.k φ × ((K : Key N c.k φ) → (n ≡ length (cover_bytes long φ (entries K))) × ((map_done c).area ≡ written (cover_bytes long φ (entries K)) c.area))
  -- "Mark accepts a record exactly if it is a cover of that net for that k whose lags meet its stated period", for a net that passes 1 to 11; the excess is that period less the least
  pub marks : (c : MarkCall) (N : Net) → MarkNet c N → (x : ℕ)
      → ((mark_done c).answer ≡ accepted x) ↔ ((r : Record) × IsRecord N c.k c.bytes r × RightRecord N c.k r × ((l : ℕ) × LeastPeriod N c.k l × (r.period ≡ x + l)))
  -- "Every run of the net, shifted by the lags, satisfies each LUT of an accepted cover wherever its values exist."
  pub runs : (c : MarkCall) (x : ℕ) → (mark_done c).answer ≡ accepted x → (N : Net) → IsNet c.k c.net N → (r : Record) → IsRecord N c.k c.bytes r
      → {value : ℕ → ℕ → Bool} → Run N value → (i : ℕ) → i < length r.entries → Satisfied N (as_cover N r.entries) value i (get_or r.entries i no_entry).table
  -- what map writes, mark accepts, with any scratch that is large enough
  pub own : (c : MapCall) (n : ℕ) → (map_done c).answer ≡ accepted n → (scratch : List ℕ) → scratch_area ≤ length scratch
      → (x : ℕ) × ((mark_done (record { net = c.net; k = c.k; bytes = take n (map_done c).area; scratch = scratch })).answer ≡ accepted x) × (c.target ≡ 0 → x ≡ 0)
  -- ---- Demand 3. "For every net, k and target, map refuses as unreachable exactly when no finite cover meets the target;"
  pub unreachable : (c : MapCall) → ((map_done c).answer ≡ turned_back 12) ↔ ((N : Net) × MapNet c N × (¬ (c.target ≡ 0)) × (¬ Met N c.k c.target))
  -- "else the cover written meets it."
  pub meets : (c : MapCall) (N : Net) → MapNet c N → ¬ (c.target ≡ 0) → Met N c.k c.target
      → (n : ℕ) × ((map_done c).answer ≡ accepted n) × Wrote N c.k c.target c.area (map_done c).area n
  -- "With target 0 the period written is met and no cover meets a smaller one."
  pub least : (c : MapCall) (N : Net) → MapNet c N → c.target ≡ 0
      → (φ n : ℕ) × ((map_done c).answer ≡ accepted n) × Wrote N c.k φ c.area (map_done c).area n × LeastPeriod N c.k φ
  -- ---- Document 02, E12. "Every entry must be reachable and none smaller, and two functions share an entry exactly when one can be turned into the other. There are 14
  -- different entries. The shipped table equals the generator's output."
  pub classes : ClassTable shipped
  pub generator : class_text ≡ number_lines shipped
  -- ---- Document 02, E1. "For each record that the marker accepts, the yes or no must equal that from the whole record, and the yes comes with its root's byte offset."
  -- The contract of `job_find: find_root` equates what it gives, for all records and gates, with `find_root`; RootTold has the sentences.
  pub roots : (c : MarkCall) (x : ℕ) → (mark_done c).answer ≡ accepted x → Bytes c.bytes → (N : Net) → IsNet c.k c.net N
      → (r : Record) → IsRecord N c.k c.bytes r → (g : ℕ) → RootTold long g c.bytes r
  -- "Roots rise, so reading may stop at the first root not below g": of any bytes, those left unread never change the answer
  pub unread-roots : (g : ℕ) → Unread long g
  -- "Answers: 19, the bytes end or break that layout before that stop, or the last LUT's end if none." No other number; a place is at least 2.
  pub root-number : (g : ℕ) (bytes : List ℕ) (n : ℕ) → find_root g bytes ≡ find.turned_back n → n ≡ 19
  pub root-place : (g : ℕ) (bytes : List ℕ) (o : ℕ) → find_root g bytes ≡ found o → (2 ≤ o) × (o ≤ cover_area)
  -- ---- Document 02, E10: two captures of one unit; AlignTold has its sentences
  pub captures : (first second : List ℕ) → AlignTold first second
  -- ---- Document 02, E2: the register count, fields in `SharedCount`
  pub shared : SharedCount
  -- ---- Document 02, E3. "that test is to end at the first leaf beyond the copy sought. Yes and no are the same for every copy and rising leaf list, and what stands
  -- behind that first leaf, rising or not, never changes them." The contract of `cone_leaves: seek` equates what it gives, for all leaves and copies, with `seek_of`.
  pub lookup : LeafLookup seek_of
  -- ---- Document 02, E8: the short course, fields in `ShortCourse`. The contracts of `job_map: short_map` and `job_mark: short_mark` equate what they do with the outcomes of its rules.
  pub course : ShortCourse
  -- ---- Document 02, E4: tables for the loader, fields in `LoaderArea`. The contract of `job_map: map_loader` equates what it does, for all arguments, with `loader_outcome`.
  pub loader : LoaderArea
  -- ---- Document 02, E5: starting values and a bench run, fields in `BenchRun`. The contract of `job_bench: bench` equates what it prints, for all bytes read, with `bench_program`.
  pub bench : BenchRun
  -- ---- Document 02, E6: forward covers, fields in `ForwardMap`, over the outcome `forward_outcome` of every call of that mode.
  pub forward : ForwardMap
  -- ---- Document 02, E7: change-over on a running unit, fields in `ChangeOver`, over the outcome `change_outcome` of every call.
  pub change : ChangeOver
  -- ---- Document 02, E9: the lags are the least, fields in `LeastLags`, over every accepted call of map and of forward map.
  pub lags : LeastLags
