-- Definitions: document 02, E4, as one record.
use Rattle.std.specs.Prelude.{◌≡◌, Bool, false, List, ◌⊎◌, ℕ, ◌%◌, ◌^◌, ◌≤◌, ◌<◌, ℤ, length, get_or}
use Rattle.limits.specs.Limits.{loader_area, most_k, scratch_area}
use Rattle.limits.specs.Courses.{long}
use Rattle.sequences.specs.Member.{◌∈◌}
use Rattle.net_model.specs.Net.{Net}
use Rattle.net_model.specs.Checks.{Passed}
use Rattle.net_model.specs.Copies.{copy}
use Rattle.net_model.specs.Runs.{Run}
use Rattle.net_model.specs.Tables.{bit, value_in}
use Rattle.net_model.specs.FullTables.{repeated_table}
use Rattle.cover_theory.specs.Covers.{Cover, lut}
use Rattle.cover_theory.specs.Board.{Carries, Brought}
use Rattle.cover_theory.specs.Key.{Key, Entry, entries, as_cover}
use Rattle.cover_period.specs.Written.{no_entry}
use Rattle.cover_records.specs.CoverBytes.{cover_bytes}
use Rattle.cover_records.specs.LoaderImage.{image_bytes}
use Rattle.cover_records.specs.LoaderOutcome.{LoaderOutcome, loader_outcome, beside}
use Rattle.cover_records.specs.Marking.{TablesRight}
use Rattle.cover_records.specs.Outcomes.{accepted, turned_back, cleared, written}
use Rattle.demands.specs.TurnedBack.{IsNet, OfMap}
use Rattle.demands.specs.Calls.{MapCall, map_done, MapBad, Asked}

-- what a call of map leaves that lends this loader area too
abbrev pub loader_done : MapCall → List ℕ → LoaderOutcome
loader_done c loader = loader_outcome long c.net c.k c.target c.area c.scratch loader

-- the number that the image has for a LUT
abbrev pub loaded_number : Entry → ℕ
loaded_number e = repeated_table (length e.leaves) e.table

-- A chip's LUT with six inputs and this number: at every step at which LUT i's values exist it gives the root's value, where its first inputs carry what the leaves bring and the others anything.
abbrev pub SatisfiedWhole : Net → Cover → (ℕ → ℕ → Bool) → ℕ → ℕ → Type 0
SatisfiedWhole N K value i number =
    (t : ℤ) (b : Bool) (bs : List Bool) → Carries value (lut K i).root (lut K i).lag t b → Brought N K value i t (lut K i).leaves bs
    → (x : ℕ) → x < 64 → ((j : ℕ) → j < length bs → bit x j ≡ get_or bs j false) → b ≡ bit number x

pub record LoaderArea : Type 0 where
  -- "(length 0 counts as none)": then it is map
  pub none : (c : MapCall) (loader : List ℕ) → length loader ≡ 0 → loader_done c loader ≡ beside (map_done c) loader
  -- "Answers: 20, a lent loader area is under 256 bytes, told after 3": where map is turned back by 1 to 3, so it is here
  pub early : (c : MapCall) (loader : List ℕ) (n : ℕ) → (map_done c).answer ≡ turned_back n → n ≤ 3 → loader_done c loader ≡ beside (map_done c) loader
  -- else 20, whatever the net; the scratch as after every outcome but 1 to 3
  pub short : (c : MapCall) (loader : List ℕ) → ((m : ℕ) → m < 4 → ¬ MapBad c m) → 0 < length loader → length loader < loader_area
      → loader_done c loader ≡ record { answer = turned_back 20; area = c.area; scratch = cleared scratch_area c.scratch; loader = loader }
  -- else answer, cover area and scratch are those of map
  pub other : (c : MapCall) (loader : List ℕ) → loader_area ≤ length loader
      → ((loader_done c loader).answer ≡ (map_done c).answer) × ((loader_done c loader).area ≡ (map_done c).area) × ((loader_done c loader).scratch ≡ (map_done c).scratch)
  -- no other number is told
  pub numbers : (c : MapCall) (loader : List ℕ) (n : ℕ) → (loader_done c loader).answer ≡ turned_back n → OfMap n ⊎ (n ≡ 20)
  -- "A refusal leaves the loader area's bytes": and the cover area's
  pub kept : (c : MapCall) (loader : List ℕ) (n : ℕ) → (loader_done c loader).answer ≡ turned_back n → ((loader_done c loader).loader ≡ loader) × ((loader_done c loader).area ≡ c.area)
  -- "an image, eight bytes per LUT in root order, the first byte lowest ..., and those behind the image are always kept": of the LUTs of the record that stands in the cover area
  pub image : (c : MapCall) (loader : List ℕ) (n : ℕ) → (loader_done c loader).answer ≡ accepted n → 0 < length loader → (N : Net) → IsNet c.k c.net N → (φ : ℕ) → Asked c N φ
      → (K : Key N c.k φ) → ((loader_done c loader).area ≡ written (cover_bytes long φ (entries K)) c.area) × ((loader_done c loader).loader ≡ written (image_bytes (entries K)) loader)
  -- "a LUT's repeated table must be the value of its root": bit x is that value where leaf j carries bit j of x
  pub value : {N : Net} {k φ : ℕ} (K : Key N k φ) (e : Entry) → e ∈ entries K → (x : ℕ) → x < 64
      → bit (loaded_number e) x ≡ value_in N e.leaves x (length (K.cone e.root)) (copy e.root 0)
  -- "whatever stands on the unused inputs": the bits beyond the leaves' do not matter
  pub unused : (e : Entry) (x y : ℕ) → x < 64 → y < 64 → ((j : ℕ) → j < length e.leaves → bit x j ≡ bit y j) → bit (loaded_number e) x ≡ bit (loaded_number e) y
  -- and in every run of the net, for each LUT with a right table
  pub runs : {N : Net} {k : ℕ} → Passed N k → (es : List Entry) → TablesRight N k es → {value : ℕ → ℕ → Bool} → Run N value → (i : ℕ) → i < length es
      → SatisfiedWhole N (as_cover N es) value i (loaded_number (get_or es i no_entry))
  -- "Records keep the short form, being the low 2^n bits."
  pub low : {N : Net} {k φ : ℕ} → k ≤ most_k → (K : Key N k φ) (e : Entry) → e ∈ entries K → loaded_number e % 2 ^ (2 ^ length e.leaves) ≡ e.table
