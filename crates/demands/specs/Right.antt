-- Definitions: a right record of a cover, what map wrote, and the record of a key.
use Rattle.std.specs.Prelude.{◌≡◌, List, [], ◌++◌, ℕ, ◌≤◌, length, drop}
use Rattle.limits.specs.Courses.{long}
use Rattle.net_model.specs.Net.{Net}
use Rattle.net_model.specs.Checks.{Passed}
use Rattle.label_theory.specs.Labels.{Mode}
use Rattle.cover_theory.specs.Covers.{IsCover, Meets}
use Rattle.cover_theory.specs.Key.{KeyIn, Entry, entries, as_cover}
use Rattle.net_bytes.specs.Reading.{got}
use Rattle.cover_records.specs.CoverBytes.{Record, cover_reader}
use Rattle.cover_records.specs.Marking.{TablesRight}

-- A record of a cover of N for k that meets its stated period, with right tables.
pub record RightRecord (N : Net) (k : ℕ) (r : Record) : Type 0 where
  pub tables : TablesRight N k r.entries
  pub is_cover : IsCover N k (as_cover N r.entries)
  pub meets : Meets N (as_cover N r.entries) r.period

-- what map wrote: a record in front of the area that reads back as a cover of N for k which meets φ
pub record Wrote (N : Net) (k φ : ℕ) (area area' : List ℕ) (length' : ℕ) : Type 0 where
  pub bytes : List ℕ
  pub size : length' ≡ length bytes
  pub front : area' ≡ bytes ++ drop (length bytes) area
  pub period : ℕ
  pub luts : List Entry
  pub reads : cover_reader long N k bytes ≡ got (record { period = period; entries = luts }) []
  pub stated : period ≡ φ
  pub is_cover : IsCover N k (as_cover N luts)
  pub meets : Meets N (as_cover N luts) φ

-- a record that is that of a key of its period, in a mode
pub record KeyRead (M : Mode) (N : Net) (k : ℕ) (r : Record) : Type 0 where
  pub passed : Passed N k
  pub positive : 1 ≤ r.period
  pub key : KeyIn M N k r.period
  pub same : entries key ≡ r.entries
