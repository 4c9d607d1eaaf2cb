-- Definitions: a candidate's record as read: the LUTs that it holds, and what the walk promises.
use Rattle.std.specs.Prelude.{◌≡◌, List, [], ℕ, ◌+◌, ◌≤◌, ℤ, length, Result, MatchResult}
use Rattle.limits.specs.declared.Rules.{Rules}
use Rattle.refusals.specs.declared.Refusal.{Refusal}
use Rattle.refusals.specs.Refusals.{number_of}
use Rattle.net_model.specs.Net.{Net, size}
use Rattle.net_bytes.specs.Reading.{got, refused}
use Rattle.cover_records.specs.CoverBytes.{Record, cover_reader}
use Rattle.cover_records.specs.Rows.{sizes_in, nodes_in, backs_in, row_room}
use Rattle.cover_records.specs.Held.{Held, held, luts_in, WellHeld}
use Rattle.cover_reader.specs.declared.Candidate.{Candidate}

-- the arrays of n LUTs, parts of one slice
abbrev pub held_in : ℕ → List ℕ → List ℤ → List ℕ → Held
held_in n rows lags tables = held rows (sizes_in n rows) (nodes_in n rows) (backs_in n rows) lags tables

-- room for n LUTs
pub record Spacious (n : ℕ) (rows : List ℕ) (lags : List ℤ) (tables : List ℕ) : Type 0 where
  pub at_rows : row_room n ≤ length rows
  pub at_lags : n ≤ length lags
  pub at_tables : n ≤ length tables

-- the record that they hold
abbrev pub record_of : Candidate → Held → Record
record_of c a = record { period = c.period; entries = luts_in a c.luts }

-- The bytes are read as check 13 reads them, for each net with I inputs and G gates; and what the arrays keep.
pub record CoverKept (R : Rules) (bytes : List ℕ) (I G k : ℕ) (c : Candidate) (a : Held) : Type 0 where
  pub read : (N : Net) → N.inputs ≡ I → size N ≡ I + G → cover_reader R N k bytes ≡ got (record_of c a) []
  pub well : WellHeld I G k c.luts a
  pub low_period : 1 ≤ c.period
  pub high_period : c.period ≤ R.period
  pub few : c.luts ≤ R.luts

-- check 13 refuses the bytes for each such net, and 13 is told
pub record CoverBroken (R : Rules) (bytes : List ℕ) (I G k : ℕ) (e : Refusal) : Type 0 where
  pub told : number_of e ≡ 13
  pub broken : (N : Net) → N.inputs ≡ I → size N ≡ I + G → cover_reader R N k bytes ≡ refused 13

-- either, where the arrays are known for each number of LUTs
abbrev pub CoverRead : Rules → List ℕ → ℕ → ℕ → ℕ → Result Candidate Refusal → (ℕ → Held) → Type 0
CoverRead R bytes I G k r a = MatchResult r (λ c. CoverKept R bytes I G k c (a c.luts)) (CoverBroken R bytes I G k)
