-- Definitions: what mark asks of its parts, and what they tell: the answer that the definition has.
use Rattle.std.specs.Prelude.{◌≡◌, List, [], ℕ, ◌≤◌, ℤ, length, drop}
use Rattle.net_model.specs.Net.{Net}
use Rattle.net_model.specs.Arrays.{net_in}
use Rattle.net_model.specs.Checks.{Passed}
use Rattle.net_model.specs.PackedNet.{sources_at, counts_at, outs_at, delays_at, packed_room}
use Rattle.limits.specs.Limits.{most_gates, most_period, most_luts, scratch_area}
use Rattle.limits.specs.declared.Rules.{Rules}
use Rattle.net_bytes.specs.Reading.{got}
use Rattle.net_bytes.specs.Walk.{net_reader}
use Rattle.cover_theory.specs.Covers.{LeastPeriod}
use Rattle.cover_records.specs.CoverBytes.{cover_reader}
use Rattle.cover_records.specs.Held.{Held, WellHeld}
use Rattle.cover_records.specs.Rows.{sizes_in, nodes_in, backs_in, row_room}
use Rattle.cover_records.specs.Outcomes.{Answer, check_net, mark_checked}
use Rattle.net_reader.specs.ReadAnswer.{arrays_of}
use Rattle.net_reader.specs.Rooms.{NetRoom}
use Rattle.net_reader.specs.declared.NetSizes.{NetSizes}
use Rattle.cover_cuts.specs.Cuts.{Cutting, CutsTold}
use Rattle.cover_links.specs.Links.{Linking, LinksTold}
use Rattle.job_settle.specs.Settling.{Settling}
use Rattle.cover_reader.specs.Reads.{held_in, Spacious, record_of}
use Rattle.cover_reader.specs.declared.Candidate.{Candidate}
use Rattle.job_judge.specs.MarkAnswers.{InRange}

-- a net read, with room for the engine's table
pub record Marking (k : ℕ) (z : NetSizes) (net ts work : List ℕ) : Type 0 where
  pub settling : Settling k 0 z net ts
  pub space : scratch_area ≤ length work

-- a net that passes, and its least period
pub record Judging (k : ℕ) (z : NetSizes) (net ts : List ℕ) (φ : ℕ) : Type 0 where
  pub settling : Settling k 0 z net ts
  pub passed : Passed (net_in (arrays_of z net ts)) k
  pub least : LeastPeriod (net_in (arrays_of z net ts)) k φ

-- a record that keeps the layout, for the net read, with its LUTs in slices
pub record HeldFor (k : ℕ) (z : NetSizes) (net ts : List ℕ) (c : Candidate) (rows : List ℕ) (lags : List ℤ) (luts : List ℕ) : Type 0 where
  pub settling : Settling k 0 z net ts
  pub well : WellHeld z.inputs z.gates k c.luts (held_in c.luts rows lags luts)
  pub space : Spacious c.luts rows lags luts
  pub low : 1 ≤ c.period
  pub high : c.period ≤ most_period
  pub few : c.luts ≤ most_luts

-- what 14 and 15 ask of n LUTs, and what they tell
pub record CutsAsked (k : ℕ) (z : NetSizes) (net ts : List ℕ) (n : ℕ) (rows luts : List ℕ) : Type 0 where
  pub cutting : Cutting z.inputs z.gates net (drop (sources_at z.gates) net) (drop (counts_at z.gates) net) ts rows (sizes_in n rows) (nodes_in n rows) (backs_in n rows) k n
  pub room : NetRoom z net ts
  pub at_rows : row_room n ≤ length rows
  pub tables : n ≤ length luts
  pub few : n ≤ most_luts

abbrev pub CutsToldOf : NetSizes → List ℕ → List ℕ → ℕ → ℕ → List ℕ → List ℕ → ℕ → Type 0
CutsToldOf z net ts k n rows luts r =
    CutsTold z.inputs z.gates net (drop (sources_at z.gates) net) (drop (counts_at z.gates) net) ts rows (sizes_in n rows) (nodes_in n rows) (backs_in n rows) luts k n r

-- what 16 to 18 ask of n LUTs and a period, and what they tell
pub record LinksAsked (z : NetSizes) (net : List ℕ) (n : ℕ) (rows : List ℕ) (lags : List ℤ) (period : ℕ) : Type 0 where
  pub linking : Linking z.inputs z.gates (drop (outs_at z.inputs z.gates) net) (drop (delays_at z.inputs z.gates z.outputs) net) z.outputs
      rows (sizes_in n rows) (nodes_in n rows) (backs_in n rows) lags n period
  pub packed : packed_room z.inputs z.gates z.outputs ≤ length net
  pub gates : z.gates ≤ most_gates
  pub at_rows : row_room n ≤ length rows
  pub few : n ≤ most_luts

abbrev pub LinksToldOf : NetSizes → List ℕ → ℕ → List ℕ → List ℤ → ℕ → ℕ → Type 0
LinksToldOf z net n rows lags period r =
    LinksTold z.inputs z.gates (drop (outs_at z.inputs z.gates) net) (drop (delays_at z.inputs z.gates z.outputs) net) z.outputs
    rows (sizes_in n rows) (nodes_in n rows) (backs_in n rows) lags n period r

-- the answer of mark under rules R after checks 1 and 3
pub record MarksTo (R : Rules) (k : ℕ) (net bytes : List ℕ) (answer : Answer) : Type 0 where
  pub small : InRange answer
  pub outcome : mark_checked R k (check_net R k net) bytes ≡ answer

-- the same, for all bytes that hold the net read
pub record MarksNet (R : Rules) (k : ℕ) (N : Net) (bytes : List ℕ) (answer : Answer) : Type 0 where
  pub marks : (net : List ℕ) → net_reader R k net ≡ got N [] → MarksTo R k net bytes answer

-- the same, for all rules and all bytes that hold the record read under them
pub record MarksRead (k : ℕ) (N : Net) (c : Candidate) (a : Held) (answer : Answer) : Type 0 where
  pub marks : (R : Rules) (bytes : List ℕ) → cover_reader R N k bytes ≡ got (record_of c a) [] → MarksNet R k N bytes answer
