-- Definitions: what map asks of its parts, and what they tell: the outcome that the definition has.
use Rattle.std.specs.Prelude.{◌≡◌, Bool, true, false, cond, List, [], ℕ, ◌+◌, ◌≤◌, length}
use Rattle.net_model.specs.Net.{Net}
use Rattle.limits.specs.Limits.{contents_area, cover_area, loader_area, most_nodes, scratch_area}
use Rattle.limits.specs.Courses.{Offered}
use Rattle.limits.specs.declared.Rules.{Rules}
use Rattle.net_bytes.specs.Reading.{got}
use Rattle.net_bytes.specs.Walk.{net_reader}
use Rattle.run_theory.specs.BenchBytes.{kept_after}
use Rattle.label_theory.specs.Labels.{Mode}
use Rattle.cover_theory.specs.Key.{Entry, as_cover}
use Rattle.board_theory.specs.Contents.{contents_of}
use Rattle.cover_records.specs.Outcomes.{Answer, Checked, check_net, map_checked_in, cleared, written}
use Rattle.cover_records.specs.LoaderImage.{is_lent}
use Rattle.cover_records.specs.LoaderOutcome.{loader_checked_in}
use Rattle.cover_records.specs.ForwardOutcome.{section_of, lacking, sectioned, contents_checked}
use Rattle.job_sizes.specs.Sizes.{LentFits}
use Rattle.net_reader.specs.declared.NetSizes.{NetSizes}
use Rattle.label_aim.specs.Aims.{mode_of}
use Rattle.job_settle.specs.Settling.{Settling}
use Rattle.job_settle.specs.declared.Call.{Call}
use Rattle.job_record.specs.MapAnswers.{InRange}

-- A net read, with room for its cover, for the image where a loader area is lent, and for the contents where a contents area is lent: then covers are forward, and the section has a byte a node
-- unless it is lacking. No section has more.
pub record Mapping (c : Call) (z : NetSizes) (net ts section area work loader contents : List ℕ) : Type 0 where
  pub settling : Settling c.k c.target z net ts
  pub room : cover_area ≤ length area
  pub space : scratch_area ≤ length work
  pub load : LentFits loader_area (length loader)
  pub fill : LentFits contents_area (length contents)
  pub ahead : ¬ (length contents ≡ 0) → c.forward ≡ true
  pub whole : ¬ (length contents ≡ 0) → c.lacks ≡ false → z.inputs + z.gates ≤ length section
  pub short : length section ≤ most_nodes

-- a contents area with the contents of a cover's registers, where it is lent
abbrev pub filled : Net → List Entry → (ℕ → ℕ → Bool) → List ℕ → List ℕ
filled N es kept contents = cond (is_lent contents) (written (contents_of N (as_cover N es) kept) contents) contents

-- checks 4 to 11, and 21 where a contents area is lent
abbrev pub checks_of : Rules → (k : ℕ) → List ℕ → List ℕ → Checked k
checks_of R k net contents = sectioned (lacking contents (section_of R k net)) (check_net R k net)

-- the outcome of map in a mode under rules R after checks 1 to 3 and 20
pub record MapsTo (M : Mode) (R : Rules) (k target : ℕ) (net pairs area area' loader loader' contents contents' : List ℕ) (answer : Answer) : Type 0 where
  pub small : InRange answer
  pub outcome : (s : List ℕ) → map_checked_in M R k target (checks_of R k net contents) area s ≡ record { answer = answer; area = area'; scratch = cleared R.scratch s }
  pub image : loader_checked_in M k target (checks_of R k net contents) loader ≡ loader'
  pub cells : contents_checked M (λ N. kept_after pairs N (section_of R k net)) k target (checks_of R k net contents) contents ≡ contents'

-- the same, for all rules that are offered and all bytes that hold the net read under them, with its section
pub record MapsNet (c : Call) (N : Net) (section pairs area area' loader loader' contents contents' : List ℕ) (answer : Answer) : Type 0 where
  pub maps : (R : Rules) → Offered R → (net : List ℕ) → net_reader R c.k net ≡ got N [] → section_of R c.k net ≡ section → lacking contents section ≡ c.lacks
      → MapsTo (mode_of c.forward) R c.k c.target net pairs area area' loader loader' contents contents' answer
