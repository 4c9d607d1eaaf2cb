-- Definitions: the outcome of map in forward mode, for every input (document 02, E6): the answer, the cover area, the scratch and the loader area as in document 01's mode, over
-- forward covers, and the contents area.
use Rattle.std.specs.Prelude.{Bool, true, false, cond, ◌&&◌, List, [], ℕ, zero, suc, ltb, eqb, length}
use Rattle.limits.specs.Limits.{contents_area}
use Rattle.limits.specs.declared.Rules.{Rules}
use Rattle.net_model.specs.Net.{Net}
use Rattle.net_bytes.specs.Reading.{Result, got, refused}
use Rattle.net_bytes.specs.Walk.{Drawn, drawn_reader}
use Rattle.run_theory.specs.BenchBytes.{section_in}
use Rattle.label_theory.specs.Labels.{Mode, forward}
use Rattle.cover_theory.specs.Key.{entries, as_cover}
use Rattle.board_theory.specs.Contents.{contents_of}
use Rattle.cover_records.specs.LoaderImage.{is_lent}
use Rattle.cover_records.specs.LoaderOutcome.{LoaderOutcome, too_short, loader_fit_in}
use Rattle.cover_records.specs.Outcomes.{Answer, turned_back, Checked, passes, fails, check_net, MappedIn, covered, unreachable, mapped_in, map_sizes, written}

pub record ForwardOutcome : Type 0 where
  pub answer : Answer
  pub area : List ℕ
  pub scratch : List ℕ
  pub loader : List ℕ
  pub contents : List ℕ

-- an outcome with a loader area, and the contents area beside it
abbrev pub with_contents : LoaderOutcome → List ℕ → ForwardOutcome
with_contents o contents = record { answer = o.answer; area = o.area; scratch = o.scratch; loader = o.loader; contents = contents }

-- ---- 3

-- "3, a lent contents area is under 20,592 bytes" "(length 0 counts as none)"
abbrev pub contents_short : List ℕ → Bool
contents_short contents = is_lent contents && ltb (length contents) contents_area

-- 1, 2 and 3 as map tells them, then 3 for the contents area; 0 if all pass
abbrev pub sizes_with : Bool → ℕ → ℕ
sizes_with short zero = cond short 3 0
sizes_with short (suc n) = suc n

-- ---- 21

-- the section of a net's record; no byte where it has none, or where the walk refuses the record
abbrev pub section_from : Result Drawn → List ℕ
section_from (got d rest) = d.section
section_from (refused n) = []

unfoldable pub section_of : Rules → ℕ → List ℕ → List ℕ
section_of R k net = section_from (drawn_reader R k net)

-- "21, one is lent and the net has no section"
abbrev pub lacking : List ℕ → List ℕ → Bool
lacking contents section = is_lent contents && eqb (length section) 0

-- 21 is "told after 11" (E5)
unfoldable pub sectioned : Bool → {k : ℕ} → Checked k → Checked k
sectioned lacks (fails n) = fails n
sectioned true (passes N p) = fails 21
sectioned false (passes N p) = passes N p

-- ---- contents

-- "If a contents area is lent too (length 0 counts as none), it gets the first contents of each connection's registers"; "A refusal, and the part behind, keep its bytes."
unfoldable pub contents_written : {M : Mode} {N : Net} {k : ℕ} → (ℕ → ℕ → Bool) → MappedIn M N k → List ℕ → List ℕ
contents_written {M} {N} kept (covered φ K) contents = cond (is_lent contents) (written (contents_of N (as_cover N (entries K)) kept) contents) contents
contents_written kept unreachable contents = contents

-- `start` gives what is known of the net's nodes before the board's first step
unfoldable pub contents_checked : Mode → (Net → ℕ → ℕ → Bool) → (k target : ℕ) → Checked k → List ℕ → List ℕ
unfolding mapped_in contents_written
contents_checked M start k target (fails n) contents = contents
contents_checked M start k target (passes N p) contents = contents_written (start N) (mapped_in M N k target p) contents

-- ---- the whole

-- 20, then the net: its checks, 21 among them, and 22
unfoldable pub outcome_fit : Mode → Rules → Bool → (Net → ℕ → ℕ → Bool) → (k target : ℕ) → Checked k → List ℕ → List ℕ → List ℕ → List ℕ → ForwardOutcome
unfolding loader_fit_in contents_checked
outcome_fit M R short start k target c area scratch loader contents =
    with_contents (loader_fit_in M R short k target c area scratch loader) (cond short contents (contents_checked M start k target c contents))

unfoldable pub outcome_sized : Mode → Rules → ℕ → (Net → ℕ → ℕ → Bool) → (k target : ℕ) → Checked k → List ℕ → List ℕ → List ℕ → List ℕ → ForwardOutcome
unfolding outcome_fit
outcome_sized M R zero start k target c area scratch loader contents = outcome_fit M R (too_short loader) start k target c area scratch loader contents
outcome_sized M R (suc n) start k target c area scratch loader contents = record { answer = turned_back (suc n); area = area; scratch = scratch; loader = loader; contents = contents }

-- A call of map in a mode, with all areas: its contents area is told by 3 where `short`, and its board's first step is known from `start` of the net and its section. In document
-- 01's mode no contents area is lent.
unfoldable pub outcome_from : Mode → Rules → Bool → (Net → List ℕ → ℕ → ℕ → Bool) → List ℕ → (k target : ℕ) → List ℕ → List ℕ → List ℕ → List ℕ → ForwardOutcome
unfolding outcome_sized map_sizes section_of sectioned check_net
outcome_from M R short start net k target area scratch loader contents =
    let section = section_of R k net in
    outcome_sized M R (sizes_with short (map_sizes R k target area scratch)) (λ N. start N section) k target (sectioned (lacking contents section) (check_net R k net)) area scratch loader contents

-- Map in forward mode under rules R for every input: net, k, target, cover area, scratch, loader area and contents area. The board starts at step 0, from the net's section.
unfoldable pub forward_outcome : Rules → List ℕ → (k target : ℕ) → List ℕ → List ℕ → List ℕ → List ℕ → ForwardOutcome
unfolding outcome_from
forward_outcome R net k target area scratch loader contents = outcome_from forward R (contents_short contents) (λ N section. section_in section) net k target area scratch loader contents
