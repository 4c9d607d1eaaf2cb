-- Definitions: the outcome of map with a loader area, for every input (document 02, E4): the answer, the cover area and the scratch as document 01 has them, and the loader area.
use Rattle.std.specs.Prelude.{Bool, true, false, ◌&&◌, List, ℕ, zero, suc, ltb, length}
use Rattle.limits.specs.Limits.{loader_area}
use Rattle.limits.specs.declared.Rules.{Rules}
use Rattle.net_model.specs.Net.{Net}
use Rattle.label_theory.specs.Labels.{Mode, plain}
use Rattle.cover_theory.specs.Key.{entries}
use Rattle.cover_records.specs.Outcomes.{Answer, turned_back, Checked, passes, fails, check_net, MapOutcome, MappedIn, covered, unreachable, mapped_in, map_sizes, map_checked_in, cleared}
use Rattle.cover_records.specs.LoaderImage.{is_lent, loaded}

pub record LoaderOutcome : Type 0 where
  pub answer : Answer
  pub area : List ℕ
  pub scratch : List ℕ
  pub loader : List ℕ

-- an outcome of map, and the loader area beside it
abbrev pub beside : MapOutcome → List ℕ → LoaderOutcome
beside o loader = record { answer = o.answer; area = o.area; scratch = o.scratch; loader = loader }

-- "20, a lent loader area is under 256 bytes"
abbrev pub too_short : List ℕ → Bool
too_short loader = is_lent loader && ltb (length loader) loader_area

-- "Map gains, if a loader area is lent ..., an image", in each mode; "A refusal leaves the loader area's bytes"
unfoldable pub loader_written : {M : Mode} {N : Net} {k : ℕ} → MappedIn M N k → List ℕ → List ℕ
loader_written (covered φ K) loader = loaded (entries K) loader
loader_written unreachable loader = loader

unfoldable pub loader_checked_in : Mode → (k target : ℕ) → Checked k → List ℕ → List ℕ
unfolding mapped_in loader_written
loader_checked_in M k target (fails n) loader = loader
loader_checked_in M k target (passes N p) loader = loader_written (mapped_in M N k target p) loader

abbrev pub loader_checked : (k target : ℕ) → Checked k → List ℕ → List ℕ
loader_checked = loader_checked_in plain

-- 20 is "told after 3", before the walk; document 01 keeps the scratch "After 1 to 3" alone
unfoldable pub loader_fit_in : Mode → Rules → Bool → (k target : ℕ) → Checked k → List ℕ → List ℕ → List ℕ → LoaderOutcome
unfolding map_checked_in loader_checked_in
loader_fit_in M R true k target c area scratch loader = record { answer = turned_back 20; area = area; scratch = cleared R.scratch scratch; loader = loader }
loader_fit_in M R false k target c area scratch loader = beside (map_checked_in M R k target c area scratch) (loader_checked_in M k target c loader)

abbrev pub loader_fit : Rules → Bool → (k target : ℕ) → Checked k → List ℕ → List ℕ → List ℕ → LoaderOutcome
loader_fit = loader_fit_in plain

unfoldable pub loader_sized : Rules → ℕ → (k target : ℕ) → List ℕ → List ℕ → List ℕ → List ℕ → LoaderOutcome
unfolding loader_fit_in check_net
loader_sized R zero k target net area scratch loader = loader_fit R (too_short loader) k target (check_net R k net) area scratch loader
loader_sized R (suc n) k target net area scratch loader = record { answer = turned_back (suc n); area = area; scratch = scratch; loader = loader }

-- Map under rules R for every input, in document 01's mode: net, k, target, cover area, scratch and loader area.
unfoldable pub loader_outcome : Rules → List ℕ → (k target : ℕ) → List ℕ → List ℕ → List ℕ → LoaderOutcome
unfolding loader_sized map_sizes
loader_outcome R net k target area scratch loader = loader_sized R (map_sizes R k target area scratch) k target net area scratch loader
