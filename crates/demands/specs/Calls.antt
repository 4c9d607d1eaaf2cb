-- Definitions: calls of map and of mark, whatever is lent, what they leave and which of their checks fail.
use Rattle.std.specs.Prelude.{◌≡◌, List, ℕ, ◌<◌}
use Rattle.limits.specs.Courses.{long}
use Rattle.net_model.specs.Net.{Net}
use Rattle.cover_theory.specs.Covers.{LeastPeriod}
use Rattle.cover_records.specs.Outcomes.{MapOutcome, map_outcome, MarkOutcome, mark_outcome}
use Rattle.demands.specs.TurnedBack.{IsNet, MapFails, MarkFails}

-- a call of map, and of mark: all that is lent, whatever it is
pub record MapCall : Type 0 where
  pub net : List ℕ
  pub k : ℕ
  pub target : ℕ
  pub area : List ℕ
  pub scratch : List ℕ

pub record MarkCall : Type 0 where
  pub net : List ℕ
  pub k : ℕ
  pub bytes : List ℕ
  pub scratch : List ℕ

-- what the call leaves, and which checks of it fail
abbrev pub map_done : MapCall → MapOutcome
map_done c = map_outcome long c.net c.k c.target c.area c.scratch

abbrev pub mark_done : MarkCall → MarkOutcome
mark_done c = mark_outcome long c.net c.k c.bytes c.scratch

abbrev pub MapBad : MapCall → ℕ → Type 0
MapBad c = MapFails c.net c.k c.target c.area c.scratch

abbrev pub MarkBad : MarkCall → ℕ → Type 0
MarkBad c = MarkFails c.net c.k c.bytes c.scratch

-- the net of a call that passes checks 1 to 11
abbrev pub MapNet : MapCall → Net → Type 0
MapNet c N = IsNet c.k c.net N × ((m : ℕ) → m < 12 → ¬ MapBad c m)

abbrev pub MarkNet : MarkCall → Net → Type 0
MarkNet c N = IsNet c.k c.net N × ((m : ℕ) → m < 12 → ¬ MarkBad c m)

-- the period that a call of map asks for: the target, or the least period for target 0
abbrev pub Asked : MapCall → Net → ℕ → Type 0
Asked c N φ = (¬ (c.target ≡ 0) → φ ≡ c.target) × (c.target ≡ 0 → LeastPeriod N c.k φ)
