-- Definitions: how the checks of a call end, and how a call of map and of mark ends.
use Rattle.std.specs.Prelude.{◌≡◌, List, ◌⊎◌, ℕ, ◌≤◌, ◌<◌}
use Rattle.limits.specs.Limits.{least_k, most_k, most_period, cover_area, scratch_area}
use Rattle.limits.specs.Courses.{long}
use Rattle.net_model.specs.Net.{Net}
use Rattle.net_model.specs.Checks.{Passed}
use Rattle.cover_theory.specs.Key.{Key}
use Rattle.cover_period.specs.Period.{least_period}
use Rattle.cover_records.specs.Outcomes.{Answer, accepted, turned_back, Checked, passes, fails, check_net, cleared, MapOutcome, map_sizes, covered, map_written, MarkOutcome, mark_sizes}
use Rattle.job_sizes.specs.Sizes.{Fit}
use Rattle.demands.specs.TurnedBack.{IsNet, NetFails, MapFails, MarkFails, Outside, First}

-- what the test of the sizes told
pub data Said (k target area scratch n : ℕ) : Type 0 where
  fits : n ≡ 0 → Fit long k target area scratch → Said k target area scratch n
  said1 : n ≡ 1 → Outside k → Said k target area scratch n
  said2 : n ≡ 2 → least_k ≤ k → k ≤ most_k → most_period < target → Said k target area scratch n
  said3 : n ≡ 3 → least_k ≤ k → k ≤ most_k → target ≤ most_period → (area < cover_area) ⊎ (scratch < scratch_area) → Said k target area scratch n

-- what an answer says of the checks
abbrev pub Told : (ℕ → Type 0) → Answer → Type 0
Told Fails (accepted n) = (m : ℕ) → ¬ Fails m
Told Fails (turned_back n) = First Fails n

module _ (k : ℕ) (net : List ℕ) where
  -- how checks 4 to 11 end
  pub data NetEnds (c : Checked k) : Type 0 where
    stops : (n : ℕ) → c ≡ fails n → NetFails k net n → ((m : ℕ) → NetFails k net m → n ≤ m) → NetEnds c
    goes : (N : Net) (P : Passed N k) → c ≡ passes N P → IsNet k net N → ((m : ℕ) → ¬ NetFails k net m) → NetEnds c

module _ (net : List ℕ) (k target : ℕ) (area scratch : List ℕ) where
  -- how a call of map ends
  pub data MapEnds (o : MapOutcome) : Type 0 where
    early : (n : ℕ) → n ≤ 3 → First (MapFails net k target area scratch) n → o ≡ record { answer = turned_back n; area = area; scratch = scratch } → MapEnds o
    late : (n : ℕ) → 3 < n → First (MapFails net k target area scratch) n → o ≡ record { answer = turned_back n; area = area; scratch = cleared scratch_area scratch } → MapEnds o
    wrote : (N : Net) (P : Passed N k) (φ : ℕ) (K : Key N k φ) → map_sizes long k target area scratch ≡ 0 → check_net long k net ≡ passes N P → IsNet k net N
        → ((m : ℕ) → ¬ MapFails net k target area scratch m) → (target ≡ 0 → φ ≡ least_period P) → (¬ (target ≡ 0) → φ ≡ target) → o ≡ map_written long (covered φ K) area scratch → MapEnds o

module _ (net : List ℕ) (k : ℕ) (bytes scratch : List ℕ) where
  -- how a call of mark ends
  pub data MarkEnds (o : MarkOutcome) : Type 0 where
    early : (n : ℕ) → n ≤ 3 → First (MarkFails net k bytes scratch) n → o ≡ record { answer = turned_back n; scratch = scratch } → MarkEnds o
    late : (n : ℕ) → 3 < n → First (MarkFails net k bytes scratch) n → o ≡ record { answer = turned_back n; scratch = cleared scratch_area scratch } → MarkEnds o
    marked : (n : ℕ) → mark_sizes long k scratch ≡ 0 → ((m : ℕ) → ¬ MarkFails net k bytes scratch m) → o ≡ record { answer = accepted n; scratch = cleared scratch_area scratch } → MarkEnds o
