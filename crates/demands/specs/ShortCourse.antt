-- Definitions: document 02, E8, as one record.
use Rattle.std.specs.Prelude.{◌≡◌, List, ℕ, ◌≤◌, ◌<◌, get_or}
use Rattle.limits.specs.Limits.{scratch_area}
use Rattle.limits.specs.Courses.{long, short}
use Rattle.cover_records.specs.Outcomes.{turned_back, cleared, map_sizes, map_outcome, mark_sizes, mark_outcome}

-- the gates that a net says it has; 0 where it ends before it says so
abbrev pub gates_said : List ℕ → ℕ
gates_said net = get_or net 1 0

-- Every call falls under one of the pairs: k above 4; else checks 1 to 3 turn it back; else the net says more than 8 gates, or at most 8.
pub record ShortCourse : Type 0 where
  -- "a net and k within both courses get identical covers, excesses and refusals": areas and scratch too
  pub map_same : (net : List ℕ) (k target : ℕ) (area scratch : List ℕ) → k ≤ short.most → gates_said net ≤ short.gates
      → map_outcome short net k target area scratch ≡ map_outcome long net k target area scratch
  pub mark-same : (net : List ℕ) (k : ℕ) (bytes scratch : List ℕ) → k ≤ short.most → gates_said net ≤ short.gates
      → mark_outcome short net k bytes scratch ≡ mark_outcome long net k bytes scratch
  -- where 1 to 3 turn back a k of both courses, whatever the net
  pub map-early : (net : List ℕ) (k target : ℕ) (area scratch : List ℕ) → k ≤ short.most → ¬ (map_sizes short k target area scratch ≡ 0)
      → map_outcome short net k target area scratch ≡ map_outcome long net k target area scratch
  pub mark-early : (net : List ℕ) (k : ℕ) (bytes scratch : List ℕ) → k ≤ short.most → ¬ (mark_sizes short k scratch ≡ 0)
      → mark_outcome short net k bytes scratch ≡ mark_outcome long net k bytes scratch
  -- "The short course answers 1 for k of 5 or 6": and of more, all bytes kept
  pub map-one : (net : List ℕ) (k target : ℕ) (area scratch : List ℕ) → short.most < k
      → map_outcome short net k target area scratch ≡ record { answer = turned_back 1; area = area; scratch = scratch }
  pub mark-one : (net : List ℕ) (k : ℕ) (bytes scratch : List ℕ) → short.most < k → mark_outcome short net k bytes scratch ≡ record { answer = turned_back 1; scratch = scratch }
  -- "and 5 for more than 8 gates, in their usual order"
  pub map_five : (net : List ℕ) (k target : ℕ) (area scratch : List ℕ) → map_sizes short k target area scratch ≡ 0 → short.gates < gates_said net
      → map_outcome short net k target area scratch ≡ record { answer = turned_back 5; area = area; scratch = cleared scratch_area scratch }
  pub mark_five : (net : List ℕ) (k : ℕ) (bytes scratch : List ℕ) → mark_sizes short k scratch ≡ 0 → short.gates < gates_said net
      → mark_outcome short net k bytes scratch ≡ record { answer = turned_back 5; scratch = cleared scratch_area scratch }
