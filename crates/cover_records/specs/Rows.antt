-- Definitions: LUTs in one slice of numbers, one part behind the other: for each of n gates its mark, or for each of n LUTs its root; their numbers of leaves; six places each for the
-- nodes of the leaves; six places each for their d. Lags or labels and tables stand apart.
use Rattle.std.specs.Prelude.{List, ℕ, ◌+◌, ◌*◌, ℤ, drop}
use Rattle.limits.specs.Limits.{most_pins}
use Rattle.cover_records.specs.Kept.{Kept, kept}

-- the parts behind the first
abbrev pub sizes_in : ℕ → List ℕ → List ℕ
sizes_in n rows = drop n rows

abbrev pub nodes_in : ℕ → List ℕ → List ℕ
nodes_in n rows = drop (2 * n) rows

abbrev pub backs_in : ℕ → List ℕ → List ℕ
backs_in n rows = drop ((2 + most_pins) * n) rows

-- the numbers of all parts
abbrev pub row_room : ℕ → ℕ
row_room n = (2 + 2 * most_pins) * n

-- the cover kept in a slice, with its labels and full tables
abbrev pub kept_in : ℕ → ℕ → ℕ → List ℤ → List ℕ → List ℕ → Kept
kept_in inputs gates period labels rows tables = kept inputs gates period labels rows (sizes_in gates rows) (nodes_in gates rows) (backs_in gates rows) tables
