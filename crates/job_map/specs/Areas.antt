-- Definitions: map with all its areas and input pairs, in a mode and under rules R, for every input: in document 01's mode no contents area is lent.
use Rattle.std.specs.Prelude.{List, ℕ}
use Rattle.limits.specs.declared.Rules.{Rules}
use Rattle.run_theory.specs.BenchBytes.{kept_after}
use Rattle.label_theory.specs.Labels.{Mode}
use Rattle.cover_records.specs.ForwardOutcome.{ForwardOutcome, contents_short, outcome_from}

abbrev pub areas_outcome : Mode → Rules → List ℕ → (k target : ℕ) → List ℕ → List ℕ → List ℕ → List ℕ → List ℕ → ForwardOutcome
areas_outcome M R net k target pairs area scratch loader contents = outcome_from M R (contents_short contents) (kept_after pairs) net k target area scratch loader contents
