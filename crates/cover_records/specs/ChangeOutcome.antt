-- Definitions: the outcome of a change-over, for every input (document 02, E7): "The call is E6's, with its target and cover area, and the pairs beside".
use Rattle.std.specs.Prelude.{Bool, List, ℕ, ltb, length}
use Rattle.limits.specs.Limits.{contents_area}
use Rattle.limits.specs.declared.Rules.{Rules}
use Rattle.run_theory.specs.BenchBytes.{kept_after}
use Rattle.label_theory.specs.Labels.{forward}
use Rattle.cover_records.specs.ForwardOutcome.{ForwardOutcome, outcome_from}

-- "Refusals are E6's, and 3 if no contents area is lent": 3 for each area under 20,592 bytes, that of length 0 too
abbrev pub contents_wanting : List ℕ → Bool
contents_wanting contents = ltb (length contents) contents_area

-- The change-over under rules R for every input: net, k, target, input pairs, cover area, scratch, loader area and contents area. The board's first step is the one behind the
-- pairs: it is known from what the net has kept then.
unfoldable pub change_outcome : Rules → List ℕ → (k target : ℕ) → List ℕ → List ℕ → List ℕ → List ℕ → List ℕ → ForwardOutcome
unfolding outcome_from
change_outcome R net k target pairs area scratch loader contents = outcome_from forward R (contents_wanting contents) (kept_after pairs) net k target area scratch loader contents
