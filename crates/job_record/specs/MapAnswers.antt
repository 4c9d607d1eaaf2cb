-- Definitions: document 01's answer for each case of map's.
use Rattle.std.specs.Prelude.{ℕ, ◌≤◌, ◌<◌, Result, Ok, Err}
use Rattle.limits.specs.Limits.{cover_area}
use Rattle.cover_records.specs.Outcomes.{Answer, accepted, turned_back}
use Rattle.refusals.specs.declared.Refusal.{Refusal}
use Rattle.refusals.specs.Refusals.{number_of}

-- "Map returns the record's length"; "A refusal returns its number and no count."
abbrev pub answer_of : Result ℕ Refusal → Answer
answer_of (Ok n) = accepted n
answer_of (Err e) = turned_back (number_of e)

-- a length is at most 962, a refusal's number is a byte
abbrev pub InRange : Answer → Type 0
InRange (accepted n) = n ≤ cover_area
InRange (turned_back n) = n < 256
