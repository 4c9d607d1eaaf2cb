-- Definitions: E1's answer for each case of the program's.
use Rattle.std.specs.Prelude.{ℕ, Option, Some, None, Result, Ok, Err}
use Rattle.refusals.specs.declared.Refusal.{Refusal}
use Rattle.refusals.specs.Refusals.{number_of}
use Rattle.job_find.specs.RootLookup.{Lookup, found, absent, turned_back}

-- "the yes comes with its root's byte offset"; no; "Answers: 19"
abbrev pub lookup_of : Result (Option ℕ) Refusal → Lookup
lookup_of (Ok (Some o)) = found o
lookup_of (Ok None) = absent
lookup_of (Err e) = turned_back (number_of e)

-- the same where whatever was wrong is told as 19
abbrev pub looked_of : Result (Option ℕ) Refusal → Lookup
looked_of (Ok (Some o)) = found o
looked_of (Ok None) = absent
looked_of (Err e) = turned_back 19
