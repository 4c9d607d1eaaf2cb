-- Definitions: E10's answer for each case of align's.
use Rattle.std.specs.Prelude.{ℕ, Result, Ok, Err, Option, Some, None}
use Rattle.refusals.specs.declared.Refusal.{Refusal}
use Rattle.refusals.specs.Refusals.{number_of}
use Rattle.captures.specs.AlignOutcome.{Aligned, shifted, none, refused}

-- "the smallest shift"; "the reply is none"; "Answers: 23"
abbrev pub aligned_of : Result (Option ℕ) Refusal → Aligned
aligned_of (Ok (Some s)) = shifted s
aligned_of (Ok None) = none
aligned_of (Err e) = refused (number_of e)
