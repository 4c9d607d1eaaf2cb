-- Definitions: an answer as one whole number: the record's length, the excess, the shift or the offset, or minus the refusal's number.
use Rattle.std.specs.Prelude.{ℕ, ℤ, pos, ◌+ℤ◌, ◌-ℤ◌, Result, Ok, Err, Option, Some, None}
use Rattle.refusals.specs.declared.Refusal.{Refusal}
use Rattle.refusals.specs.Refusals.{number_of}
use Rattle.cover_records.specs.Outcomes.{Answer, accepted, turned_back}
use Rattle.captures.specs.Captures.{no_shift}
use Rattle.captures.specs.AlignOutcome.{Aligned, shifted, refused}
use Rattle.job_find.specs.RootLookup.{Lookup, found, absent}
use Rattle.captures.specs.AlignOutcome as align
use Rattle.job_find.specs.RootLookup as find

abbrev pub coded : Answer → ℤ
coded (accepted n) = pos n
coded (turned_back n) = pos 0 -ℤ pos n

-- E10's: the shift, 256 for none
abbrev pub coded_shift : Aligned → ℤ
coded_shift (shifted s) = pos s
coded_shift align.none = pos no_shift
coded_shift (refused n) = pos 0 -ℤ pos n

-- E1's: the root's byte offset, 0 for no
abbrev pub coded_root : Lookup → ℤ
coded_root (found o) = pos o
coded_root absent = pos 0
coded_root (find.turned_back n) = pos 0 -ℤ pos n

-- what a job gives, as one number
abbrev pub told : Result ℕ Refusal → ℤ
told (Ok n) = pos n
told (Err e) = pos 0 -ℤ pos (number_of e)

-- the same, with a number for none
abbrev pub told_or : ℕ → Result (Option ℕ) Refusal → ℤ
told_or none (Ok (Some n)) = pos n
told_or none (Ok None) = pos none
told_or none (Err e) = pos 0 -ℤ pos (number_of e)
