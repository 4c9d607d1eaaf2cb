-- Definitions: what a value as read, or a refusal, says of a reader's result.
use Rattle.std.specs.Prelude.{List, ℕ, drop, Result, Ok, Err}
use Rattle.net_bytes.specs.Reading.{Result as Outcome, got, refused}
use Rattle.refusals.specs.declared.Refusal.{Refusal}
use Rattle.refusals.specs.Refusals.{number_of}
use Rattle.net_fields.specs.declared.Read.{Read}

-- a reader goes on with what was made, or ends with the number of the refusal
abbrev pub onward : {A B : Type 0} → (A → Outcome B) → Result A Refusal → Outcome B
onward f (Ok a) = f a
onward f (Err e) = refused (number_of e)

-- what f makes of the value read, and the bytes of s behind it, or the number of the refusal
abbrev pub outcome : {A B : Type 0} → (A → B) → List ℕ → Result (Read A) Refusal → Outcome B
outcome f s (Ok r) = got (f r.value) (drop r.at s)
outcome f s (Err e) = refused (number_of e)
