-- Laws of answers as one whole number.
use Rattle.std.specs.Prelude.{◌≡◌, refl, ℕ, ◌^◌, ◌≤◌, ◌<◌, ℤ, Result, Ok, Err, Option, Some, None, IfOk, List, unwrap_or}
use Rattle.std.proofs.Common.{sym, ap, subst, ◌∙◌, arith, SFits, to_z, of_z}
use Rattle.std.specs.Int.Signed.{mag}
use Rattle.std.specs.Int.{w64}
use Rattle.signed.specs.RangeLaws.{back, fits-of}
use Rattle.captures.specs.AlignOutcome.{Aligned, align_outcome}
use Rattle.captures.proofs.CaptureLaws.{align_told}
use Rattle.cover_records.specs.Outcomes.{Answer}
use Rattle.job_find.specs.RootLookup.{Lookup, find_root}
use Rattle.job_find.specs.LookupRange.{find-range}
use Rattle.refusals.specs.declared.Refusal.{Refusal}
use Rattle.signed.specs.Range.{room}
use Rattle.captures.specs.Captures.{no_shift}
use Rattle.captures.specs.AlignAnswers.{aligned_of}
use Rattle.job_find.specs.FindAnswers.{lookup_of}
use Rattle.job_record.specs.MapAnswers as map
use Rattle.job_judge.specs.MarkAnswers as mark
use Rattle.kamfelu.specs.Coded.{coded, coded_shift, coded_root, told, told_or}

-- a stored number that is the code of E10's answer reads back as that code
pub shift_back : {o a : Aligned} {r : ℤ} (m : ℕ) → o ≡ a → r ≡ coded_shift a → m < 2 ^ 63 → mag (coded_shift a) ≤ m → to_z w64 (of_z w64 r) ≡ coded_shift o
shift_back {r = r} m e c l h = back r (subst (SFits w64) (sym c) (fits-of _ m l h)) ∙ c ∙ ap coded_shift (sym e)

-- so does one that is the code of E1's
pub root-back : {o a : Lookup} {r : ℤ} (m : ℕ) → o ≡ a → r ≡ coded_root a → m < 2 ^ 63 → mag (coded_root a) ≤ m → to_z w64 (of_z w64 r) ≡ coded_root o
root-back {r = r} m e c l h = back r (subst (SFits w64) (sym c) (fits-of _ m l h)) ∙ c ∙ ap coded_root (sym e)

-- the code of an equal answer
pub coded_as : {a b : Answer} {r : ℤ} → a ≡ b → r ≡ coded b → r ≡ coded a
coded_as e c = c ∙ ap coded (sym e)

-- the answers of map and of mark, those of E10 and of E1, as what the functions give
pub map_told : (r : Result ℕ Refusal) → coded (map.answer_of r) ≡ told r
map_told (Ok n) = refl
map_told (Err e) = refl

pub mark_told : (r : Result ℕ Refusal) → coded (mark.answer_of r) ≡ told r
mark_told (Ok n) = refl
mark_told (Err e) = refl

pub shift_told : (r : Result (Option ℕ) Refusal) → coded_shift (aligned_of r) ≡ told_or no_shift r
shift_told (Ok (Some s)) = refl
shift_told (Ok None) = refl
shift_told (Err e) = refl

pub root_told : (r : Result (Option ℕ) Refusal) → coded_root (lookup_of r) ≡ told_or 0 r
root_told (Ok (Some o)) = refl
root_told (Ok None) = refl
root_told (Err e) = refl

-- they are far within a machine number
pub map_room : (r : Result ℕ Refusal) → map.InRange (map.answer_of r) → IfOk r (λ n. n ≤ room)
map_room (Ok n) h = omega arith
map_room (Err e) h = tt

pub mark_room : (r : Result ℕ Refusal) → mark.InRange (mark.answer_of r) → IfOk r (λ n. n ≤ room)
mark_room (Ok n) h = omega arith
mark_room (Err e) h = tt

pub shift_room : (first second : List ℕ) (r : Result (Option ℕ) Refusal) → align_outcome first second ≡ aligned_of r → IfOk r (λ n. unwrap_or n no_shift ≤ room)
shift_room first second (Ok (Some s)) e = let h = (((align_told first second).found s).0 e).bound in omega arith
shift_room first second (Ok None) e = omega arith
shift_room first second (Err x) e = tt

pub root_room : (g : ℕ) (cover : List ℕ) (r : Result (Option ℕ) Refusal) → lookup_of r ≡ find_root g cover → IfOk r (λ n. unwrap_or n 0 ≤ room)
root_room g cover (Ok (Some o)) e = let h = (find-range g cover o (sym e)).1 in omega arith
root_room g cover (Ok None) e = omega arith
root_room g cover (Err x) e = tt
