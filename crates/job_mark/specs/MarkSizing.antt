-- Mark as a whole: refusals 1 and 3, and all other outcomes.
use Rattle.std.specs.Prelude.{◌≡◌, refl, ℕ, zero, suc, ◌<◌, length}
use Rattle.std.proofs.Math.Path.{sym, ap}
use Rattle.std.proofs.Common.{◌∙◌, drop_at}
use mathlib.Core.List.{List, ◌++◌}
use native.Mathlib.Omega.{arith}
use Rattle.std.proofs.Math.ListN.{drop, replicate}
use Rattle.limits.specs.declared.Rules.{Rules}
use Rattle.cover_records.specs.Outcomes.{Answer, turned_back, mark_sized, mark_outcome, cleared}
use Rattle.job_sizes.specs.Sizes.{sizes_of}
use Rattle.job_sizes.specs.SizeLaws.{mark-sizes_are}
use Rattle.job_judge.specs.JudgeMarking.{MarksTo}

module _ (R : Rules) (k : ℕ) (scratch : List ℕ) where
  -- **refusals 1 and 3**
  pub mark-sizes : (net bytes : List ℕ) (r : ℕ) → r ≡ sizes_of R k 0 R.area (length scratch) → 0 < r → mark_outcome R net k bytes scratch ≡ record { answer = turned_back r; scratch = scratch }
  unfolding mark_outcome mark_sized
  mark-sizes net bytes r e h = ap (λ (n : ℕ). mark_sized R n k net bytes scratch) (mark-sizes_are R k scratch ∙ sym e) ∙ sized r h
    where
      none : 0 < 0 → ⊥
      none h = omega arith

      sized : (r : ℕ) → 0 < r → mark_sized R r k net bytes scratch ≡ record { answer = turned_back r; scratch = scratch }
      sized zero h = absurd (none h)
      sized (suc n) h = refl

  -- **all other outcomes**: the scratch in front was worked on, then cleared
  pub mark-rest : (net bytes work : List ℕ) (answer : Answer) (scratch' : List ℕ) → sizes_of R k 0 R.area (length scratch) ≡ 0 → MarksTo R k net bytes answer → length work ≡ R.scratch
      → scratch' ≡ cleared R.scratch (work ++ drop R.scratch scratch) → mark_outcome R net k bytes scratch ≡ record { answer = answer; scratch = scratch' }
  unfolding mark_outcome mark_sized cleared
  mark-rest net bytes work answer scratch' z m l e =
      ap (λ (n : ℕ). mark_sized R n k net bytes scratch) (mark-sizes_are R k scratch ∙ z) ∙ ap (λ (a : Answer). record { answer = a; scratch = replicate R.scratch 0 ++ drop R.scratch scratch }) m.outcome
      ∙ ap (λ (s : List ℕ). record { answer = answer; scratch = s }) (sym (e ∙ ap (λ (s : List ℕ). replicate R.scratch 0 ++ s) (drop_at work (drop R.scratch scratch) R.scratch l)))
