-- Laws of the change-over: with a contents area it is a call in forward mode whose start alone differs; without one it is 1, 2 or 3.
use Rattle.std.specs.Prelude.{◌≡◌, refl, Bool, true, ◌&&◌, ltb, length}
use Rattle.std.proofs.Common.{sym, ◌∙◌, arith, lt-ltb}
use Rattle.std.proofs.Math.Path.{ap, fun_ext}
use mathlib.Core.List.{List}
use Prim.Native.Nat.{ℕ, zero, suc, ◌<◌}
use Rattle.limits.specs.Limits.{contents_area}
use Rattle.limits.specs.declared.Rules.{Rules}
use Rattle.net_model.specs.Net.{Net}
use Rattle.run_theory.specs.Bench.{ago, section_at, value_at}
use Rattle.run_theory.specs.BenchBytes.{section_in, pairs_in, steps_of, kept_after}
use Rattle.label_theory.specs.Labels.{Mode, forward}
use Rattle.cover_records.specs.ForwardOutcome.{ForwardOutcome, contents_short, sizes_with, section_of, lacking, sectioned, outcome_fit, outcome_sized, outcome_from, forward_outcome}
use Rattle.cover_records.specs.LoaderOutcome.{LoaderOutcome}
use Rattle.cover_records.specs.Outcomes.{check_net, map_sizes}
use Rattle.cover_records.specs.ChangeOutcome.{contents_wanting, change_outcome}

-- an area that is lent is too short for both
pub wanting_lent : (contents : List ℕ) → 0 < length contents → contents_wanting contents ≡ contents_short contents
wanting_lent contents h = sym (ap (λ (b : Bool). b && ltb (length contents) contents_area) (lt-ltb 0 (length contents) h))

pub wanting_none : (contents : List ℕ) → length contents ≡ 0 → contents_wanting contents ≡ true
wanting_none contents e = lt-ltb (length contents) contents_area (omega (arith, e))

-- before the first step the section is what is kept
pub kept-first : (pairs : List ℕ) → steps_of pairs ≡ 0 → (N : Net) (section : List ℕ) → kept_after pairs N section ≡ section_in section
unfolding ago
kept-first pairs none N section = ap (section_at (section_in section) (value_at N (section_in section) (pairs_in pairs))) none ∙ first
  where
    first : section_at (section_in section) (value_at N (section_in section) (pairs_in pairs)) 0 ≡ section_in section
    first = refl

-- an outcome without its contents area
abbrev pub loader_part : ForwardOutcome → LoaderOutcome
loader_part o = record { answer = o.answer; area = o.area; scratch = o.scratch; loader = o.loader }

-- **what a call starts from changes its contents alone**
pub start-apart : (M : Mode) (R : Rules) (short : Bool) (a b : Net → List ℕ → ℕ → ℕ → Bool) (net : List ℕ) (k target : ℕ) (area scratch loader contents : List ℕ)
    → loader_part (outcome_from M R short a net k target area scratch loader contents) ≡ loader_part (outcome_from M R short b net k target area scratch loader contents)
unfolding outcome_from outcome_sized outcome_fit
start-apart M R short a b net k target area scratch loader contents = by (sizes_with short (map_sizes R k target area scratch))
  where
    sized : (Net → List ℕ → ℕ → ℕ → Bool) → ℕ → ForwardOutcome
    sized start n = outcome_sized M R n (λ N. start N (section_of R k net)) k target (sectioned (lacking contents (section_of R k net)) (check_net R k net)) area scratch loader contents

    by : (n : ℕ) → loader_part (sized a n) ≡ loader_part (sized b n)
    by zero = refl
    by (suc n) = refl

module _ (R : Rules) (net : List ℕ) (k target : ℕ) (pairs area scratch loader contents : List ℕ) where
  -- **with a contents area the start alone differs from E6's**
  pub change-lent : 0 < length contents
      → change_outcome R net k target pairs area scratch loader contents ≡ outcome_from forward R (contents_short contents) (kept_after pairs) net k target area scratch loader contents
  unfolding change_outcome
  change-lent h = ap (λ (b : Bool). outcome_from forward R b (kept_after pairs) net k target area scratch loader contents) (wanting_lent contents h)

  pub change-beside : 0 < length contents → loader_part (change_outcome R net k target pairs area scratch loader contents) ≡ loader_part (forward_outcome R net k target area scratch loader contents)
  unfolding forward_outcome
  change-beside h = ap loader_part (change-lent h) ∙ start-apart forward R (contents_short contents) (kept_after pairs) (λ N section. section_in section) net k target area scratch loader contents

  -- **at step 0 it is E6's call**
  pub change-first : 0 < length contents → steps_of pairs ≡ 0 → change_outcome R net k target pairs area scratch loader contents ≡ forward_outcome R net k target area scratch loader contents
  unfolding forward_outcome
  change-first h l =
      change-lent h
      ∙ ap (λ (start : Net → List ℕ → ℕ → ℕ → Bool). outcome_from forward R (contents_short contents) start net k target area scratch loader contents)
      (fun_ext (λ N. fun_ext (λ section. kept-first pairs l N section)))
