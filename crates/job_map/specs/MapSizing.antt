-- Map as a whole: refusals 1 to 3, then 20, and all other outcomes; without a contents area it is map with a loader area, and without that document 01's map.
use Rattle.std.specs.Prelude.{◌≡◌, refl, Bool, true, cond, length, drop}
use Rattle.std.proofs.Math.Path.{sym, ap, ap₂}
use Rattle.std.proofs.Common.{◌∙◌, drop_at}
use mathlib.Core.List.{List, ◌++◌}
use Prim.Native.Nat.{ℕ, zero, suc, ◌<◌}
use native.Mathlib.Omega.{arith}
use Rattle.std.proofs.Math.ListN.{replicate}
use Rattle.limits.specs.Limits.{contents_area, loader_area}
use Rattle.limits.specs.declared.Rules.{Rules}
use Rattle.run_theory.specs.BenchBytes.{kept_after}
use Rattle.label_theory.specs.Labels.{Mode, plain, forward}
use Rattle.cover_records.specs.Outcomes.{Answer, turned_back, MapOutcome, map_outcome, map_sizes, cleared}
use Rattle.cover_records.specs.LoaderOutcome.{LoaderOutcome, beside, too_short, loader_fit_in, loader_outcome}
use Rattle.cover_records.specs.LoaderLaws.{no_loader}
use Rattle.cover_records.specs.ForwardOutcome.{ForwardOutcome, with_contents, contents_short, sizes_with, section_of, outcome_fit, outcome_sized, outcome_from}
use Rattle.cover_records.specs.ForwardLaws.{plain-outcome}
use Rattle.cover_records.specs.ChangeOutcome.{change_outcome}
use Rattle.cover_records.specs.ChangeLaws.{wanting_none, loader_part}
use Rattle.job_sizes.specs.Sizes.{sizes_of, lent_size}
use Rattle.job_sizes.specs.SizeLaws.{map-sizes_are, told-short, told-fits}
use Rattle.job_record.specs.Mapping.{checks_of, MapsTo}
use Rattle.job_map.specs.Areas.{areas_outcome}

module _ (M : Mode) (R : Rules) (k target : ℕ) (pairs area scratch loader contents net : List ℕ) where
  -- all areas as they were
  abbrev keeping : ℕ → ForwardOutcome
  keeping n = record { answer = turned_back n; area = area; scratch = scratch; loader = loader; contents = contents }

  sized : ℕ → ForwardOutcome
  sized n = outcome_sized M R n (λ N. kept_after pairs N (section_of R k net)) k target (checks_of R k net contents) area scratch loader contents

  areas_sized : (n : ℕ) → n ≡ map_sizes R k target area scratch → areas_outcome M R net k target pairs area scratch loader contents ≡ sized (sizes_with (contents_short contents) n)
  unfolding outcome_from sized
  areas_sized n e = ap (λ (m : ℕ). sized (sizes_with (contents_short contents) m)) (sym e)

  -- **refusals 1 to 3**
  pub map-sizes : (r : ℕ) → r ≡ sizes_of R k target (length area) (length scratch) → 0 < r → areas_outcome M R net k target pairs area scratch loader contents ≡ keeping r
  unfolding outcome_sized sized
  map-sizes r e h = areas_sized r (e ∙ sym (map-sizes_are R k target area scratch)) ∙ some r h
    where
      none : 0 < 0 → ⊥
      none h = omega arith

      some : (r : ℕ) → 0 < r → sized (sizes_with (contents_short contents) r) ≡ keeping r
      some zero h = absurd (none h)
      some (suc n) h = refl

  module _ (z : sizes_of R k target (length area) (length scratch) ≡ 0) where
    zeroed : areas_outcome M R net k target pairs area scratch loader contents ≡ sized (cond (contents_short contents) 3 0)
    zeroed = areas_sized 0 (sym (map-sizes_are R k target area scratch ∙ z))

    -- **refusal 3 of the contents area**
    pub map-contents : (r : ℕ) → r ≡ lent_size contents_area 3 (length contents) → 0 < r → areas_outcome M R net k target pairs area scratch loader contents ≡ keeping r
    unfolding outcome_sized sized
    map-contents r e h =
        let t = told-short contents_area 3 (length contents) (omega (arith, e, h)) in
        zeroed ∙ ap (λ (b : Bool). sized (cond b 3 0)) t.0 ∙ ap keeping (sym (e ∙ t.1))

    module _ (y : lent_size contents_area 3 (length contents) ≡ 0) where
      passed : areas_outcome M R net k target pairs area scratch loader contents
          ≡ outcome_fit M R (too_short loader) (λ N. kept_after pairs N (section_of R k net)) k target (checks_of R k net contents) area scratch loader contents
      unfolding outcome_sized sized
      passed = zeroed ∙ ap (λ (b : Bool). sized (cond b 3 0)) (told-fits contents_area 3 (length contents) (omega arith) y).0

      -- **refusal 20**: the scratch is cleared
      pub map-short : (r : ℕ) (scratch' : List ℕ) → r ≡ lent_size loader_area 20 (length loader) → 0 < r → scratch' ≡ cleared R.scratch scratch
          → areas_outcome M R net k target pairs area scratch loader contents ≡ record { answer = turned_back r; area = area; scratch = scratch'; loader = loader; contents = contents }
      unfolding outcome_fit loader_fit_in
      map-short r scratch' e h q =
          let t = told-short loader_area 20 (length loader) (omega (arith, e, h)) in
          passed ∙ ap (λ (b : Bool). outcome_fit M R b (λ N. kept_after pairs N (section_of R k net)) k target (checks_of R k net contents) area scratch loader contents) t.0
          ∙ ap₂ (λ (n : ℕ) (s : List ℕ). record { answer = turned_back n; area = area; scratch = s; loader = loader; contents = contents }) (sym (e ∙ t.1)) (sym q)

      -- **all other outcomes**: the scratch in front was worked on, then cleared
      pub map-rest : (area' loader' contents' work : List ℕ) (answer : Answer) (scratch' : List ℕ) → lent_size loader_area 20 (length loader) ≡ 0
          → MapsTo M R k target net pairs area area' loader loader' contents contents' answer → length work ≡ R.scratch → scratch' ≡ cleared R.scratch (work ++ drop R.scratch scratch)
          → areas_outcome M R net k target pairs area scratch loader contents ≡ record { answer = answer; area = area'; scratch = scratch'; loader = loader'; contents = contents' }
      unfolding outcome_fit loader_fit_in cleared
      map-rest area' loader' contents' work answer scratch' x m l e =
          passed ∙ ap (λ (b : Bool). outcome_fit M R b (λ N. kept_after pairs N (section_of R k net)) k target (checks_of R k net contents) area scratch loader contents) (told-fits loader_area 20 (length loader) (omega arith) x).0
          ∙ ap₂ with_contents (ap₂ beside (m.outcome scratch) m.image) m.cells
          ∙ ap (λ (s : List ℕ). record { answer = answer; area = area'; scratch = s; loader = loader'; contents = contents' })
          (sym (e ∙ ap (λ (s : List ℕ). replicate R.scratch 0 ++ s) (drop_at work (drop R.scratch scratch) R.scratch l)))

-- the outcome of map in that with more areas
abbrev inner : LoaderOutcome → MapOutcome
inner o = record { answer = o.answer; area = o.area; scratch = o.scratch }

module _ (R : Rules) (net : List ℕ) (k target : ℕ) (pairs area scratch loader contents : List ℕ) {o : ForwardOutcome} (none : length contents ≡ 0) (e : areas_outcome plain R net k target pairs area scratch loader contents ≡ o) where
  -- **with no contents area it is map with a loader area**
  pub map-loaded : loader_outcome R net k target area scratch loader ≡ record { answer = o.answer; area = o.area; scratch = o.scratch; loader = o.loader }
  map-loaded = ap loader_part (sym (plain-outcome contents none R (kept_after pairs) net k target area scratch loader) ∙ e)

  -- **and with no loader area it is document 01's map**
  pub map-alone : length loader ≡ 0 → map_outcome R net k target area scratch ≡ record { answer = o.answer; area = o.area; scratch = o.scratch }
  map-alone bare = ap inner (sym (no_loader loader bare R net k target area scratch) ∙ map-loaded)

-- **without a contents area the change-over is 1, 2 or 3**
module _ (R : Rules) (net : List ℕ) (k target : ℕ) (pairs area scratch loader contents : List ℕ) (none : length contents ≡ 0) where
  abbrev kept-all : ℕ → ForwardOutcome
  kept-all n = record { answer = turned_back n; area = area; scratch = scratch; loader = loader; contents = contents }

  unlent-sized : (n : ℕ) → n ≡ sizes_of R k target (length area) (length scratch) → change_outcome R net k target pairs area scratch loader contents ≡ kept-all (sizes_with true n)
  unfolding change_outcome outcome_from outcome_sized
  unlent-sized n e = ap₂ (λ (b : Bool) (m : ℕ). sized (sizes_with b m)) (wanting_none contents none) (map-sizes_are R k target area scratch ∙ sym e) ∙ by n
    where
      sized : ℕ → ForwardOutcome
      sized m = outcome_sized forward R m (λ N. kept_after pairs N (section_of R k net)) k target (checks_of R k net contents) area scratch loader contents

      by : (m : ℕ) → sized (sizes_with true m) ≡ kept-all (sizes_with true m)
      by zero = refl
      by (suc m) = refl

  pub unlent-early : (n : ℕ) → n ≡ sizes_of R k target (length area) (length scratch) → 0 < n → change_outcome R net k target pairs area scratch loader contents ≡ kept-all n
  unlent-early n e h = unlent-sized n e ∙ ap kept-all (some n h)
    where
      some : (m : ℕ) → 0 < m → sizes_with true m ≡ m
      some zero l = absurd (omega arith)
      some (suc m) l = refl

  pub unlent-three : (n : ℕ) → n ≡ sizes_of R k target (length area) (length scratch) → n ≡ 0 → change_outcome R net k target pairs area scratch loader contents ≡ kept-all 3
  unlent-three n e z = unlent-sized n e ∙ ap (λ (m : ℕ). kept-all (sizes_with true m)) z
