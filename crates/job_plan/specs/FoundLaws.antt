-- Laws of the period found: from the least period, and from a target reached or not.
use Rattle.std.specs.Prelude.{◌≡◌, Option, refl, List, true, false, Bool, ℕ, ◌≤◌, ℤ}
use Rattle.std.proofs.Common.{subst, arith}
use Rattle.limits.specs.Limits.{most_period}
use Rattle.label_theory.specs.Labels.{Mode}
use Rattle.cut_circuit.specs.Circuit.{Circuit}
use Rattle.label_sweep.specs.Sweeps.{Labelled}
use Rattle.label_period.specs.PeriodSearch.{Period}
use Rattle.cut_circuit.specs.declared.Extent.{Extent}
use Rattle.label_visit.specs.LabelVisits.{wiring, tops_in, Fine}
use Rattle.job_plan.specs.Found.{cap_in, Found, Missed}

module _ {M : Mode} {C : Circuit} {k target : ℕ} {tops os oc : List ℕ} {n : ℕ} {ls : List ℤ} where
  pub found-least : {φ : ℕ} → C.gates ≤ most_period → target ≡ 0 → Period M C k tops os oc n ls φ → Found M C k target tops os oc n ls φ
  found-least few z p = record {
    fine = p.fine;
    positive = p.positive;
    bound = let m = p.most in omega arith;
    given = λ t. absurd (positive z t);
    least = λ e. p.least;
    labels = p.labels;
  }
    where
      positive : {x : ℕ} → x ≡ 0 → 1 ≤ x → ⊥
      positive e h = omega arith

  pub found_target : {b : Bool} → target ≤ most_period → ¬ (target ≡ 0) → Labelled M C k target tops os oc n ls b → b ≡ true → Found M C k target tops os oc n ls target
  found_target near z l e = record {
    fine = l.fine;
    positive = omega arith;
    bound = near;
    given = λ t. refl;
    least = λ q. absurd (z q);
    labels = λ N S P o. l.found e N S o;
  }

  pub found_none : {b : Bool} → ¬ (target ≡ 0) → Labelled M C k target tops os oc n ls b → b ≡ false → Fine C ls × Missed M C k target tops os oc n
  found_none z l e = (l.fine, (omega arith, l.none e))

-- the ceilings of a mode
module _ {M : Mode} {cap : Option ℕ} {k target : ℕ} (s : Extent) (net : List ℕ) (e : cap ≡ cap_in M) where
  pub found_cap : {os oc : List ℕ} {n : ℕ} {ls : List ℤ} {φ : ℕ} → Found M (wiring s net) k target (tops_in s net cap) os oc n ls φ → Found M (wiring s net) k target (tops_in s net (cap_in M)) os oc n ls φ
  found_cap {os} {oc} {n} {ls} {φ} f = subst (λ (x : Option ℕ). Found M (wiring s net) k target (tops_in s net x) os oc n ls φ) e f

  pub missed_cap : (os oc : List ℕ) (n : ℕ) → Missed M (wiring s net) k target (tops_in s net cap) os oc n → Missed M (wiring s net) k target (tops_in s net (cap_in M)) os oc n
  missed_cap os oc n f = subst (λ (x : Option ℕ). Missed M (wiring s net) k target (tops_in s net x) os oc n) e f
