-- What the definition of map writes for a net that passed: nothing where the target is not reachable, else a cover with the period that is kept.
use Rattle.std.specs.Prelude.{◌≡◌}
use Rattle.std.proofs.Math.Path.{refl, subst, path_j}
use Rattle.std.proofs.Common.{sym}
use Prim.Native.Nat.{ℕ, zero, suc, ◌≤◌, suc-le-suc, zero-le}
use native.Mathlib.Omega.{arith}
use Rattle.net_model.specs.Net.{Net}
use Rattle.net_model.specs.Checks.{Passed}
use Rattle.label_theory.specs.Labels.{Mode, ReachableIn}
use Rattle.cover_theory.specs.Key.{KeyIn}
use Rattle.cover_period.specs.Joined.{key_in?}
use Rattle.cover_period.specs.Period.{least_key_in}
use Rattle.cover_records.specs.Kept.{Kept}
use Rattle.cover_records.specs.Outcomes.{MappedIn, covered, unreachable, for_target, mapped_in}
use Rattle.label_period.specs.PeriodSearchLaws.{first_unique}
use Rattle.job_plan.specs.Planned.{Covered}

module _ (M : Mode) {N : Net} {k : ℕ} (P : Passed N k) where
  -- no key, no cover
  target_none : (φ : ℕ) (d : Dec (KeyIn M N k φ)) → ¬ ReachableIn M N k φ → for_target N k φ d ≡ unreachable
  unfolding for_target
  target_none φ (yes K) n = absurd (n (record { label = K.label; least = K.least; outputs = K.outputs }))
  target_none φ (no m) n = refl

  pub mapped-none : (target : ℕ) → 1 ≤ target → ¬ ReachableIn M N k target → mapped_in M N k target P ≡ unreachable
  unfolding mapped_in
  mapped-none zero h n = absurd (zero-none h)
    where
      zero-none : 1 ≤ 0 → ⊥
      zero-none h = omega arith
  mapped-none (suc t) h n = target_none (suc t) (key_in? P (suc-le-suc zero-le) M) n

  -- a cover with a key for the same period
  pub record MappedTo (φ : ℕ) (m : MappedIn M N k) : Type 0 where
    pub key : KeyIn M N k φ
    pub is : m ≡ covered φ key

  target-some : (φ : ℕ) (d : Dec (KeyIn M N k φ)) → KeyIn M N k φ → MappedTo φ (for_target N k φ d)
  unfolding for_target
  target-some φ (yes K) J = record { key = K; is = refl }
  target-some φ (no n) J = absurd (n J)

  moved : {φ ψ : ℕ} (e : φ ≡ ψ) (K : KeyIn M N k φ) → MappedTo ψ (covered φ K)
  moved {φ} e K = path_j (λ (x : ℕ) (q : φ ≡ x). MappedTo x (covered φ K)) (record { key = K; is = refl }) e

  pub mapped-some : (target : ℕ) {a : Kept} → Covered M N k target a → MappedTo a.period (mapped_in M N k target P)
  unfolding mapped_in
  mapped-some zero c = moved (first_unique P (c.least refl)) (least_key_in P M)
  mapped-some (suc t) {a} c =
      let e : a.period ≡ suc t = c.given (suc-le-suc zero-le) in
      go e (target-some (suc t) (key_in? P (suc-le-suc zero-le) M) (subst (KeyIn M N k) e c.key))
    where
      go : {φ ψ : ℕ} {m : MappedIn M N k} → φ ≡ ψ → MappedTo ψ m → MappedTo φ m
      go {m = m} e f = subst (λ (x : ℕ). MappedTo x m) (sym e) f
