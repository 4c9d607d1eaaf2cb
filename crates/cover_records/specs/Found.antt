-- What map finds for a target, in each mode: no key and nothing written, or a key for the period that is asked for.
use Rattle.std.specs.Prelude.{◌≡◌}
use Rattle.std.proofs.Math.Path.{refl}
use Prim.Native.Nat.{ℕ, zero, suc, suc-le-suc, zero-le}
use native.Mathlib.Omega.{arith}
use Rattle.net_model.specs.Net.{Net}
use Rattle.net_model.specs.Checks.{Passed}
use Rattle.label_theory.specs.Labels.{Mode}
use Rattle.cover_theory.specs.Key.{KeyIn}
use Rattle.cover_period.specs.Joined.{key_in?}
use Rattle.cover_period.specs.Period.{least_period_in, least_key_in}
use Rattle.cover_records.specs.Outcomes.{covered, unreachable, for_target, mapped_in}

module _ (M : Mode) {N : Net} {k : ℕ} (P : Passed N k) where
  pub data Found (target : ℕ) : Type 0 where
    none : ¬ (target ≡ 0) → ¬ KeyIn M N k target → mapped_in M N k target P ≡ unreachable → Found target
    some : (φ : ℕ) (K : KeyIn M N k φ) → (target ≡ 0 → φ ≡ least_period_in P M) → (¬ (target ≡ 0) → φ ≡ target) → mapped_in M N k target P ≡ covered φ K → Found target

  pub found : (target : ℕ) → Found target
  unfolding mapped_in for_target
  found zero = some (least_period_in P M) (least_key_in P M) (λ e. refl) (λ n. absurd (n refl)) refl
  found (suc t) = go (key_in? P (suc-le-suc zero-le) M) refl
    where
      not-zero : ¬ (suc t ≡ 0)
      not-zero e = omega arith

      go : (d : Dec (KeyIn M N k (suc t))) → mapped_in M N k (suc t) P ≡ for_target N k (suc t) d → Found (suc t)
      go (yes K) e = some (suc t) K (λ z. absurd (not-zero z)) (λ z. refl) e
      go (no n) e = none not-zero n e
