-- Laws of `ago`: only the difference of step and steps back counts; a section taken later goes on as the first would.
use Rattle.std.specs.Prelude.{◌≡◌, Bool}
use Rattle.std.proofs.Math.Path.{refl, ap}
use Rattle.std.proofs.Common.{sym, ◌∙◌, suc-add, zero-add, arith}
use Prim.Native.Nat.{ℕ, zero, suc, ◌+◌, ◌-◌, ◌≤◌, ◌<◌}
use Rattle.run_theory.specs.Bench.{ago}

module _ (past now : ℕ → Bool) where
  pub ago-same : (t n t' n' : ℕ) → t + n' ≡ t' + n → ago past now t n ≡ ago past now t' n'
  unfolding ago
  ago-same t zero t' zero e = ap now (omega arith)
  ago-same t zero zero (suc n') e = absurd (omega arith)
  ago-same t zero (suc t') (suc n') e = ago-same t zero t' n' (omega arith)
  ago-same zero (suc n) t' zero e = absurd (omega arith)
  ago-same zero (suc n) zero (suc n') e = ap past (omega arith)
  ago-same zero (suc n) (suc t') (suc n') e = ago-same zero (suc n) t' n' (omega arith)
  ago-same (suc t) (suc n) t' n' e = ago-same t n t' n' (omega arith)

  pub ago-now : (t n : ℕ) → n ≤ t → ago past now t n ≡ now (t - n)
  unfolding ago
  ago-now t zero h = ap now (omega arith)
  ago-now zero (suc n) h = absurd (omega arith)
  ago-now (suc t) (suc n) h = ago-now t n (omega arith) ∙ ap now (omega arith)

  -- a section taken at step T
  pub ago-shift : (T t n : ℕ) → ago (λ j. ago past now T (suc j)) (λ s. now (s + T)) t n ≡ ago past now (t + T) n
  unfolding ago
  ago-shift T t zero = refl
  ago-shift T zero (suc n) = ap (λ (s : ℕ). ago past now s (suc n)) (sym (zero-add T))
  ago-shift T (suc t) (suc n) = ago-shift T t n ∙ ap (λ (s : ℕ). ago past now s (suc n)) (sym (suc-add t T))

-- what is not looked at does not count
pub ago-agree : (past past' now now' : ℕ → Bool) (t n : ℕ) → ((j : ℕ) → j + t < n → past j ≡ past' j) → ((s : ℕ) → s + n ≡ t → now s ≡ now' s) → ago past now t n ≡ ago past' now' t n
unfolding ago
ago-agree past past' now now' t zero p q = q t (omega arith)
ago-agree past past' now now' zero (suc n) p q = p n (omega arith)
ago-agree past past' now now' (suc t) (suc n) p q = ago-agree past past' now now' t n (λ j h. p j (omega arith)) (λ s e. q s (omega arith))
