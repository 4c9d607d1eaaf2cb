-- A rule whose values come from values of a smaller measure has one solution, and repeating it finds that.
use Rattle.std.specs.Prelude.{◌≡◌, refl, Bool}
use Rattle.std.proofs.Common.{sym, ap, ◌∙◌, arith}
use Prim.Native.Nat.{ℕ, zero, suc, ◌≤◌, ◌<◌}
use Rattle.run_theory.specs.Bench.{Rule, repeated}

-- a value comes from those of a smaller measure
pub record Causal (In : ℕ → Type 0) (F : Rule) (m : ℕ → ℕ → ℕ) : Type 0 where
  pub same : (f g : ℕ → ℕ → Bool) (v t : ℕ) → In v → ((w s : ℕ) → In w → m w s < m v t → f w s ≡ g w s) → F f v t ≡ F g v t

module _ {In : ℕ → Type 0} {F : Rule} {m : ℕ → ℕ → ℕ} (causal : Causal In F m) where
  -- repeating more often than the measure changes nothing
  enough : (n k v t : ℕ) → In v → m v t < n → m v t < k → repeated F n v t ≡ repeated F k v t
  unfolding repeated
  enough zero k v t i h l = absurd (omega arith)
  enough (suc n) zero v t i h l = absurd (omega arith)
  enough (suc n) (suc k) v t i h l = causal.same (repeated F n) (repeated F k) v t i (λ w s j b. enough n k w s j (omega arith) (omega arith))

  module _ (fuel : ℕ → ℕ → ℕ) (high : (v t : ℕ) → In v → m v t < fuel v t) where
    -- **there is a solution**
    pub solves : (v t : ℕ) → In v → repeated F (fuel v t) v t ≡ F (λ w s. repeated F (fuel w s) w s) v t
    unfolding repeated
    solves v t i =
        enough (fuel v t) (suc (m v t)) v t i (high v t i) (omega arith)
        ∙ causal.same (repeated F (m v t)) (λ w s. repeated F (fuel w s) w s) v t i (λ w s j b. enough (m v t) (fuel w s) w s j b (high w s j))

  once : (f : ℕ → ℕ → Bool) → ((v t : ℕ) → In v → f v t ≡ F f v t) → (n v t : ℕ) → In v → m v t < n → f v t ≡ repeated F n v t
  unfolding repeated
  once f solution zero v t i h = absurd (omega arith)
  once f solution (suc n) v t i h = solution v t i ∙ causal.same f (repeated F n) v t i (λ w s j b. once f solution n w s j (omega arith))

  -- **and only one**
  pub solved_once : (fuel : ℕ → ℕ → ℕ) → ((v t : ℕ) → In v → m v t < fuel v t) → (f : ℕ → ℕ → Bool) → ((v t : ℕ) → In v → f v t ≡ F f v t)
      → (v t : ℕ) → In v → f v t ≡ repeated F (fuel v t) v t
  solved_once fuel high f solution v t i = once f solution (fuel v t) v t i (high v t i)
