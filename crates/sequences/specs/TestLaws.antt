-- Laws of tests and of searches over places.
use Rattle.std.specs.Prelude.{◌≡◌, refl, Bool, true, false, not, ℕ, ◌≤◌, ◌<◌}
use Rattle.std.proofs.Common.{true≢false, arith}
use Rattle.std.proofs.lemmas.Bool.{false≢true}
use Rattle.sequences.specs.Tests.{Tells, First}

pub tells_no : {P : Type 0} → ¬ P → Tells false P
tells_no n = record { holds = λ e. absurd (false≢true e); fails = λ e. n }

pub tells_yes : {P : Type 0} → P → Tells true P
tells_yes p = record { holds = λ e. p; fails = λ e. absurd (true≢false e) }

-- whether some number below n has P, and whether all have
pub tells-some : (P : ℕ → Type 0) (n j : ℕ) → j < n → P j → Tells true ((i : ℕ) × (i < n) × P i)
tells-some P n j h p = tells_yes (j, h, p)

pub tells_none : (P : ℕ → Type 0) (n j : ℕ) → n ≤ j → ((i : ℕ) → i < j → ¬ P i) → Tells false ((i : ℕ) × (i < n) × P i)
tells_none P n j h f = tells_no (λ q. f q.0 (omega (arith, q.1)) q.2)

pub tells_all : (P : ℕ → Type 0) (n j : ℕ) → n ≤ j → ((i : ℕ) → i < j → P i) → Tells true ((i : ℕ) → i < n → P i)
tells_all P n j h f = tells_yes (λ i k. f i (omega arith))

pub tells-not : (P : ℕ → Type 0) (n j : ℕ) → j < n → ¬ P j → Tells false ((i : ℕ) → i < n → P i)
tells-not P n j h p = tells_no (λ f. p (f j h))

-- the first number below n with P
pub first-here : (P : ℕ → Type 0) (n r : ℕ) → r < n → P r → ((j : ℕ) → j < r → ¬ P j) → First P n r
first-here P n r h p b = record { bound = omega arith; found = λ k. p; before = b }

pub first-none : (P : ℕ → Type 0) (n : ℕ) → ((j : ℕ) → j < n → ¬ P j) → First P n n
first-none P n b = record { bound = omega arith; found = λ k. absurd (self k); before = b }
  where
    self : n < n → ⊥
    self k = omega arith

pub first-all : {P : ℕ → Type 0} {n r : ℕ} → First P n r → n ≤ r → (j : ℕ) → j < n → ¬ P j
first-all f h j k = f.before j (let a = f.bound in omega arith)

-- P holds, and Q is tested
pub tells-without : {P Q : Type 0} {r : Bool} → P → Tells r Q → Tells (not r) (P × (¬ Q))
tells-without {r = true} p t = record { holds = λ e. absurd (false≢true e); fails = λ e x. x.1 (t.holds refl) }
tells-without {r = false} p t = record { holds = λ e. (p, t.fails refl); fails = λ e. absurd (true≢false e) }
