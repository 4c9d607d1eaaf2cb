-- What a test of all numbers from one up to another, or of any of them, comes to.
use Rattle.std.specs.Prelude.{◌≡◌, Bool, true, ℕ, ◌+◌, ◌-◌, ◌≤◌, ◌<◌, length, MatchBool}
use Rattle.std.specs.List.{range_with_len, AllWithin, HoldsAt}
use Rattle.std.proofs.Common.{subst, ◌∙◌, arith, zero-le}
use Rattle.std.proofs.lemmas.List.FromFn.{length-range_with_len, get_or-range_with_len}

-- P of each item of the list of these numbers
abbrev Each : (ℕ → Type 0) → ℕ → ℕ → Type 0
Each P a b = AllWithin P (range_with_len a (b - a)) 0 (length (range_with_len a (b - a)))

-- P of some item
abbrev OneOf : (ℕ → Type 0) → ℕ → ℕ → Type 0
OneOf P a b = (k : ℕ) × (k < length (range_with_len a (b - a))) × HoldsAt P (range_with_len a (b - a)) k

module _ (P : ℕ → Type 0) (a b : ℕ) where
  each : Each P a b → (u : ℕ) → a ≤ u → u < b → P u
  each h u l m =
      let n : u - a < b - a = omega arith in
      let e : a + (u - a) ≡ u = omega arith in
      subst P (get_or-range_with_len a (b - a) (u - a) 0 n ∙ e) (h (u - a) 0 zero-le (omega (arith, length-range_with_len a (b - a))))

  some : OneOf P a b → (u : ℕ) × (a ≤ u) × (u < b) × P u
  some h =
      let x = h.1 in
      let l : h.0 < b - a = omega (arith, length-range_with_len a (b - a)) in
      (a + h.0, omega arith, omega arith, subst P (get_or-range_with_len a (b - a) h.0 0 l) (h.2 0))

module _ (P Q : ℕ → Type 0) (a b : ℕ) where
  -- `all` says yes
  pub all_yes : (r : Bool) → MatchBool r (Each P a b) (OneOf Q a b) → r ≡ true → (u : ℕ) → a ≤ u → u < b → P u
  all_yes r h e = each P a b (subst (λ (x : Bool). MatchBool x (Each P a b) (OneOf Q a b)) e h)

  -- `any` says yes
  pub any_yes : (r : Bool) → MatchBool r (OneOf P a b) (Each Q a b) → r ≡ true → (u : ℕ) × (a ≤ u) × (u < b) × P u
  any_yes r h e = some P a b (subst (λ (x : Bool). MatchBool x (OneOf P a b) (Each Q a b)) e h)
