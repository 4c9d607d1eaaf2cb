-- Membership in a list.
use Rattle.std.specs.Prelude.{◌≡◌, refl, ◌⊎◌, ℕ, zero, suc, ◌<◌, length, get_or}
use Rattle.std.proofs.Common.{sym, ap, zero-le, suc-le-suc, not-suc-le-zero, le_of_suc-le-suc}
use mathlib.Core.List.Memᴰ
use mathlib.Core.List.{List, [], ◌∷◌, ◌++◌, map, Memᴰ}
pub use mathlib.Core.List.Memᴰ.{head as here}
pub use mathlib.Core.List.Memᴰ.{tail as there}

infix 4 ◌∈◌
abbrev pub ◌∈◌ : {A : Type 0} → A → List A → Type 0
a ∈ l = Memᴰ a l

module _ {A : Type 0} where
  -- Each element of the first list is one of the second.
  abbrev pub Within : List A → List A → Type 0
  Within l m = (a : A) → a ∈ l → a ∈ m

  pub within-refl : (l : List A) → Within l l
  within-refl l a h = h

  pub within_trans : {k l m : List A} → Within k l → Within l m → Within k m
  within_trans f g a h = g a (f a h)

  pub not_in_nil : {a : A} → a ∈ [] → ⊥
  not_in_nil h = Memᴰ.not-nil h

  -- An element equal to a member is a member.
  pub in_equal : {a b : A} {l : List A} → a ≡ b → b ∈ l → a ∈ l
  in_equal e h = Memᴰ.cast e h

  unfoldable pub memb_step : {a b : A} {l : List A} → Dec (a ≡ b) → Dec (a ∈ l) → Dec (a ∈ b ∷ l)
  memb_step (yes e) d = yes (here e)
  memb_step (no n) (yes h) = yes (there h)
  memb_step {a} {b} {l} (no n) (no m) = no nowhere
    where
      nowhere : a ∈ b ∷ l → ⊥
      nowhere (here e) = n e
      nowhere (there h) = m h

  unfoldable pub memb? : Discrete A → (a : A) (l : List A) → Dec (a ∈ l)
  unfolding memb_step
  memb? eq a [] = no not_in_nil
  memb? eq a (b ∷ l) = let rest = memb? eq a l in memb_step (eq a b) rest

  pub in_append_left : {a : A} {l : List A} (m : List A) → a ∈ l → a ∈ l ++ m
  in_append_left m h = Memᴰ.append_left m h

  pub in_append_right : {a : A} (l : List A) {m : List A} → a ∈ m → a ∈ l ++ m
  in_append_right l h = Memᴰ.append_right l h

  pub in_append_cases : {a : A} (l : List A) {m : List A} → a ∈ l ++ m → (a ∈ l) ⊎ (a ∈ m)
  in_append_cases l h = Memᴰ.append_cases l h

  -- Members stand at the places below the length.
  pub in_get_or : (l : List A) (i : ℕ) (d : A) → i < length l → get_or l i d ∈ l
  in_get_or [] i d h = absurd (not-suc-le-zero h)
  in_get_or (b ∷ l) zero d h = here refl
  in_get_or (b ∷ l) (suc i) d h = there (in_get_or l i d (le_of_suc-le-suc h))

  pub get_or_in : {a : A} {l : List A} → a ∈ l → (i : ℕ) × (i < length l) × ((d : A) → get_or l i d ≡ a)
  get_or_in (here e) = (zero, suc-le-suc zero-le, λ d. sym e)
  get_or_in (there h) =
      let r = get_or_in h in
      (suc r.0, suc-le-suc r.1, r.2)

module _ {A B : Type 0} where
  pub in_map : (f : A → B) {a : A} {l : List A} → a ∈ l → f a ∈ map f l
  in_map f (here e) = here (ap f e)
  in_map f (there h) = there (in_map f h)

  pub map_in : (f : A → B) {b : B} (l : List A) → b ∈ map f l → (a : A) × (a ∈ l) × (b ≡ f a)
  map_in f [] h = absurd (not_in_nil h)
  map_in f {b} (x ∷ l) h = go (map_in f l) h
    where
      go : (b ∈ map f l → (a : A) × (a ∈ l) × (b ≡ f a)) → b ∈ f x ∷ map f l → (a : A) × (a ∈ x ∷ l) × (b ≡ f a)
      go rest (here e) = (x, here refl, e)
      go rest (there m) = let r = rest m in (r.0, there r.1, r.2)
