-- All the parts of a list.
use Rattle.std.specs.Prelude.{◌≡◌, ◌⊎◌}
use Rattle.std.proofs.Math.Path.{refl}
use Rattle.std.proofs.Common.{sym, subst}
use Rattle.std.proofs.Math.Logic.{inl, inr}
use mathlib.Core.List.{List, [], ◌∷◌, ◌++◌, map}
use Rattle.sequences.specs.Member.{◌∈◌, here, there, not_in_nil, Within, in_append_left, in_append_right, in_append_cases, in_map, map_in}
use Rattle.sequences.specs.Decide.{any?}
use Rattle.sequences.specs.Keep.{keep, keep_cons}
use Rattle.sequences.specs.Distinct.{Distinct, distinct_nil, distinct_cons, within_cons}

module _ {A : Type 0} where
  -- The lists that are left when elements are struck out.
  unfoldable pub subsets : List A → List (List A)
  subsets [] = [] ∷ []
  subsets (a ∷ l) = let rest = subsets l in map (λ s. a ∷ s) rest ++ rest

  pub keep_subset : {P : A → Type 0} (p : (a : A) → Dec (P a)) (l : List A) → keep p l ∈ subsets l
  unfolding keep subsets
  keep_subset p [] = here refl
  keep_subset {P} p (a ∷ l) = go (p a) (keep_subset p l)
    where
      go : (d : Dec (P a)) → keep p l ∈ subsets l → keep_cons d a (keep p l) ∈ map (λ s. a ∷ s) (subsets l) ++ subsets l
      go (yes x) h = in_append_left (subsets l) (in_map (λ s. a ∷ s) h)
      go (no n) h = in_append_right (map (λ s. a ∷ s) (subsets l)) h

  subsets-cases : (a : A) (l : List A) {s : List A} → s ∈ subsets (a ∷ l) → ((t : List A) × (t ∈ subsets l) × (s ≡ a ∷ t)) ⊎ (s ∈ subsets l)
  unfolding subsets
  subsets-cases a l {s} h = go (in_append_cases (map (λ t. a ∷ t) (subsets l)) h)
    where
      go : (s ∈ map (λ t. a ∷ t) (subsets l)) ⊎ (s ∈ subsets l) → ((t : List A) × (t ∈ subsets l) × (s ≡ a ∷ t)) ⊎ (s ∈ subsets l)
      go (inl k) = inl (map_in (λ t. a ∷ t) (subsets l) k)
      go (inr k) = inr k

  subsets_nil : {s : List A} → s ∈ subsets [] → s ≡ []
  unfolding subsets
  subsets_nil (here e) = e
  subsets_nil (there h) = absurd (not_in_nil h)

  pub subset_within : (l : List A) {s : List A} → s ∈ subsets l → Within s l
  subset_within [] h = subst (λ (t : List A). Within t []) (sym (subsets_nil h)) (λ c k. k)
  subset_within (a ∷ l) {s} h = go (λ (t : List A). subset_within l {s = t}) (subsets-cases a l h)
    where
      go : ((t : List A) → t ∈ subsets l → Within t l) → ((t : List A) × (t ∈ subsets l) × (s ≡ a ∷ t)) ⊎ (s ∈ subsets l) → Within s (a ∷ l)
      go rest (inl r) = subst (λ (t : List A). Within t (a ∷ l)) (sym r.2) (within_cons (here refl) (λ c k. there (rest r.0 r.1 c k)))
      go rest (inr k) = λ c i. there (rest s k c i)

  pub subset_distinct : {l s : List A} → Distinct l → s ∈ subsets l → Distinct s
  subset_distinct distinct_nil h = subst Distinct (sym (subsets_nil h)) distinct_nil
  subset_distinct {s} (distinct_cons {a = a} {l = l} n d) h = go (λ (t : List A). subset_distinct {s = t} d) (subsets-cases a l h)
    where
      go : ((t : List A) → t ∈ subsets l → Distinct t) → ((t : List A) × (t ∈ subsets l) × (s ≡ a ∷ t)) ⊎ (s ∈ subsets l) → Distinct s
      go rest (inl r) = subst Distinct (sym r.2) (distinct_cons (λ k. n (subset_within l r.1 a k)) (rest r.0 r.1))
      go rest (inr k) = rest s k

  unfoldable pub any_subset? : (Q : List A → Type 0) → ((s : List A) → Dec (Q s)) → (l : List A) → Dec ((s : List A) × (s ∈ subsets l) × Q s)
  unfolding any? subsets
  any_subset? Q d l = any? (subsets l) (λ s h. d s)
