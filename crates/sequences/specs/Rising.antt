-- Lists whose elements rise strictly in an order, and sorting.
use Rattle.std.specs.Prelude.{◌≡◌, refl, ◌⊎◌, ℕ, zero, suc, ◌<◌}
use Rattle.std.proofs.Common.{sym, ap₂, ◌∙◌, inl, inr, arith}
use Rattle.std.proofs.Math.Path.{subst}
use mathlib.Core.List.{List, [], ◌∷◌}
use Rattle.std.proofs.Math.Decide.{dec_lt, ℕ_discrete}
use Rattle.sequences.specs.Member.{◌∈◌, here, there, not_in_nil, in_equal, Within}
use Rattle.sequences.specs.Decide.{up_to, count-from, count-from_in}
use Rattle.sequences.specs.Keep.{keep, keep_cons, keep-within}
use Rattle.sequences.specs.Distinct.{Distinct, distinct_nil, distinct_cons, within_cons}

-- a is below each element of l.
abbrev pub Above : {A : Type 0} → (A → A → Type 0) → A → List A → Type 0
Above {A} less a l = (b : A) → b ∈ l → less a b

-- Each element is below all that follow.
pub data Rising {A : Type 0} (◌≺◌ : A → A → Type 0) : List A → Type 0 where
  rising_nil : Rising ◌≺◌ []
  rising_cons : {a : A} {l : List A} → Above ◌≺◌ a l → Rising ◌≺◌ l → Rising ◌≺◌ (a ∷ l)

-- The elements of l, each once, rising.
pub record Sorted {A : Type 0} (◌≺◌ : A → A → Type 0) (l : List A) : Type 0 where
  pub list : List A
  pub rising : Rising ◌≺◌ list
  pub within : Within list l
  pub contains : Within l list

module _ {A : Type 0} {◌≺◌ : A → A → Type 0} where
  infix 4 ◌≺◌
  pub rising-above : {a : A} {l : List A} → Rising ◌≺◌ (a ∷ l) → Above ◌≺◌ a l
  rising-above (rising_cons h r) = h

  pub rising-tail : {a : A} {l : List A} → Rising ◌≺◌ (a ∷ l) → Rising ◌≺◌ l
  rising-tail (rising_cons h r) = r

  pub rising-keep : {P : A → Type 0} (p : (a : A) → Dec (P a)) {l : List A} → Rising ◌≺◌ l → Rising ◌≺◌ (keep p l)
  unfolding keep
  rising-keep p rising_nil = rising_nil
  rising-keep {P} p (rising_cons {a = a} {l = l} h r) = go (p a) (rising-keep p r)
    where
      go : (d : Dec (P a)) → Rising ◌≺◌ (keep p l) → Rising ◌≺◌ (keep_cons d a (keep p l))
      go (yes x) s = rising_cons (λ b k. h b (keep-within p l b k)) s
      go (no n) s = s

  module _ (trans : (a b c : A) → a ≺ b → b ≺ c → a ≺ c) where
    pub above-next : {a b : A} {l : List A} → a ≺ b → Above ◌≺◌ b l → Above ◌≺◌ a (b ∷ l)
    above-next {a} {b} h f c (here e) = subst (λ (x : A). a ≺ x) (sym e) h
    above-next {a} {b} h f c (there k) = trans a b c h (f c k)

    -- It is enough that each element is below the next.
    pub rising-next : {a b : A} {l : List A} → a ≺ b → Rising ◌≺◌ (b ∷ l) → Rising ◌≺◌ (a ∷ b ∷ l)
    rising-next h r = rising_cons (above-next h (rising-above r)) r

  module _ (irrefl : (a : A) → ¬ (a ≺ a)) where
    pub rising-distinct : {l : List A} → Rising ◌≺◌ l → Distinct l
    rising-distinct rising_nil = distinct_nil
    rising-distinct (rising_cons {a = a} h r) = distinct_cons (λ k. irrefl a (h a k)) (rising-distinct r)

    module _ (trans : (a b c : A) → a ≺ b → b ≺ c → a ≺ c) where
      rising-heads : {a b : A} {l m : List A} → Above ◌≺◌ a l → Above ◌≺◌ b m → a ∈ b ∷ m → b ∈ a ∷ l → a ≡ b
      rising-heads f g (here e) k = e
      rising-heads f g (there h) (here e) = sym e
      rising-heads {a} {b} f g (there h) (there k) = absurd (irrefl a (trans a b a (f b k) (g a h)))

      rising_tails : {a b : A} {l m : List A} → Above ◌≺◌ a l → a ≡ b → Within (a ∷ l) (b ∷ m) → Within l m
      rising_tails {a} {b} {l} {m} f e w c h = go (w c (there h))
        where
          go : c ∈ b ∷ m → c ∈ m
          go (here i) = absurd (irrefl a (f a (in_equal (e ∙ sym i) h)))
          go (there k) = k

      -- A rising list is known by its elements.
      pub rising_unique : {l m : List A} → Rising ◌≺◌ l → Rising ◌≺◌ m → Within l m → Within m l → l ≡ m
      rising_unique rising_nil rising_nil v w = refl
      rising_unique rising_nil (rising_cons {a = b} g s) v w = absurd (not_in_nil (w b (here refl)))
      rising_unique (rising_cons {a = a} f r) rising_nil v w = absurd (not_in_nil (v a (here refl)))
      rising_unique (rising_cons {a = a} {l = l} f r) (rising_cons {a = b} {l = m} g s) v w =
          let e : a ≡ b = rising-heads f g (v a (here refl)) (w b (here refl)) in
          ap₂ {C = List A} (λ x y. x ∷ y) e (rising_unique r s (rising_tails f e v) (rising_tails g (sym e) w))

module _ {A : Type 0} {◌≺◌ : A → A → Type 0} where
  infix 4 ◌≺◌
  module _ (cmp : (a b : A) → (a ≺ b) ⊎ ((a ≡ b) ⊎ (b ≺ a))) where
    unfoldable pub insert-step : (a b : A) (l rest : List A) → (a ≺ b) ⊎ ((a ≡ b) ⊎ (b ≺ a)) → List A
    insert-step a b l rest (inl h) = a ∷ b ∷ l
    insert-step a b l rest (inr (inl e)) = b ∷ l
    insert-step a b l rest (inr (inr h)) = b ∷ rest

    -- a in its place in a rising list, unless it is there.
    unfoldable pub insert : A → List A → List A
    unfolding insert-step
    insert a [] = a ∷ []
    insert a (b ∷ l) = insert-step a b l (insert a l) (cmp a b)

    pub insert-within : (a : A) (l : List A) → Within (insert a l) (a ∷ l)
    unfolding insert insert-step
    insert-within a [] = λ c h. h
    insert-within a (b ∷ l) = go (cmp a b) (insert-within a l)
      where
        swap : Within (insert a l) (a ∷ l) → Within (insert a l) (a ∷ b ∷ l)
        swap w c h = shift (w c h)
          where
            shift : c ∈ a ∷ l → c ∈ a ∷ b ∷ l
            shift (here e) = here e
            shift (there k) = there (there k)

        go : (o : (a ≺ b) ⊎ ((a ≡ b) ⊎ (b ≺ a))) → Within (insert a l) (a ∷ l) → Within (insert-step a b l (insert a l) o) (a ∷ b ∷ l)
        go (inl h) w = λ c k. k
        go (inr (inl e)) w = λ c k. there k
        go (inr (inr h)) w = within_cons (there (here refl)) (swap w)

    pub insert-contains : (a : A) (l : List A) → Within (a ∷ l) (insert a l)
    unfolding insert insert-step
    insert-contains a [] = λ c h. h
    insert-contains a (b ∷ l) = go (cmp a b) (insert-contains a l)
      where
        go : (o : (a ≺ b) ⊎ ((a ≡ b) ⊎ (b ≺ a))) → Within (a ∷ l) (insert a l) → Within (a ∷ b ∷ l) (insert-step a b l (insert a l) o)
        go (inl h) w = λ c k. k
        go (inr (inl e)) w = within_cons (here e) (λ c k. k)
        go (inr (inr h)) w = within_cons (there (w a (here refl))) (within_cons (here refl) (λ c k. there (w c (there k))))

    module _ (trans : (a b c : A) → a ≺ b → b ≺ c → a ≺ c) where
      pub rising-insert : (a : A) {l : List A} → Rising ◌≺◌ l → Rising ◌≺◌ (insert a l)
      unfolding insert insert-step
      rising-insert a rising_nil = rising_cons (λ b h. absurd (not_in_nil h)) rising_nil
      rising-insert a (rising_cons {a = b} {l = l} f r) = go (cmp a b) (rising-insert a r)
        where
          above : b ≺ a → Above ◌≺◌ b (insert a l)
          above h c k = at c (insert-within a l c k)
            where
              at : (c : A) → c ∈ a ∷ l → b ≺ c
              at c (here e) = subst (λ (x : A). b ≺ x) (sym e) h
              at c (there i) = f c i

          go : (o : (a ≺ b) ⊎ ((a ≡ b) ⊎ (b ≺ a))) → Rising ◌≺◌ (insert a l) → Rising ◌≺◌ (insert-step a b l (insert a l) o)
          go (inl h) s = rising-next trans h (rising_cons f r)
          go (inr (inl e)) s = rising_cons f r
          go (inr (inr h)) s = rising_cons (above h) s

      pub sorted_cons : (a : A) {l : List A} → Sorted ◌≺◌ l → Sorted ◌≺◌ (a ∷ l)
      sorted_cons a r = record {
        list = insert a r.list;
        rising = rising-insert a r.rising;
        within = λ c h. within_cons (here refl) (λ d k. there (r.within d k)) c (insert-within a r.list c h);
        contains = within_cons (insert-contains a r.list a (here refl)) (λ c h. insert-contains a r.list c (there (r.contains c h)));
      }

      unfoldable pub sort : (l : List A) → Sorted ◌≺◌ l
      unfolding insert sorted_cons
      sort [] = record { list = []; rising = rising_nil; within = λ c h. h; contains = λ c h. h }
      sort (a ∷ l) = sorted_cons a (sort l)

-- The numbers in their order.
unfoldable pub ℕ_cmp : (a b : ℕ) → (a < b) ⊎ ((a ≡ b) ⊎ (b < a))
unfolding dec_lt ℕ_discrete
ℕ_cmp a b = go (dec_lt a b) (ℕ_discrete a b)
  where
    go : Dec (a < b) → Dec (a ≡ b) → (a < b) ⊎ ((a ≡ b) ⊎ (b < a))
    go (yes h) d = inl h
    go (no n) (yes e) = inr (inl e)
    go (no n) (no m) = inr (inr (omega arith))

pub rising-count-from : (b n : ℕ) → Rising ◌<◌ (count-from b n)
unfolding count-from
rising-count-from b zero = rising_nil
rising-count-from b (suc n) = rising_cons (λ i h. (count-from_in (suc b) n i h).0) (rising-count-from (suc b) n)

pub rising_up_to : (n : ℕ) → Rising ◌<◌ (up_to n)
unfolding up_to
rising_up_to n = rising-count-from zero n
