-- Sums of numbers over a list.
use Rattle.std.specs.Prelude.{◌≡◌, ◌⊎◌}
use Rattle.std.proofs.Math.Path.{refl, ap}
use Rattle.std.proofs.Common.{sym, inl, inr}
use mathlib.Core.List.{List, [], ◌∷◌, ◌++◌}
use Prim.Native.Nat.{ℕ, ◌+◌, ◌*◌, ◌≤◌, zero-le}
use Rattle.std.proofs.Math.Nat.{suc-mul, mul-add, mul-le-mul_right, le_trans, le_of_eq}
use native.Mathlib.Omega.{arith}
use Rattle.std.proofs.Math.ListN.{length}
use Rattle.sequences.specs.Member.{◌∈◌, here, there, not_in_nil, in_equal, Within}
use Rattle.sequences.specs.Decide.{dec-¬}
use Rattle.sequences.specs.Keep.{keep, keep_cons, in_keep, keep-keep-length}
use Rattle.sequences.specs.Distinct.{Distinct, distinct_nil, distinct_cons, remove, remove-cases}

unfoldable pub sum : {A : Type 0} → (A → ℕ) → List A → ℕ
sum f [] = 0
sum f (a ∷ l) = f a + sum f l

module _ {A : Type 0} where
  pub sum_mono : (f g : A → ℕ) (l : List A) → ((a : A) → a ∈ l → f a ≤ g a) → sum f l ≤ sum g l
  unfolding sum
  sum_mono f g [] h = zero-le
  sum_mono f g (b ∷ l) h = omega (arith, h b (here refl), sum_mono f g l (λ a k. h a (there k)))

  pub sum_same : (f g : A → ℕ) (l : List A) → ((a : A) → a ∈ l → f a ≡ g a) → sum f l ≡ sum g l
  unfolding sum
  sum_same f g [] h = refl
  sum_same f g (b ∷ l) h = omega (arith, h b (here refl), sum_same f g l (λ a k. h a (there k)))

  -- Sums of at most c each.
  pub sum-at-most : (f : A → ℕ) (c : ℕ) (l : List A) → ((a : A) → a ∈ l → f a ≤ c) → sum f l ≤ length l * c
  unfolding sum
  sum-at-most f c [] h = zero-le
  sum-at-most f c (b ∷ l) h = omega (arith, h b (here refl), sum-at-most f c l (λ a k. h a (there k)), suc-mul (length l) c)

  module _ (f : A → ℕ) where
    pub sum_append : (l m : List A) → sum f (l ++ m) ≡ sum f l + sum f m
    unfolding sum
    sum_append [] m = omega arith
    sum_append (b ∷ l) m = omega (arith, sum_append l m)

    pub in_sum : {a : A} {l : List A} → a ∈ l → f a ≤ sum f l
    unfolding sum
    in_sum (here {x = b} {xs = l} e) = omega (arith, ap f e)
    in_sum (there h) = omega (arith, in_sum h)

    pub sum-remove : {a : A} {l : List A} (h : a ∈ l) → sum f l ≡ f a + sum f (remove h)
    unfolding sum remove
    sum-remove (here e) = omega (arith, ap f e)
    sum-remove (there h) = omega (arith, sum-remove h)

    -- A sum over distinct elements of m is at most the sum over m.
    pub sum-within : {l m : List A} → Distinct l → Within l m → sum f l ≤ sum f m
    unfolding sum
    sum-within distinct_nil w = zero-le
    sum-within (distinct_cons {a = a} {l = l} n d) w =
        omega (arith, sum-remove (w a (here refl)), sum-within d (λ c i. inside c i (remove-cases (w a (here refl)) c (w c (there i)))))
      where
        inside : (c : A) → c ∈ l → (c ≡ a) ⊎ (c ∈ remove (w a (here refl))) → c ∈ remove (w a (here refl))
        inside c i (inl e) = absurd (n (in_equal (sym e) i))
        inside c i (inr j) = j

    pub sum-keep-rest : {P : A → Type 0} (p : (a : A) → Dec (P a)) (l : List A) → sum f (keep p l) + sum f (keep (λ a. dec-¬ (p a)) l) ≡ sum f l
    unfolding sum keep dec-¬
    sum-keep-rest p [] = refl
    sum-keep-rest {P} p (b ∷ l) = go (p b) (sum-keep-rest p l)
      where
        go : (d : Dec (P b)) → sum f (keep p l) + sum f (keep (λ a. dec-¬ (p a)) l) ≡ sum f l → sum f (keep_cons d b (keep p l)) + sum f (keep_cons (dec-¬ d) b (keep (λ a. dec-¬ (p a)) l)) ≡ f b + sum f l
        go (yes x) e = omega arith
        go (no n) e = omega arith

module _ {A B : Type 0} (eq : Discrete B) (g : A → B) (f : B → ℕ) where
  -- A sum by values, with at most k elements to a value.
  pub sum_by : (l : List A) (values : List B) → ((a : A) → a ∈ l → g a ∈ values) → (k : ℕ) → ((b : B) → b ∈ values → length (keep (λ a. eq (g a) b) l) ≤ k) → sum (λ a. f (g a)) l ≤ k * sum f values
  unfolding sum
  sum_by [] [] w k few = zero-le
  sum_by (a ∷ l) [] w k few = absurd (not_in_nil (w a (here refl)))
  sum_by l (b ∷ values) w k few =
      let other : List A = keep (λ a. dec-¬ (eq (g a) b)) l in
      let same : List A = keep (λ a. eq (g a) b) l in
      let rest : sum (λ a. f (g a)) other ≤ k * sum f values = sum_by other values
      (λ a h. let r = in_keep (λ c. dec-¬ (eq (g c) b)) l h in go a r.1 (w a r.0))
      k
      (λ c h. le_trans (keep-keep-length (λ a. dec-¬ (eq (g a) b)) (λ a. eq (g a) c) l) (few c (there h))) in
      let part : sum (λ a. f (g a)) same ≤ length same * f b = sum-at-most (λ a. f (g a)) (f b) same (λ a h. le_of_eq (ap f (in_keep (λ c. eq (g c) b) l h).1)) in
      omega (arith, sum-keep-rest (λ a. f (g a)) (λ a. eq (g a) b) l, mul-le-mul_right (f b) (few b (here refl)), mul-add k (f b) (sum f values))
    where
      go : (a : A) → ¬ (g a ≡ b) → g a ∈ b ∷ values → g a ∈ values
      go a n (here e) = absurd (n e)
      go a n (there h) = h
