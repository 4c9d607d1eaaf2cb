-- The members of a list that have a decided property, in the same order, and how many they are.
use Rattle.std.specs.Prelude.{◌≡◌, ◌↔◌}
use Rattle.std.proofs.Math.Path.{refl, ap}
use Rattle.std.proofs.Common.{sym, subst}
use mathlib.Core.List.{List, [], ◌∷◌, ◌++◌}
use Prim.Native.Nat.{ℕ, ◌+◌, ◌≤◌, ◌<◌, zero-le}
use native.Mathlib.Omega.{arith}
use Rattle.std.proofs.Math.ListN.{length}
use Rattle.sequences.specs.Member.{◌∈◌, here, there, not_in_nil, Within}
use Rattle.sequences.specs.Decide.{dec-¬}

-- 1 for yes, 0 for no.
unfoldable pub bit : {X : Type 0} → Dec X → ℕ
bit (yes x) = 1
bit (no n) = 0

pub bit-small : {X : Type 0} (d : Dec X) → bit d ≤ 1
unfolding bit
bit-small (yes x) = omega arith
bit-small (no n) = omega arith

pub bit_mono : {X Y : Type 0} → (X → Y) → (d : Dec X) (e : Dec Y) → bit d ≤ bit e
unfolding bit
bit_mono f (yes x) (yes y) = omega arith
bit_mono f (yes x) (no n) = absurd (n (f x))
bit_mono f (no n) e = zero-le

pub bit_yes : {X : Type 0} → X → (d : Dec X) → bit d ≡ 1
unfolding bit
bit_yes x (yes y) = refl
bit_yes x (no n) = absurd (n x)

pub bit_no : {X : Type 0} → ¬ X → (d : Dec X) → bit d ≡ 0
unfolding bit
bit_no m (yes y) = absurd (m y)
bit_no m (no n) = refl

pub bit_not : {X : Type 0} (d : Dec X) → bit d + bit (dec-¬ d) ≡ 1
unfolding bit dec-¬
bit_not (yes x) = refl
bit_not (no n) = refl

unfoldable pub keep_cons : {A X : Type 0} → Dec X → A → List A → List A
keep_cons (yes x) a l = a ∷ l
keep_cons (no n) a l = l

unfoldable pub keep : {A : Type 0} {P : A → Type 0} → ((a : A) → Dec (P a)) → List A → List A
unfolding keep_cons
keep p [] = []
keep p (a ∷ l) = keep_cons (p a) a (keep p l)

keep_cons-length : {A X : Type 0} (d : Dec X) (a : A) (l : List A) → length (keep_cons d a l) ≡ bit d + length l
unfolding keep_cons bit
keep_cons-length (yes x) a l = omega arith
keep_cons-length (no n) a l = omega arith

-- What a head adds to the count.
pub length-keep_cons : {A : Type 0} {P : A → Type 0} (p : (a : A) → Dec (P a)) (a : A) (l : List A) → length (keep p (a ∷ l)) ≡ bit (p a) + length (keep p l)
unfolding keep
length-keep_cons p a l = keep_cons-length (p a) a (keep p l)

module _ {A : Type 0} {P : A → Type 0} (p : (a : A) → Dec (P a)) where
  pub keep_in : {a : A} {l : List A} → a ∈ l → P a → a ∈ keep p l
  unfolding keep
  keep_in {a} (here {x = b} {xs = l} e) q = go (p b)
    where
      go : (d : Dec (P b)) → a ∈ keep_cons d b (keep p l)
      go (yes x) = here e
      go (no n) = absurd (n (subst P e q))
  keep_in {a} (there {x = b} {xs = l} h) q = go (p b) (keep_in h q)
    where
      go : (d : Dec (P b)) → a ∈ keep p l → a ∈ keep_cons d b (keep p l)
      go (yes x) m = there m
      go (no n) m = m

  pub in_keep : {a : A} (l : List A) → a ∈ keep p l → (a ∈ l) × P a
  unfolding keep
  in_keep [] h = absurd (not_in_nil h)
  in_keep {a} (b ∷ l) h = go (in_keep l) (p b) h
    where
      tail : (a ∈ l) × P a → (a ∈ b ∷ l) × P a
      tail r = (there r.0, r.1)

      go : (a ∈ keep p l → (a ∈ l) × P a) → (d : Dec (P b)) → a ∈ keep_cons d b (keep p l) → (a ∈ b ∷ l) × P a
      go rest (yes x) (here e) = (here e, subst P (sym e) x)
      go rest (yes x) (there m) = tail (rest m)
      go rest (no n) m = tail (rest m)

  pub keep-within : (l : List A) → Within (keep p l) l
  keep-within l a h = (in_keep l h).0

  pub length-keep : (l : List A) → length (keep p l) ≤ length l
  length-keep [] = unfold keep in zero-le
  length-keep (b ∷ l) = omega (arith, length-keep l, length-keep_cons p b l, bit-small (p b))

  -- What is kept and what is left out make the whole.
  pub keep-rest : (l : List A) → length (keep p l) + length (keep (λ a. dec-¬ (p a)) l) ≡ length l
  keep-rest [] = unfold keep in refl
  keep-rest (b ∷ l) = omega (arith, keep-rest l, length-keep_cons p b l, length-keep_cons (λ a. dec-¬ (p a)) b l, bit_not (p b))

  pub keep_append : (l m : List A) → keep p (l ++ m) ≡ keep p l ++ keep p m
  unfolding keep
  keep_append [] m = refl
  keep_append (b ∷ l) m = go (p b) (keep_append l m)
    where
      go : (d : Dec (P b)) → keep p (l ++ m) ≡ keep p l ++ keep p m → keep_cons d b (keep p (l ++ m)) ≡ keep_cons d b (keep p l) ++ keep p m
      go (yes x) e = ap {B = List A} (λ r. b ∷ r) e
      go (no n) e = e

module _ {A : Type 0} {P Q : A → Type 0} (p : (a : A) → Dec (P a)) (q : (a : A) → Dec (Q a)) where
  pub keep_same : (l : List A) → ((a : A) → a ∈ l → P a ↔ Q a) → keep p l ≡ keep q l
  unfolding keep
  keep_same [] f = refl
  keep_same (b ∷ l) f = go (p b) (q b) (f b (here refl)) (keep_same l (λ a h. f a (there h)))
    where
      go : (d : Dec (P b)) (e : Dec (Q b)) → P b ↔ Q b → keep p l ≡ keep q l → keep_cons d b (keep p l) ≡ keep_cons e b (keep q l)
      go (yes x) (yes y) g r = ap {B = List A} (λ m. b ∷ m) r
      go (yes x) (no n) g r = absurd (n (g.0 x))
      go (no n) (yes y) g r = absurd (n (g.1 y))
      go (no n) (no m) g r = r

  pub keep-bits : (l : List A) → ((a : A) → a ∈ l → bit (p a) ≤ bit (q a)) → length (keep p l) ≤ length (keep q l)
  keep-bits [] f = unfold keep in zero-le
  keep-bits (b ∷ l) f = omega (arith, keep-bits l (λ a h. f a (there h)), f b (here refl), length-keep_cons p b l, length-keep_cons q b l)

  pub keep_mono : (l : List A) → ((a : A) → a ∈ l → P a → Q a) → length (keep p l) ≤ length (keep q l)
  keep_mono l f = keep-bits l (λ a h. bit_mono (f a h) (p a) (q a))

  -- Fewer are kept where some member has Q and not P.
  pub keep_strict : (l : List A) → ((a : A) → a ∈ l → P a → Q a) → (b : A) → b ∈ l → Q b → ¬ P b → length (keep p l) < length (keep q l)
  keep_strict [] f b h y n = absurd (not_in_nil h)
  keep_strict (c ∷ l) f b h y n = go h (λ k. keep_strict l (λ a i. f a (there i)) b k y n)
    where
      head : length (keep p l) ≤ length (keep q l)
      head = keep_mono l (λ a i. f a (there i))

      go : b ∈ c ∷ l → (b ∈ l → length (keep p l) < length (keep q l)) → length (keep p (c ∷ l)) < length (keep q (c ∷ l))
      go (here e) rest = omega (arith, head, length-keep_cons p c l, length-keep_cons q c l, bit_yes (subst Q e y) (q c), bit_no (λ x. n (subst P (sym e) x)) (p c))
      go (there k) rest = omega (arith, rest k, length-keep_cons p c l, length-keep_cons q c l, bit_mono (f c (here refl)) (p c) (q c))

  -- From fewer, no more are kept.
  pub keep-keep-length : (l : List A) → length (keep q (keep p l)) ≤ length (keep q l)
  unfolding keep
  keep-keep-length [] = zero-le
  keep-keep-length (b ∷ l) = go (p b) (keep-keep-length l)
    where
      go : (d : Dec (P b)) → length (keep q (keep p l)) ≤ length (keep q l) → length (keep q (keep_cons d b (keep p l))) ≤ length (keep q (b ∷ l))
      go (yes x) r = omega (arith, length-keep_cons q b (keep p l), length-keep_cons q b l)
      go (no n) r = omega (arith, length-keep_cons q b l)

module _ {A : Type 0} {P Q R S : A → Type 0} (p : (a : A) → Dec (P a)) (q : (a : A) → Dec (Q a)) (r : (a : A) → Dec (R a)) (s : (a : A) → Dec (S a)) where
  pub keep-count : (l : List A) → ((a : A) → a ∈ l → bit (p a) + bit (q a) ≤ bit (r a) + bit (s a)) → length (keep p l) + length (keep q l) ≤ length (keep r l) + length (keep s l)
  keep-count [] f = unfold keep in omega arith
  keep-count (b ∷ l) f =
      omega (
        arith,
        keep-count l (λ a h. f a (there h)),
        f b (here refl),
        length-keep_cons p b l,
        length-keep_cons q b l,
        length-keep_cons r b l,
        length-keep_cons s b l,
      )
