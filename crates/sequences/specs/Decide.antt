-- Decisions: of products, sums, implications; of a property of each or of some member of a list, or of each or of some number below a bound; the
-- least and the greatest number with a decided property.
use Rattle.std.specs.Prelude.{◌≡◌, refl, ◌⊎◌, length}
use Rattle.std.proofs.Common.{sym, ap, subst, inl, inr, le_of_suc-le-suc, eq-or-lt_of_le, lt-suc_self, lt_irrefl, zero-add, arith}
use mathlib.Core.List.{List, [], ◌∷◌}
use Prim.Native.Nat.{ℕ, zero, suc, ◌+◌, ◌≤◌, ◌<◌, zero-le}
use Rattle.std.proofs.Math.Nat.{not-suc-le-zero, le_step, le_refl}
use Rattle.sequences.specs.Member.{◌∈◌, here, there, not_in_nil}

module _ {X Y : Type 0} where
  unfoldable pub dec-× : Dec X → Dec Y → Dec (X × Y)
  dec-× (yes x) (yes y) = yes (x, y)
  dec-× (yes x) (no n) = no (λ h. n h.1)
  dec-× (no n) d = no (λ h. n h.0)

  unfoldable pub dec-⊎ : Dec X → Dec Y → Dec (X ⊎ Y)
  dec-⊎ (yes x) d = yes (inl x)
  dec-⊎ (no n) (yes y) = yes (inr y)
  dec-⊎ (no n) (no m) = no neither
    where
      neither : X ⊎ Y → ⊥
      neither (inl x) = n x
      neither (inr y) = m y

  unfoldable pub dec-→ : Dec X → Dec Y → Dec (X → Y)
  dec-→ (no n) d = yes (λ x. absurd (n x))
  dec-→ (yes x) (yes y) = yes (λ z. y)
  dec-→ (yes x) (no m) = no (λ f. m (f x))

  -- A decision, carried along maps both ways.
  unfoldable pub dec_map : (X → Y) → (Y → X) → Dec X → Dec Y
  dec_map f g (yes x) = yes (f x)
  dec_map f g (no n) = no (λ y. n (g y))

unfoldable pub dec-¬ : {X : Type 0} → Dec X → Dec (¬ X)
dec-¬ (yes x) = no (λ n. n x)
dec-¬ (no n) = yes n

-- What is decided and not refuted holds.
pub dec_stable : {X : Type 0} → Dec X → ¬ (¬ X) → X
dec_stable (yes x) h = x
dec_stable (no n) h = absurd (h n)

module _ {A : Type 0} {P : A → Type 0} where
  pub all_cons : {b : A} {l : List A} → P b → ((a : A) → a ∈ l → P a) → (a : A) → a ∈ b ∷ l → P a
  all_cons p f a (here e) = subst P (sym e) p
  all_cons p f a (there h) = f a h

  unfoldable pub all-step : (b : A) (l : List A) → Dec (P b) → Dec ((a : A) → a ∈ l → P a) → Dec ((a : A) → a ∈ b ∷ l → P a)
  all-step b l (yes p) (yes f) = yes (all_cons p f)
  all-step b l (yes p) (no n) = no (λ f. n (λ a h. f a (there h)))
  all-step b l (no n) d = no (λ f. n (f b (here refl)))

  unfoldable pub all? : (l : List A) → ((a : A) → a ∈ l → Dec (P a)) → Dec ((a : A) → a ∈ l → P a)
  unfolding all-step
  all? [] d = yes (λ a h. absurd (not_in_nil h))
  all? (b ∷ l) d = let rest = all? l (λ a h. d a (there h)) in all-step b l (d b (here refl)) rest

  pub any_cons : {b : A} {l : List A} → ¬ P b → ¬ ((a : A) × (a ∈ l) × P a) → (a : A) → a ∈ b ∷ l → P a → ⊥
  any_cons n m a (here e) p = n (subst P e p)
  any_cons n m a (there h) p = m (a, h, p)

  unfoldable pub any_step : (b : A) (l : List A) → Dec (P b) → Dec ((a : A) × (a ∈ l) × P a) → Dec ((a : A) × (a ∈ b ∷ l) × P a)
  any_step b l (yes p) d = yes (b, here refl, p)
  any_step b l (no n) (yes r) = yes (r.0, there r.1, r.2)
  any_step b l (no n) (no m) = no (λ r. any_cons n m r.0 r.1 r.2)

  unfoldable pub any? : (l : List A) → ((a : A) → a ∈ l → Dec (P a)) → Dec ((a : A) × (a ∈ l) × P a)
  unfolding any_step
  any? [] d = no (λ r. not_in_nil r.1)
  any? (b ∷ l) d = let rest = any? l (λ a h. d a (there h)) in any_step b l (d b (here refl)) rest

module _ {A : Type 0} {P : A → Type 0} where
  -- Where not each member has a decided property, some member lacks it.
  pub not-all : (l : List A) → ¬ ((a : A) → a ∈ l → P a) → ((a : A) → a ∈ l → Dec (P a)) → (a : A) × (a ∈ l) × (¬ P a)
  not-all l n d = go (any? l (λ a h. dec-¬ (d a h)))
    where
      go : Dec ((a : A) × (a ∈ l) × (¬ P a)) → (a : A) × (a ∈ l) × (¬ P a)
      go (yes r) = r
      go (no m) = absurd (n (λ a h. dec_stable (d a h) (λ np. m (a, h, np))))

-- The numbers b, b + 1, .., n of them.
unfoldable pub count-from : ℕ → ℕ → List ℕ
count-from b zero = []
count-from b (suc n) = b ∷ count-from (suc b) n

-- The numbers below n, rising.
unfoldable pub up_to : ℕ → List ℕ
unfolding count-from
up_to n = count-from zero n

pub in_count-from : (b n i : ℕ) → b ≤ i → i < b + n → i ∈ count-from b n
unfolding count-from
in_count-from b zero i h k = absurd (lt_irrefl i (omega arith))
in_count-from b (suc n) i h k = go (λ l. in_count-from (suc b) n i l (omega arith)) (eq-or-lt_of_le h)
  where
    go : (b < i → i ∈ count-from (suc b) n) → (b ≡ i) ⊎ (b < i) → i ∈ b ∷ count-from (suc b) n
    go rest (inl e) = here (sym e)
    go rest (inr l) = there (rest l)

pub count-from_in : (b n i : ℕ) → i ∈ count-from b n → (b ≤ i) × (i < b + n)
unfolding count-from
count-from_in b zero i h = absurd (not_in_nil h)
count-from_in b (suc n) i h = go (count-from_in (suc b) n i) h
  where
    go : (i ∈ count-from (suc b) n → (suc b ≤ i) × (i < suc b + n)) → i ∈ b ∷ count-from (suc b) n → (b ≤ i) × (i < b + suc n)
    go rest (here e) = omega arith
    go rest (there m) = let r = rest m in omega arith

pub length-count-from : (b n : ℕ) → length (count-from b n) ≡ n
unfolding count-from
length-count-from b zero = refl
length-count-from b (suc n) = ap suc (length-count-from (suc b) n)

pub length_up_to : (n : ℕ) → length (up_to n) ≡ n
unfolding up_to
length_up_to n = length-count-from zero n

pub in_up_to : {i n : ℕ} → i < n → i ∈ up_to n
unfolding up_to
in_up_to {i} {n} h = in_count-from zero n i zero-le (omega arith)

pub up_to_in : {i n : ℕ} → i ∈ up_to n → i < n
unfolding up_to
up_to_in {i} {n} h = let r = count-from_in zero n i h in omega arith

module _ {P : ℕ → Type 0} where
  pub below_suc : {n : ℕ} → ((i : ℕ) → i < n → P i) → P n → (i : ℕ) → i < suc n → P i
  below_suc {n} f p i h = go (eq-or-lt_of_le (le_of_suc-le-suc h))
    where
      go : (i ≡ n) ⊎ (i < n) → P i
      go (inl e) = subst P (sym e) p
      go (inr l) = f i l

  unfoldable pub below_step : (n : ℕ) → Dec (P n) → Dec ((i : ℕ) → i < n → P i) → Dec ((i : ℕ) → i < suc n → P i)
  below_step n (yes p) (yes f) = yes (below_suc f p)
  below_step n (yes p) (no m) = no (λ f. m (λ i h. f i (le_step h)))
  below_step n (no m) d = no (λ f. m (f n (lt-suc_self n)))

  unfoldable pub below? : (n : ℕ) → ((i : ℕ) → i < n → Dec (P i)) → Dec ((i : ℕ) → i < n → P i)
  unfolding below_step
  below? zero d = yes (λ i h. absurd (not-suc-le-zero h))
  below? (suc n) d = let rest = below? n (λ i h. d i (le_step h)) in below_step n (d n (lt-suc_self n)) rest

  pub some-suc : {n : ℕ} → ¬ P n → ¬ ((i : ℕ) × (i < n) × P i) → (i : ℕ) → i < suc n → P i → ⊥
  some-suc {n} m f i h p = go (eq-or-lt_of_le (le_of_suc-le-suc h))
    where
      go : (i ≡ n) ⊎ (i < n) → ⊥
      go (inl e) = m (subst P e p)
      go (inr l) = f (i, l, p)

  unfoldable pub some-step : (n : ℕ) → Dec (P n) → Dec ((i : ℕ) × (i < n) × P i) → Dec ((i : ℕ) × (i < suc n) × P i)
  some-step n (yes p) d = yes (n, lt-suc_self n, p)
  some-step n (no m) (yes r) = yes (r.0, le_step r.1, r.2)
  some-step n (no m) (no f) = no (λ r. some-suc m f r.0 r.1 r.2)

  unfoldable pub some-below? : (n : ℕ) → ((i : ℕ) → i < n → Dec (P i)) → Dec ((i : ℕ) × (i < n) × P i)
  unfolding some-step
  some-below? zero d = no (λ r. not-suc-le-zero r.1)
  some-below? (suc n) d = let rest = some-below? n (λ i h. d i (le_step h)) in some-step n (d n (lt-suc_self n)) rest

-- The least number with the property, given one that has it.
pub record Least (P : ℕ → Type 0) (n : ℕ) : Type 0 where
  pub value : ℕ
  pub bound : value ≤ n
  pub holds : P value
  pub least : (j : ℕ) → j < value → ¬ P j

-- The greatest number up to b with the property, given one that has it.
pub record Greatest (P : ℕ → Type 0) (b n : ℕ) : Type 0 where
  pub value : ℕ
  pub above : n ≤ value
  pub bound : value ≤ b
  pub holds : P value
  pub greatest : (j : ℕ) → value < j → j ≤ b → ¬ P j

module _ (P : ℕ → Type 0) (dec : (n : ℕ) → Dec (P n)) where
  least-found : {m n : ℕ} → m ≤ n → P m → ((j : ℕ) → j < m → ¬ P j) → Least P n
  least-found {m} h p f = record { value = m; bound = h; holds = p; least = f }

  unfoldable pub least-from : (m k n : ℕ) → m + k ≡ n → P n → ((j : ℕ) → j < m → ¬ P j) → Least P n
  unfolding least-found
  least-from m zero n e p f = least-found (omega arith) (subst P (omega arith) p) f
  least-from m (suc k) n e p f = go (λ np. least-from (suc m) k n (omega arith) p (below_suc {P = λ j. ¬ P j} f np)) (dec m)
    where
      go : (¬ P m → Least P n) → Dec (P m) → Least P n
      go rest (yes q) = least-found (omega arith) q f
      go rest (no np) = rest np

  unfoldable pub least : (n : ℕ) → P n → Least P n
  unfolding least-from
  least n p = least-from zero n n (zero-add n) p (λ j h. absurd (not-suc-le-zero h))

  not_top : {b n : ℕ} → n ≤ suc b → P n → ¬ P (suc b) → n ≤ b
  not_top {b} {n} h p np = go (eq-or-lt_of_le h)
    where
      go : (n ≡ suc b) ⊎ (n < suc b) → n ≤ b
      go (inl e) = absurd (np (subst P e p))
      go (inr l) = le_of_suc-le-suc l

  pub greatest-step : {b n : ℕ} → Greatest P b n → ¬ P (suc b) → Greatest P (suc b) n
  greatest-step {b} {n} r np = record {
    value = r.value;
    above = r.above;
    bound = le_step r.bound;
    holds = r.holds;
    greatest = λ j k m p. r.greatest j k (not_top m p np) p;
  }

  unfoldable pub greatest : (b n : ℕ) → n ≤ b → P n → Greatest P b n
  unfolding greatest-step not_top
  greatest zero n h p = record { value = n; above = le_refl n; bound = h; holds = p; greatest = λ j k l. absurd (lt_irrefl j (omega arith)) }
  greatest (suc b) n h p = go (λ np. greatest b n (not_top h p np) p) (dec (suc b))
    where
      go : (¬ P (suc b) → Greatest P b n) → Dec (P (suc b)) → Greatest P (suc b) n
      go rest (yes q) = record { value = suc b; above = h; bound = le_refl (suc b); holds = q; greatest = λ j k l. absurd (lt_irrefl j (omega arith)) }
      go rest (no np) = greatest-step (rest np) np
