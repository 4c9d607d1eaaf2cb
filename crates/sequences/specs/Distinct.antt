-- Lists without repetition, and what follows from counting.
use Rattle.std.specs.Prelude.{◌≡◌, ◌⊎◌, length}
use Rattle.std.proofs.Math.Path.{refl, sym, ap}
use Rattle.std.proofs.Common.{subst, ◌∙◌, not-suc-le-zero, suc-mul, lt_irrefl, le_trans, arith}
use Rattle.std.proofs.Math.Logic.{inl, inr}
use mathlib.Core.List.{List, [], ◌∷◌, ◌++◌, map}
use Prim.Native.Nat.{ℕ, zero, suc, ◌*◌, ◌≤◌, zero-le}
use Rattle.sequences.specs.Member.{◌∈◌, here, there, not_in_nil, in_equal, Within, memb?, in_append_cases, map_in}
use Rattle.sequences.specs.Decide.{up_to, count-from, count-from_in, dec-¬}
use Rattle.sequences.specs.Keep.{keep, keep_cons, in_keep, keep-rest, keep-keep-length}

-- No element stands at two places.
pub data Distinct {A : Type 0} : List A → Type 0 where
  distinct_nil : Distinct []
  distinct_cons : {a : A} {l : List A} → ¬ (a ∈ l) → Distinct l → Distinct (a ∷ l)

module _ {A : Type 0} where
  pub distinct_head : {a : A} {l : List A} → Distinct (a ∷ l) → ¬ (a ∈ l)
  distinct_head (distinct_cons n d) = n

  pub distinct_tail : {a : A} {l : List A} → Distinct (a ∷ l) → Distinct l
  distinct_tail (distinct_cons n d) = d

  pub distinct-keep : {P : A → Type 0} (p : (a : A) → Dec (P a)) {l : List A} → Distinct l → Distinct (keep p l)
  unfolding keep
  distinct-keep p distinct_nil = distinct_nil
  distinct-keep {P} p (distinct_cons {a = b} {l = m} n d) = go (p b) (distinct-keep p d)
    where
      go : (x : Dec (P b)) → Distinct (keep p m) → Distinct (keep_cons x b (keep p m))
      go (yes x) r = distinct_cons (λ h. n (in_keep p m h).0) r
      go (no x) r = r

  -- The list without the place of a member.
  unfoldable pub remove : {a : A} {l : List A} → a ∈ l → List A
  remove (here {xs = l} e) = l
  remove (there {x = b} h) = b ∷ remove h

  pub length-remove : {a : A} {l : List A} (h : a ∈ l) → length l ≡ suc (length (remove h))
  unfolding remove
  length-remove (here e) = refl
  length-remove (there h) = ap suc (length-remove h)

  pub remove-cases : {a : A} {l : List A} (h : a ∈ l) (b : A) → b ∈ l → (b ≡ a) ⊎ (b ∈ remove h)
  unfolding remove
  remove-cases (here e) b (here f) = inl (f ∙ sym e)
  remove-cases (here e) b (there k) = inr k
  remove-cases (there h) b (here f) = inr (here f)
  remove-cases {a} (there {x = c} h) b (there k) = go (remove-cases h b k)
    where
      go : (b ≡ a) ⊎ (b ∈ remove h) → (b ≡ a) ⊎ (b ∈ c ∷ remove h)
      go (inl e) = inl e
      go (inr m) = inr (there m)

  pub remove-within : {a : A} {l : List A} (h : a ∈ l) → Within (remove h) l
  unfolding remove
  remove-within (here e) b k = there k
  remove-within (there h) b (here f) = here f
  remove-within (there h) b (there k) = there (remove-within h b k)

module _ {A B : Type 0} {R : A → B → Type 0} where
  -- Where each member of l has a partner in m, and no two share one, m is at least as long.
  pub inject : {l : List A} {m : List B} → Distinct l → ((a : A) → a ∈ l → (b : B) × (b ∈ m) × R a b) → ((a a' : A) (b : B) → R a b → R a' b → a ≡ a') → length l ≤ length m
  inject distinct_nil f one = zero-le
  inject {m} (distinct_cons {a = a} {l = l} n d) f one =
      let r = f a (here refl) in
      let rest : length l ≤ length (remove r.1) = inject d (λ c h. go r c h (f c (there h)) (remove-cases r.1 (f c (there h)).0 (f c (there h)).1)) one in
      omega (arith, length-remove r.1)
    where
      go : (r : (b : B) × (b ∈ m) × R a b) (c : A) → c ∈ l → (s : (b : B) × (b ∈ m) × R c b) → (s.0 ≡ r.0) ⊎ (s.0 ∈ remove r.1) → (b : B) × (b ∈ remove r.1) × R c b
      go r c h s (inl e) = absurd (n (in_equal (one a c r.0 r.2 (subst (R c) e s.2)) h))
      go r c h s (inr k) = (s.0, k, s.2)

module _ {A : Type 0} where
  pub pigeonhole : {l m : List A} → Distinct l → Within l m → length l ≤ length m
  pigeonhole d w = inject {R = λ a b. a ≡ b} d (λ a h. (a, w a h, refl)) (λ a c b e f. e ∙ sym f)

  -- Distinct elements of m, as many as m has places, are all of them.
  pub full : {l m : List A} → Distinct l → Within l m → length m ≤ length l → Within m l
  full {m = []} distinct_nil w h b k = k
  full {m = c ∷ m} distinct_nil w h b k = absurd (not-suc-le-zero h)
  full {m} (distinct_cons {a = a} {l = l} n d) w h b k =
      go (full d rest (omega (arith, length-remove (w a (here refl)))) b) (remove-cases (w a (here refl)) b k)
    where
      inside : (c : A) → c ∈ l → (c ≡ a) ⊎ (c ∈ remove (w a (here refl))) → c ∈ remove (w a (here refl))
      inside c i (inl e) = absurd (n (in_equal (sym e) i))
      inside c i (inr j) = j

      rest : Within l (remove (w a (here refl)))
      rest c i = inside c i (remove-cases (w a (here refl)) c (w c (there i)))

      go : (b ∈ remove (w a (here refl)) → b ∈ l) → (b ≡ a) ⊎ (b ∈ remove (w a (here refl))) → b ∈ a ∷ l
      go r (inl e) = here e
      go r (inr j) = there (r j)

pub distinct-count-from : (b n : ℕ) → Distinct (count-from b n)
unfolding count-from
distinct-count-from b zero = distinct_nil
distinct-count-from b (suc n) = distinct_cons (λ h. lt_irrefl b (count-from_in (suc b) n b h).0) (distinct-count-from (suc b) n)

pub distinct_up_to : (n : ℕ) → Distinct (up_to n)
unfolding up_to
distinct_up_to n = distinct-count-from zero n

module _ {A : Type 0} where
  pub distinct_append : {l m : List A} → Distinct l → Distinct m → ((a : A) → a ∈ l → a ∈ m → ⊥) → Distinct (l ++ m)
  distinct_append distinct_nil e f = e
  distinct_append {m} (distinct_cons {a = a} {l = l} n d) e f =
      distinct_cons (λ h. go (in_append_cases l h)) (distinct_append d e (λ b h. f b (there h)))
    where
      go : (a ∈ l) ⊎ (a ∈ m) → ⊥
      go (inl h) = n h
      go (inr h) = f a (here refl) h

  unfoldable pub distinct-step : {a : A} {l : List A} → Dec (a ∈ l) → Dec (Distinct l) → Dec (Distinct (a ∷ l))
  distinct-step (yes h) d = no (λ e. distinct_head e h)
  distinct-step (no n) (yes d) = yes (distinct_cons n d)
  distinct-step (no n) (no m) = no (λ e. m (distinct_tail e))

  unfoldable pub distinct? : Discrete A → (l : List A) → Dec (Distinct l)
  unfolding memb? distinct-step
  distinct? eq [] = yes distinct_nil
  distinct? eq (a ∷ l) = let rest = distinct? eq l in distinct-step (memb? eq a l) rest

module _ {A B : Type 0} where
  -- A map that tells the members of l apart.
  pub distinct-map-on : (f : A → B) {l : List A} → ((a c : A) → a ∈ l → c ∈ l → f a ≡ f c → a ≡ c) → Distinct l → Distinct (map f l)
  distinct-map-on f one distinct_nil = distinct_nil
  distinct-map-on f one (distinct_cons {a = a} {l = l} n d) =
      distinct_cons (λ h. let r = map_in f l h in n (in_equal (one a r.0 (here refl) (there r.1) r.2) r.1))
      (distinct-map-on f (λ b c h k. one b c (there h) (there k)) d)

  pub distinct-map : (f : A → B) {l : List A} → ((a c : A) → f a ≡ f c → a ≡ c) → Distinct l → Distinct (map f l)
  distinct-map f one d = distinct-map-on f (λ a c h k. one a c) d

-- The elements of l, each once.
pub record Dedup {A : Type 0} (l : List A) : Type 0 where
  pub list : List A
  pub distinct : Distinct list
  pub within : Within list l
  pub contains : Within l list

module _ {A : Type 0} where
  pub within_cons : {a : A} {l m : List A} → a ∈ m → Within l m → Within (a ∷ l) m
  within_cons h w b (here e) = in_equal e h
  within_cons h w b (there k) = w b k

  unfoldable pub dedup-step : {a : A} {l : List A} (r : Dedup l) → Dec (a ∈ r.list) → Dedup (a ∷ l)
  dedup-step r (yes h) = record {
    list = r.list;
    distinct = r.distinct;
    within = λ b k. there (r.within b k);
    contains = within_cons h r.contains;
  }
  dedup-step {a} r (no n) = record {
    list = a ∷ r.list;
    distinct = distinct_cons n r.distinct;
    within = within_cons (here refl) (λ b k. there (r.within b k));
    contains = within_cons (here refl) (λ b k. there (r.contains b k));
  }

  unfoldable pub dedup : Discrete A → (l : List A) → Dedup l
  unfolding memb? dedup-step
  dedup eq [] = record { list = []; distinct = distinct_nil; within = λ b k. k; contains = λ b k. k }
  dedup eq (a ∷ l) = let r = dedup eq l in dedup-step r (memb? eq a r.list)

module _ {A B : Type 0} (eq : Discrete B) (f : A → B) where
  -- A list whose elements have few values, and few elements to a value, is short.
  pub count_by : (l : List A) (values : List B) → ((a : A) → a ∈ l → f a ∈ values) → (k : ℕ) → ((b : B) → b ∈ values → length (keep (λ a. eq (f a) b) l) ≤ k) → length l ≤ length values * k
  count_by [] [] w k few = zero-le
  count_by (a ∷ l) [] w k few = absurd (not_in_nil (w a (here refl)))
  count_by l (b ∷ values) w k few =
      let other : List A = keep (λ a. dec-¬ (eq (f a) b)) l in
      let rest : length other ≤ length values * k = count_by other values
      (λ a h. let r = in_keep (λ c. dec-¬ (eq (f c) b)) l h in go a r.1 (w a r.0))
      k
      (λ c h. le_trans (keep-keep-length (λ a. dec-¬ (eq (f a) b)) (λ a. eq (f a) c) l) (few c (there h))) in
      omega (arith, keep-rest (λ a. eq (f a) b) l, few b (here refl), suc-mul (length values) k)
    where
      go : (a : A) → ¬ (f a ≡ b) → f a ∈ b ∷ values → f a ∈ values
      go a n (here e) = absurd (n e)
      go a n (there h) = h
