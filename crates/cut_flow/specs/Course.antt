-- The course of a unit: from an entry back by inflow pins. It crosses a leaf of each separation, and two units never share one: with f entries each
-- separation has at least f leaves, and where it has f, each of them lies on the course of an entry.
use Rattle.std.specs.Prelude.{◌≡◌, refl, ◌⊎◌, List, [], ◌∷◌, ℕ, zero, suc, ◌≤◌, ◌<◌, length}
use Rattle.std.proofs.Common.{sym, subst, inl, inr, not-suc-le-zero, lt-suc_self, lt_of_lt_of_le, le_of_suc-le-suc, arith}
use Rattle.sequences.specs.Member.{◌∈◌, here, there, not_in_nil, in_equal}
use Rattle.sequences.specs.Distinct.{Distinct, distinct_nil, distinct_cons, inject, remove, remove-cases, length-remove}
use Rattle.cut_flow.specs.Graph.{Graph, Feeding, Order, Separation, Leaf, Lists}
use Rattle.cut_flow.specs.State.{Next, State, next_one, next-feeds, entry-last}

-- Each of E feeds the forced set.
abbrev pub Rooted : Graph → List ℕ → Type 0
Rooted G E = (e : ℕ) → e ∈ E → (x : ℕ) × (0 < G.forced x) × Feeding G e x

-- From e by inflow pins to l, where all before l are in C.
pub data Course (G : Graph) (flow : ℕ → ℕ) (C : ℕ → Type 0) (e : ℕ) : ℕ → Type 0 where
  start : {l : ℕ} → l ≡ e → Course G flow C e l
  down : {l : ℕ} (x : ℕ) → C x → Next G flow l x → Course G flow C e x → Course G flow C e l

-- Where the course of e leaves C.
pub record Landed (G : Graph) (flow : ℕ → ℕ) (C : ℕ → Type 0) (e : ℕ) : Type 0 where
  pub leaf : ℕ
  pub is_leaf : Leaf G C leaf
  pub course : Course G flow C e leaf

module _ {A B : Type 0} {R : A → B → Type 0} where
  -- Where each member of l has a partner in m, no two share one, and m is no longer, each member of m is a partner.
  pub surject : {l : List A} {m : List B} → Distinct l → ((a : A) → a ∈ l → (b : B) × (b ∈ m) × R a b) → ((a a' : A) (b : B) → R a b → R a' b → a ≡ a')
      → length m ≤ length l → (b : B) → b ∈ m → (a : A) × (a ∈ l) × R a b
  surject {m = []} distinct_nil f one h b k = absurd (not_in_nil k)
  surject {m = c ∷ m} distinct_nil f one h b k = absurd (not-suc-le-zero h)
  surject {m} (distinct_cons {a = a} {l = l} n d) f one h b k =
      let r = f a (here refl) in
      split r
      (surject d (λ c i. go r c i (f c (there i)) (remove-cases r.1 (f c (there i)).0 (f c (there i)).1)) one (omega (arith, length-remove r.1)) b)
      (remove-cases r.1 b k)
    where
      go : (r : (b : B) × (b ∈ m) × R a b) (c : A) → c ∈ l → (s : (b : B) × (b ∈ m) × R c b) → (s.0 ≡ r.0) ⊎ (s.0 ∈ remove r.1) → (b : B) × (b ∈ remove r.1) × R c b
      go r c i s (inl e) = absurd (n (in_equal (one a c r.0 r.2 (subst (R c) e s.2)) i))
      go r c i s (inr j) = (s.0, j, s.2)

      split : (r : (b : B) × (b ∈ m) × R a b) → (b ∈ remove r.1 → (a : A) × (a ∈ l) × R a b) → (b ≡ r.0) ⊎ (b ∈ remove r.1) → (c : A) × (c ∈ a ∷ l) × R c b
      split r rest (inl e) = (a, here refl, subst (R a) (sym e) r.2)
      split r rest (inr i) = let q = rest i in (q.0, there q.1, q.2)

module _ {G : Graph} {flow : ℕ → ℕ} {C : ℕ → Type 0} {E : List ℕ} (s : State G flow E) where
  -- Two courses that meet go on together, up to an entry.
  pub meet : {y e l : ℕ} → e ∈ E → Course G flow C y l → Course G flow C e l → Course G flow C e y
  meet {e} i (start p) w = subst (Course G flow C e) p w
  meet i (down x c n v) (start p) = absurd (entry-last s (in_equal p i) n)
  meet {e} i (down x c n v) (down z d m w) = meet i v (subst (Course G flow C e) (next_one s m n) w)

  pub course-one : {e f l : ℕ} → e ∈ E → f ∈ E → Course G flow C e l → Course G flow C f l → e ≡ f
  course-one {e} {f} i j v w = go (meet j v w)
    where
      go : Course G flow C f e → e ≡ f
      go (start p) = p
      go (down x c n u) = absurd (entry-last s i n)

  module _ (dec : (x : ℕ) → Dec (C x)) (sep : Separation G C) (O : Order G) where
    fall : (n x : ℕ) → O.measure x < n → C x → 0 < flow x → {e : ℕ} → Course G flow C e x → Landed G flow C e
    fall zero x m c h w = absurd (not-suc-le-zero m)
    fall (suc n) x m c h {e} w =
        let r = s.inflow x h (sep.free x c) in
        let y = G.source x r.0 in
        let next : Next G flow y x = record { by = r.0; fed = r.1; source = refl } in
        go y next (λ k. fall n y (lt_of_lt_of_le (O.falls x r.0 r.1.below (sep.free y k)) (le_of_suc-le-suc m)) k (s.carried x r.0 r.1) (down x c next w)) (dec y)
      where
        go : (y : ℕ) → Next G flow y x → (C y → Landed G flow C e) → Dec (C y) → Landed G flow C e
        go y next rest (yes k) = rest k
        go y next rest (no k) = record { leaf = y; is_leaf = record { outside = k; member = x; is_member = c; feeds = next-feeds next }; course = down x c next w }

    -- The course of a carrying member leaves C at a leaf.
    pub lands : (x : ℕ) → C x → 0 < flow x → Landed G flow C x
    lands x c h = fall (suc (O.measure x)) x (lt-suc_self (O.measure x)) c h (start refl)

    module _ (rooted : Rooted G E) where
      entry-lands : (e : ℕ) → e ∈ E → Dec (C e) → Landed G flow C e
      entry-lands e i (yes c) = lands e c (s.entry e i)
      entry-lands e i (no n) =
          let r = rooted e i in
          record { leaf = e; is_leaf = record { outside = n; member = r.0; is_member = sep.contains r.0 r.1; feeds = r.2 }; course = start refl }

      module _ {L : List ℕ} (lists : Lists G C L) where
        partner : (e : ℕ) → e ∈ E → (l : ℕ) × (l ∈ L) × ((e ∈ E) × Course G flow C e l)
        partner e i = let r = entry-lands e i (dec e) in (r.leaf, lists r.leaf r.is_leaf, (i, r.course))

        -- Each separation has as many leaves as there are entries, or more.
        pub duality : length E ≤ length L
        duality = inject {R = λ e l. (e ∈ E) × Course G flow C e l} s.distinct partner (λ a b l v w. course-one v.0 w.0 v.1 w.1)

        -- Where there are no more, each leaf is on the course of an entry.
        pub leaf-hit : length L ≤ length E → (l : ℕ) → l ∈ L → (e : ℕ) × (e ∈ E) × Course G flow C e l
        leaf-hit h l i =
            let r = surject {R = λ e m. (e ∈ E) × Course G flow C e m} s.distinct partner (λ a b m v w. course-one v.0 w.0 v.1 w.1) h l i in
            (r.0, r.1, r.2.1)
