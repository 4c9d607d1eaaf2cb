-- Laws of the leaf lookup: **E3's statements hold of it**.
use Rattle.std.specs.Prelude.{◌≡◌, Bool, true, false, ◌&&◌, ◌||◌, List, [], ◌∷◌, ◌++◌, ◌⊎◌, ◌↔◌, ℕ, zero, suc, ◌≤◌, ◌<◌, ltb, eqb, length, take, drop}
use Rattle.std.proofs.Math.Path.{refl}
use Rattle.std.proofs.Common.{sym, ap, ap₂, subst, ◌∙◌, inl, inr, zero-le, suc-le-suc, not-suc-le-zero, le_of_suc-le-suc, arith, ltb-true, ltb-false, eqb-true, length-append, take-suc, get_or-take, ext_get_or, length-take-le}
use Rattle.std.proofs.lemmas.Bool.{eqb-false}
use Rattle.std.proofs.Math.ListN.{get_or-append}
use Rattle.std.proofs.Math.Seq.{split_at, get_or-append_seam}
use Rattle.sequences.specs.Member.{◌∈◌, in_equal, in_get_or, get_or_in}
use Rattle.sequences.specs.Rising.{ℕ_cmp}
use Rattle.sequences.specs.Tests.{First}
use Rattle.sequences.specs.TestLaws.{first-here, first-none}
use Rattle.net_model.specs.Copies.{Copy, copy, Before, Rising}
use Rattle.net_model.proofs.CopyLaws.{copy-path, before_irrefl, before_asym}
use Rattle.cone_leaves.specs.Lookup.{beyond, same, seek_of, leaf_at, Stands, Yes, SameAnswer, LeafLookup}

-- ---- a leaf b seen from c

-- neither c nor beyond it
abbrev pub Passed : Copy → Copy → Type 0
Passed c b = (¬ (b ≡ c)) × (¬ Before c b)

pub passed-before : {c b : Copy} → Before b c → Passed c b
passed-before {c} {b} h = (λ e. before_irrefl c (subst (λ (x : Copy). Before x c) e h), before_asym b c h)

data Side (c b : Copy) : Type 0 where
  behind : beyond c b ≡ true → Before c b → Side c b
  found : beyond c b ≡ false → same c b ≡ true → b ≡ c → Side c b
  passed : beyond c b ≡ false → same c b ≡ false → Passed c b → Side c b

side : (c b : Copy) → Side c b
side c b = go (ltb c.node b.node) (eqb c.node b.node) (ltb c.back b.back) (eqb c.back b.back) refl refl refl refl
  where
    ahead : {x y z : Bool} → ltb c.node b.node ≡ x → eqb c.node b.node ≡ y → ltb c.back b.back ≡ z → beyond c b ≡ (x || (y && z))
    ahead p q r = cc

    equal : {x y : Bool} → eqb c.node b.node ≡ x → eqb c.back b.back ≡ y → same c b ≡ (x && y)
    equal p q = cc

    not-before : b.node ≤ c.node → (c.node ≡ b.node → b.back ≤ c.back) → ¬ Before c b
    not-before h k (inl l) = omega arith
    not-before h k (inr l) = let m = k l.0 in omega (arith, l.1)

    go : (x y z w : Bool) → ltb c.node b.node ≡ x → eqb c.node b.node ≡ y → ltb c.back b.back ≡ z → eqb c.back b.back ≡ w → Side c b
    go true y z w e f g h = behind (ahead e f g) (inl (ltb-true c.node b.node e))
    go false true true w e f g h = behind (ahead e f g) (inr (eqb-true c.node b.node f, ltb-true c.back b.back g))
    go false true false true e f g h = found (ahead e f g) (equal f h) (copy-path (sym (eqb-true c.node b.node f)) (sym (eqb-true c.back b.back h)))
    go false true false false e f g h = passed (ahead e f g) (equal f h)
        (λ q. eqb-false c.back b.back h (ap (λ (x : Copy). x.back) (sym q)), not-before (ltb-false c.node b.node e) (λ q. ltb-false c.back b.back g))
    go false false z w e f g h = passed (ahead e f g) (equal f h)
        (λ q. eqb-false c.node b.node f (ap (λ (x : Copy). x.node) (sym q)), not-before (ltb-false c.node b.node e) (λ q. absurd (eqb-false c.node b.node f q)))

-- ---- one leaf more

module _ (c b : Copy) (l : List Copy) where
  cons_behind : beyond c b ≡ true → seek_of (b ∷ l) c ≡ suc (length l)
  unfolding seek_of
  cons_behind e = rw e

  cons_found : beyond c b ≡ false → same c b ≡ true → seek_of (b ∷ l) c ≡ 0
  unfolding seek_of
  cons_found e f = rw (e, f)

  cons_passed : beyond c b ≡ false → same c b ≡ false → seek_of (b ∷ l) c ≡ suc (seek_of l c)
  unfolding seek_of
  cons_passed e f = rw (e, f)

  pass : Passed c b → seek_of (b ∷ l) c ≡ suc (seek_of l c)
  pass p = go (side c b)
    where
      go : Side c b → seek_of (b ∷ l) c ≡ suc (seek_of l c)
      go (behind e h) = absurd (p.1 h)
      go (found e f q) = absurd (p.0 q)
      go (passed e f q) = cons_passed e f

-- ---- the three ways in which the search ends

-- at c itself
pub seek_here : (L : List Copy) (c : Copy) (p : ℕ) → p < length L → leaf_at L p ≡ c → ((i : ℕ) → i < p → Passed c (leaf_at L i)) → seek_of L c ≡ p
seek_here [] c p h e f = absurd (not-suc-le-zero h)
seek_here (b ∷ L) c zero h e f = go (side c b)
  where
    go : Side c b → seek_of (b ∷ L) c ≡ 0
    go (behind q k) = absurd (before_irrefl c (subst (Before c) e k))
    go (found q r k) = cons_found c b L q r
    go (passed q r k) = absurd (k.0 e)
seek_here (b ∷ L) c (suc p) h e f = pass c b L (f 0 (suc-le-suc zero-le)) ∙ ap suc (seek_here L c p (le_of_suc-le-suc h) e (λ i k. f (suc i) (suc-le-suc k)))

-- at a leaf beyond c
pub seek_stop : (L : List Copy) (c : Copy) (p : ℕ) → p < length L → Before c (leaf_at L p) → ((i : ℕ) → i < p → Passed c (leaf_at L i)) → seek_of L c ≡ length L
seek_stop [] c p h e f = absurd (not-suc-le-zero h)
seek_stop (b ∷ L) c zero h e f = go (side c b)
  where
    go : Side c b → seek_of (b ∷ L) c ≡ suc (length L)
    go (behind q k) = cons_behind c b L q
    go (found q r k) = absurd (before_irrefl c (subst (Before c) k e))
    go (passed q r k) = absurd (k.1 e)
seek_stop (b ∷ L) c (suc p) h e f = pass c b L (f 0 (suc-le-suc zero-le)) ∙ ap suc (seek_stop L c p (le_of_suc-le-suc h) e (λ i k. f (suc i) (suc-le-suc k)))

-- at the end
pub seek_end : (L : List Copy) (c : Copy) → ((i : ℕ) → i < length L → Passed c (leaf_at L i)) → seek_of L c ≡ length L
seek_end [] c f = unfold seek_of in refl
seek_end (b ∷ L) c f = pass c b L (f 0 (suc-le-suc zero-le)) ∙ ap suc (seek_end L c (λ i k. f (suc i) (suc-le-suc k)))

data Ended (L : List Copy) (c : Copy) : Type 0 where
  at : (p : ℕ) → p < length L → leaf_at L p ≡ c → ((i : ℕ) → i < p → Passed c (leaf_at L i)) → Ended L c
  stopped : (p : ℕ) → p < length L → Before c (leaf_at L p) → ((i : ℕ) → i < p → Passed c (leaf_at L i)) → Ended L c
  through : ((i : ℕ) → i < length L → Passed c (leaf_at L i)) → Ended L c

below_cons : {c b : Copy} (L : List Copy) {p : ℕ} → Passed c b → ((i : ℕ) → i < p → Passed c (leaf_at L i)) → (i : ℕ) → i < suc p → Passed c (leaf_at (b ∷ L) i)
below_cons L q f zero h = q
below_cons L q f (suc i) h = f i (le_of_suc-le-suc h)

ended : (L : List Copy) (c : Copy) → Ended L c
ended [] c = through (λ i h. absurd (not-suc-le-zero h))
ended (b ∷ L) c = go (side c b) (ended L c)
  where
    go : Side c b → Ended L c → Ended (b ∷ L) c
    go (behind e k) r = stopped 0 (suc-le-suc zero-le) k (λ i h. absurd (not-suc-le-zero h))
    go (found e f k) r = at 0 (suc-le-suc zero-le) k (λ i h. absurd (not-suc-le-zero h))
    go (passed e f k) (at p h q g) = at (suc p) (suc-le-suc h) q (below_cons L k g)
    go (passed e f k) (stopped p h q g) = stopped (suc p) (suc-le-suc h) q (below_cons L k g)
    go (passed e f k) (through g) = through (below_cons L k g)

-- ---- any list

self : {n : ℕ} → n < n → ⊥
self h = omega arith

module _ (L : List Copy) (c : Copy) where
  yes_at : Yes seek_of L c → (p : ℕ) × (seek_of L c ≡ p) × (p < length L) × (leaf_at L p ≡ c) × ((i : ℕ) → i < p → Passed c (leaf_at L i))
  yes_at y = go (ended L c)
    where
      go : Ended L c → (p : ℕ) × (seek_of L c ≡ p) × (p < length L) × (leaf_at L p ≡ c) × ((i : ℕ) → i < p → Passed c (leaf_at L i))
      go (at p h e f) = (p, seek_here L c p h e f, h, e, f)
      go (stopped p h e f) = absurd (self (subst (λ (n : ℕ). n < length L) (seek_stop L c p h e f) y))
      go (through f) = absurd (self (subst (λ (n : ℕ). n < length L) (seek_end L c f) y))

  yes_stands : Yes seek_of L c → Stands L c (seek_of L c)
  yes_stands y = let r = yes_at y in
      subst (Stands L c) (sym r.1) (record { below = r.2; this = r.3; early = λ i h. (r.4 i h).1 })

  yes_first : Yes seek_of L c → (i : ℕ) → i < seek_of L c → ¬ (leaf_at L i ≡ c)
  yes_first y i h = let r = yes_at y in (r.4 i (subst (λ (n : ℕ). i < n) r.1 h)).0

  no_place : ¬ Yes seek_of L c → seek_of L c ≡ length L
  no_place n = go (ended L c)
    where
      go : Ended L c → seek_of L c ≡ length L
      go (at p h e f) = absurd (n (subst (λ (x : ℕ). x < length L) (sym (seek_here L c p h e f)) h))
      go (stopped p h e f) = seek_stop L c p h e f
      go (through f) = seek_end L c f

  stands_yes : (p : ℕ) → Stands L c p → Yes seek_of L c
  stands_yes p s = go (ended L c)
    where
      go : Ended L c → Yes seek_of L c
      go (at q h e f) = subst (λ (n : ℕ). n < length L) (sym (seek_here L c q h e f)) h
      go (stopped q h e f) = absurd (clash (ℕ_cmp p q))
        where
          clash : (p < q) ⊎ ((p ≡ q) ⊎ (q < p)) → ⊥
          clash (inl k) = (f p k).0 s.this
          clash (inr (inl k)) = before_irrefl c (subst (Before c) s.this (subst (λ (n : ℕ). Before c (leaf_at L n)) (sym k) e))
          clash (inr (inr k)) = s.early q k e
      go (through f) = absurd ((f p s.below).0 s.this)

-- ---- rising lists

rising-at : (L : List Copy) → Rising L → (i j : ℕ) → i < j → j < length L → Before (leaf_at L i) (leaf_at L j)
rising-at [] r i j h k = absurd (not-suc-le-zero k)
rising-at (b ∷ L) r i zero h k = absurd (not-suc-le-zero h)
rising-at (b ∷ L) r zero (suc j) h k = r.0 (leaf_at L j) (in_get_or L j (copy 0 0) (le_of_suc-le-suc k))
rising-at (b ∷ L) r (suc i) (suc j) h k = rising-at L r.1 i j (le_of_suc-le-suc h) (le_of_suc-le-suc k)

module _ (L : List Copy) (c : Copy) (r : Rising L) where
  member_stands : c ∈ L → (p : ℕ) × Stands L c p
  member_stands m =
      let q = get_or_in m in
      (q.0, record { below = q.1; this = q.2 (copy 0 0); early = λ i h k. before_asym c (leaf_at L i) k (subst (Before (leaf_at L i)) (q.2 (copy 0 0)) (rising-at L r i q.0 h q.1)) })

  rising_yes : Yes seek_of L c ↔ (c ∈ L)
  rising_yes = (λ y. let s = yes_stands L c y in in_equal (sym s.this) (in_get_or L (seek_of L c) (copy 0 0) s.below), λ m. let q = member_stands m in stands_yes L c q.0 q.1)

  rising-first : First (λ p. leaf_at L p ≡ c) (length L) (seek_of L c)
  rising-first = go (ended L c)
    where
      Here : ℕ → Type 0
      Here p = leaf_at L p ≡ c

      go : Ended L c → First Here (length L) (seek_of L c)
      go (at p h e f) = subst (First Here (length L)) (sym (seek_here L c p h e f)) (first-here Here (length L) p h e (λ i k. (f i k).0))
      go (stopped p h e f) = subst (First Here (length L)) (sym (seek_stop L c p h e f)) (first-none Here (length L) (λ i k q. clash i k q (ℕ_cmp i p)))
        where
          clash : (i : ℕ) → i < length L → leaf_at L i ≡ c → (i < p) ⊎ ((i ≡ p) ⊎ (p < i)) → ⊥
          clash i k q (inl l) = (f i l).0 q
          clash i k q (inr (inl l)) = before_irrefl c (subst (Before c) q (subst (λ (n : ℕ). Before c (leaf_at L n)) (sym l) e))
          clash i k q (inr (inr l)) = before_asym c (leaf_at L p) e (subst (Before (leaf_at L p)) q (rising-at L r p i l k))
      go (through f) = subst (First Here (length L)) (sym (seek_end L c f)) (first-none Here (length L) (λ i k. (f i k).0))

-- ---- what stands behind a leaf beyond c

module _ (front : List Copy) (b c : Copy) (far : Before c b) where
  front_at : (rest : List Copy) (i : ℕ) → i < length front → leaf_at (front ++ (b ∷ rest)) i ≡ leaf_at front i
  front_at rest i h = get_or-append front (b ∷ rest) (copy 0 0) i h

  seam_at : (rest : List Copy) → leaf_at (front ++ (b ∷ rest)) (length front) ≡ b
  seam_at rest = get_or-append_seam front b rest (copy 0 0)

  module _ (rest rest' : List Copy) where
    moved : Yes seek_of (front ++ (b ∷ rest)) c → Yes seek_of (front ++ (b ∷ rest')) c × (seek_of (front ++ (b ∷ rest)) c ≡ seek_of (front ++ (b ∷ rest')) c)
    moved y =
        let r = yes_at (front ++ (b ∷ rest)) c y in
        let p = r.0 in
        let h : p < length front = inside p r.3 r.4 (ℕ_cmp p (length front)) in
        let here' = seek_here (front ++ (b ∷ rest')) c p (longer p h) (front_at rest' p h ∙ sym (front_at rest p h) ∙ r.3)
        (λ i k. subst (Passed c) (front_at rest i (omega arith) ∙ sym (front_at rest' i (omega arith))) (r.4 i k)) in
        (subst (λ (n : ℕ). n < length (front ++ (b ∷ rest'))) (sym here') (longer p h), r.1 ∙ sym here')
      where
        longer : (p : ℕ) → p < length front → p < length (front ++ (b ∷ rest'))
        longer p h = omega (arith, length-append front (b ∷ rest'))

        inside : (p : ℕ) → leaf_at (front ++ (b ∷ rest)) p ≡ c → ((i : ℕ) → i < p → Passed c (leaf_at (front ++ (b ∷ rest)) i)) → (p < length front) ⊎ ((p ≡ length front) ⊎ (length front < p)) → p < length front
        inside p e f (inl h) = h
        inside p e f (inr (inl h)) = absurd (before_irrefl c (subst (Before c) (sym (seam_at rest) ∙ ap (leaf_at (front ++ (b ∷ rest))) (sym h) ∙ e) far))
        inside p e f (inr (inr h)) = absurd ((f (length front) h).1 (subst (Before c) (sym (seam_at rest)) far))

  same-behind : (rest rest' : List Copy) → SameAnswer seek_of (front ++ (b ∷ rest)) (front ++ (b ∷ rest')) c
  same-behind rest rest' = record { answer = (λ y. (moved rest rest' y).0, λ y. (moved rest' rest y).0); place = λ y. (moved rest rest' y).1 }

same-part : (L : List Copy) (c : Copy) (p : ℕ) → p < length L → Before c (leaf_at L p) → SameAnswer seek_of L (take (suc p) L) c
same-part L c p h far =
    let whole = split_at L p (copy 0 0) h in
    let first = take-suc L p (copy 0 0) h in
    subst (λ (M : List Copy). SameAnswer seek_of M (take (suc p) L) c) (sym whole)
    (subst (λ (M : List Copy). SameAnswer seek_of (take p L ++ (leaf_at L p ∷ drop (suc p) L)) M c) (sym first) (same-behind (take p L) (leaf_at L p) c far (drop (suc p) L) []))

-- two lists that are the same up to and with a leaf beyond c
pub same_alike : (L M : List Copy) (c : Copy) (p : ℕ) → p < length L → p < length M → Before c (leaf_at L p) → ((i : ℕ) → i ≤ p → leaf_at L i ≡ leaf_at M i) → SameAnswer seek_of L M c
same_alike L M c p h k far e =
    subst (λ (X : List Copy). SameAnswer seek_of X M c) (sym (split_at L p (copy 0 0) h))
    (subst (λ (X : List Copy). SameAnswer seek_of (take p L ++ (leaf_at L p ∷ drop (suc p) L)) X c) (sym other) (same-behind (take p L) (leaf_at L p) c far (drop (suc p) L) (drop (suc p) M)))
  where
    fronts : take p M ≡ take p L
    fronts = ext_get_or (copy 0 0) (take p M) (take p L) (length-take-le p M (omega arith) ∙ sym (length-take-le p L (omega arith)))
        (λ i l. let q : i < p = omega (arith, length-take-le p M (omega arith)) in get_or-take p M i (copy 0 0) q ∙ sym (e i (omega arith)) ∙ sym (get_or-take p L i (copy 0 0) q))

    other : M ≡ take p L ++ (leaf_at L p ∷ drop (suc p) M)
    other = split_at M p (copy 0 0) k ∙ ap₂ (λ (l : List Copy) (x : Copy). l ++ (x ∷ drop (suc p) M)) fronts (sym (e p (omega arith)))

-- **E3**
pub leaf-lookup : LeafLookup seek_of
leaf-lookup = record {
  any = λ L c. (λ y. (seek_of L c, yes_stands L c y), λ s. stands_yes L c s.0 s.1);
  place = λ L c y. (yes_stands L c y, yes_first L c y);
  none = no_place;
  rising = λ L c r. (rising_yes L c r, rising-first L c r);
  behind = λ front b rest rest' c far. same-behind front b c far rest rest';
  part = same-part;
}
