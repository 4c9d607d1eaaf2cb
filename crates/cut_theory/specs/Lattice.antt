-- Two cones of one gate: their union, the part of their intersection that leads to the root, and the inequality between the numbers of leaves.
use Rattle.std.specs.Prelude.{◌≡◌, refl, List, [], ◌∷◌, ◌++◌, ◌⊎◌, ℕ, suc, ◌+◌, ◌≤◌, ◌<◌, length}
use Rattle.std.proofs.Common.{sym, subst, inl, inr, le_trans, arith}
use Rattle.sequences.specs.Member.{◌∈◌, Within, in_append_left, in_append_right, in_append_cases}
use Rattle.sequences.specs.Keep.{keep, keep_in, in_keep, keep-count, bit}
use Rattle.sequences.specs.Distinct.{Distinct, distinct-keep, pigeonhole, dedup, Dedup}
use Rattle.net_model.specs.Net.{Net, IsGate}
use Rattle.net_model.specs.Copies.{Copy, copy, Feeds, Leads, IsCone, Leaf, IsLeaves, Cut}
use Rattle.sequences.specs.Grow.{Grown}
use Rattle.cone_theory.specs.Basics.{Copy-dec, member?, leaves_of, leaves-distinct, feeds_in}
use Rattle.cone_theory.specs.Part.{leads_mono, grow_copies, grown-leads}

neither : {C D : Type 0} → ¬ C → ¬ D → C ⊎ D → ⊥
neither c d (inl x) = c x
neither c d (inr x) = d x

-- one of two bits for each of one, and both for both
pub bits : {A B C D : Type 0} (a : Dec A) (b : Dec B) (c : Dec C) (d : Dec D) → (A → B → C × D) → (A → C ⊎ D) → (B → C ⊎ D) → bit a + bit b ≤ bit c + bit d
unfolding bit
bits (no a) (no b) c d both f g = omega arith
bits (yes a) (no b) (yes c) d both f g = omega arith
bits (yes a) (no b) (no c) (yes d) both f g = omega arith
bits (yes a) (no b) (no c) (no d) both f g = absurd (neither c d (f a))
bits (no a) (yes b) (yes c) d both f g = omega arith
bits (no a) (yes b) (no c) (yes d) both f g = omega arith
bits (no a) (yes b) (no c) (no d) both f g = absurd (neither c d (g b))
bits (yes a) (yes b) (yes c) (yes d) both f g = omega arith
bits (yes a) (yes b) (yes c) (no d) both f g = absurd (d (both a b).1)
bits (yes a) (yes b) (no c) d both f g = absurd (c (both a b).0)

module _ {N : Net} {v : ℕ} {C C' : List Copy} (i : IsCone N v C) (i' : IsCone N v C') where
  -- ---- the union

  pub union_cone : IsCone N v (C ++ C')
  union_cone = record {
    gates = λ c h. gate (in_append_cases C h);
    root = in_append_left C' i.root;
    leads = λ c h. lead (in_append_cases C h);
  }
    where
      gate : {c : Copy} → (c ∈ C) ⊎ (c ∈ C') → IsGate N c.node
      gate {c} (inl h) = i.gates c h
      gate {c} (inr h) = i'.gates c h

      lead : {c : Copy} → (c ∈ C) ⊎ (c ∈ C') → Leads N (C ++ C') (copy v 0) c
      lead {c} (inl h) = leads_mono (λ x m. in_append_left C' m) (i.leads c h)
      lead {c} (inr h) = leads_mono (λ x m. in_append_right C m) (i'.leads c h)

  union_leaf : {y : Copy} → Leaf N (C ++ C') y → Leaf N C y ⊎ Leaf N C' y
  union_leaf {y} l = go (in_append_cases C l.is_member)
    where
      go : (l.member ∈ C) ⊎ (l.member ∈ C') → Leaf N C y ⊎ Leaf N C' y
      go (inl h) = inl (record { outside = λ m. l.outside (in_append_left C' m); member = l.member; is_member = h; feeds = l.feeds })
      go (inr h) = inr (record { outside = λ m. l.outside (in_append_right C m); member = l.member; is_member = h; feeds = l.feeds })

  -- ---- the intersection

  both : List Copy
  both = keep (λ c. member? c C') C

  both-root : copy v 0 ∈ both
  unfolding both
  both-root = keep_in (λ c. member? c C') i.root i'.root

  grown : Grown (Rattle.net_model.specs.Tables.feeding N) both (copy v 0)
  grown = grow_copies N both (copy v 0) both-root

  -- the members of both that lead to the root inside both
  pub meet : List Copy
  meet = grown.set

  pub meet-distinct : Distinct meet
  unfolding meet
  meet-distinct = grown.distinct

  pub meet_left : Within meet C
  unfolding meet both
  meet_left c h = (in_keep (λ x. member? x C') C (grown.within c h)).0

  pub meet_right : Within meet C'
  unfolding meet both
  meet_right c h = (in_keep (λ x. member? x C') C (grown.within c h)).1

  pub meet-cone : IsCone N v meet
  unfolding meet both
  meet-cone = record { gates = λ c h. i.gates c (meet_left c h); root = grown.starts; leads = grown-leads (λ c h. i.gates c (in_keep (λ x. member? x C') C h).0) grown }

  -- a copy that feeds the meet and lies in both cones is in the meet
  meet-closed : {x y : Copy} → x ∈ meet → Feeds N y x → y ∈ C → y ∈ C' → y ∈ meet
  unfolding meet both
  meet-closed {x} {y} m f h h' = grown.closed x y m (feeds_in f) (keep_in (λ c. member? c C') h h')

  meet-leaf : {y : Copy} → Leaf N meet y → Leaf N C y ⊎ Leaf N C' y
  meet-leaf {y} l = go (member? y C)
    where
      go : Dec (y ∈ C) → Leaf N C y ⊎ Leaf N C' y
      go (no n) = inl (record { outside = n; member = l.member; is_member = meet_left l.member l.is_member; feeds = l.feeds })
      go (yes h) = inr (record {
        outside = λ h'. l.outside (meet-closed l.is_member l.feeds h h');
        member = l.member;
        is_member = meet_right l.member l.is_member;
        feeds = l.feeds;
      })

  -- ---- the inequality, leaf by leaf

  module _ {L L' : List Copy} (l : IsLeaves N C L) (l' : IsLeaves N C' L') where
    either : {y : Copy} → Leaf N C y ⊎ Leaf N C' y → (y ∈ L) ⊎ (y ∈ L')
    either {y} (inl h) = inl (l.complete y h)
    either {y} (inr h) = inr (l'.complete y h)

    -- a leaf of both the meet and the union is a leaf of each cone
    twice : {y : Copy} → Leaf N meet y → Leaf N (C ++ C') y → (y ∈ L) × (y ∈ L')
    twice {y} m u = (
      l.complete y (record { outside = λ h. u.outside (in_append_left C' h); member = m.member; is_member = meet_left m.member m.is_member; feeds = m.feeds }),
      l'.complete y (record { outside = λ h. u.outside (in_append_right C h); member = m.member; is_member = meet_right m.member m.is_member; feeds = m.feeds }),
    )

    -- **|leaves(C∩C')| + |leaves(C∪C')| ≤ |leaves C| + |leaves C'|**
    pub leaves_inequality : {M U : List Copy} → IsLeaves N meet M → IsLeaves N (C ++ C') U → length M + length U ≤ length L + length L'
    leaves_inequality {M} {U} m u =
        let all : Dedup (L ++ L') = dedup Copy-dec (L ++ L') in
        let D = all.list in
        let in_m : (y : Copy) → y ∈ M → y ∈ D = λ y h. all.contains y (joined (either (meet-leaf (m.sound y h)))) in
        let in_u : (y : Copy) → y ∈ U → y ∈ D = λ y h. all.contains y (joined (either (union_leaf (u.sound y h)))) in
        let k_m = keep (λ y. member? y M) D in
        let k_u = keep (λ y. member? y U) D in
        let k_l = keep (λ y. member? y L) D in
        let k_l' = keep (λ y. member? y L') D in
        let a : length M ≤ length k_m = pigeonhole (leaves-distinct m) (λ y h. keep_in (λ z. member? z M) (in_m y h) h) in
        let b : length U ≤ length k_u = pigeonhole (leaves-distinct u) (λ y h. keep_in (λ z. member? z U) (in_u y h) h) in
        let c : length k_l ≤ length L = pigeonhole (distinct-keep (λ z. member? z L) all.distinct) (λ y h. (in_keep (λ z. member? z L) D h).1) in
        let d : length k_l' ≤ length L' = pigeonhole (distinct-keep (λ z. member? z L') all.distinct) (λ y h. (in_keep (λ z. member? z L') D h).1) in
        let e : length k_m + length k_u ≤ length k_l + length k_l' =
        keep-count (λ y. member? y M) (λ y. member? y U) (λ y. member? y L) (λ y. member? y L') D
        (λ y h. bits (member? y M) (member? y U) (member? y L) (member? y L')
        (λ p q. twice (m.sound y p) (u.sound y q)) (λ p. either (meet-leaf (m.sound y p))) (λ q. either (union_leaf (u.sound y q)))) in
        omega arith
      where
        joined : {y : Copy} → (y ∈ L) ⊎ (y ∈ L') → y ∈ L ++ L'
        joined (inl h) = in_append_left L' h
        joined (inr h) = in_append_right L h

    -- what holds of the leaves of both cones holds of the leaves of the meet and of the union
    pub meet-allowed : {A : Copy → Type 0} → ((y : Copy) → y ∈ L → A y) → ((y : Copy) → y ∈ L' → A y) → (y : Copy) → Leaf N meet y → A y
    meet-allowed {A} f g y h = go (either (meet-leaf h))
      where
        go : (y ∈ L) ⊎ (y ∈ L') → A y
        go (inl m) = f y m
        go (inr m) = g y m

    pub union_allowed : {A : Copy → Type 0} → ((y : Copy) → y ∈ L → A y) → ((y : Copy) → y ∈ L' → A y) → (y : Copy) → Leaf N (C ++ C') y → A y
    union_allowed {A} f g y h = go (either (union_leaf h))
      where
        go : (y ∈ L) ⊎ (y ∈ L') → A y
        go (inl m) = f y m
        go (inr m) = g y m

-- ---- as cuts

module _ {N : Net} {k v : ℕ} {A B : Copy → Type 0} (K J : Cut N k v A B) where
  pub meet_leaves : (L : List Copy) × IsLeaves N (meet K.is_cone J.is_cone) L
  meet_leaves = leaves_of N (meet K.is_cone J.is_cone)

  pub union_leaves : (L : List Copy) × IsLeaves N (K.cone ++ J.cone) L
  union_leaves = leaves_of N (K.cone ++ J.cone)

  pub cut_inequality : length meet_leaves.0 + length union_leaves.0 ≤ length K.leaves + length J.leaves
  cut_inequality = leaves_inequality K.is_cone J.is_cone K.is_leaves J.is_leaves meet_leaves.1 union_leaves.1

  -- the meet is a cut where its leaves are few
  unfoldable pub meet_cut : (n : ℕ) → length meet_leaves.0 ≤ n → Cut N n v A B
  meet_cut n h = record {
    cone = meet K.is_cone J.is_cone;
    leaves = meet_leaves.0;
    is_cone = meet-cone K.is_cone J.is_cone;
    is_leaves = meet_leaves.1;
    few = h;
    allowed = λ y m. meet-allowed K.is_cone J.is_cone K.is_leaves J.is_leaves {A = A} K.allowed J.allowed y (meet_leaves.1.sound y m);
    inside = λ x m. K.inside x (meet_left K.is_cone J.is_cone x m);
  }

  -- so is the union
  unfoldable pub union_cut : (n : ℕ) → length union_leaves.0 ≤ n → Cut N n v A B
  union_cut n h = record {
    cone = K.cone ++ J.cone;
    leaves = union_leaves.0;
    is_cone = union_cone K.is_cone J.is_cone;
    is_leaves = union_leaves.1;
    few = h;
    allowed = λ y m. union_allowed K.is_cone J.is_cone K.is_leaves J.is_leaves {A = A} K.allowed J.allowed y (union_leaves.1.sound y m);
    inside = λ x m. inside (in_append_cases K.cone m);
  }
    where
      inside : {x : Copy} → (x ∈ K.cone) ⊎ (x ∈ J.cone) → B x
      inside {x} (inl m) = K.inside x m
      inside {x} (inr m) = J.inside x m
