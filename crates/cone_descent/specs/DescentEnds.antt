-- How the walk ends: there is no cut, or the list is the cone.
use Rattle.std.specs.Prelude.{◌≡◌, refl, List, [], ◌∷◌, ◌⊎◌, ℕ, zero, suc, ◌+◌, ◌-◌, ◌*◌, ◌≤◌, ◌<◌, length, get_or}
use Rattle.std.proofs.Common.{sym, ap, ◌∙◌, subst, inl, inr, not-suc-le-zero, lt_irrefl, arith}
use Rattle.std.proofs.Math.Decide.{ℕ_discrete, dec_lt}
use Rattle.sequences.specs.Member.{◌∈◌, here, in_equal, in_get_or, get_or_in, in_append_right}
use Rattle.net_model.specs.Net.{Net}
use Rattle.net_model.specs.Checks.{Loopless}
use Rattle.net_model.specs.Arrays.{copy_at}
use Rattle.net_model.specs.Copies.{Copy, copy, Feeds, Before, Rising, Leaf}
use Rattle.net_model.proofs.CopyLaws.{before_irrefl}
use Rattle.net_model.specs.Wired.{Wired}
use Rattle.cone_theory.specs.Reach.{reach}
use Rattle.cone_theory.specs.CopyOrder.{levels}
use Rattle.cone_copies.specs.CopyLists.{copies_in, Mixed, SourcesFirst}
use Rattle.cone_copies.specs.CopyListLaws.{length-copies_in, get_or_copies_in, in_copies_in, copies_in_in, mixed-cone, mixed-leaves}
use Rattle.cone_copies.specs.CopyPinLaws.{feeds-pin}
use Rattle.cone_walk.specs.Walking.{Closed, walked_more, walked-cone, walked-leaves, closed_all, refuted-input, refuted-full, node-gate, input_no_gate}
use Rattle.cone_descent.specs.Descent.{nobody, place, Clear, pin_of, pins_of, Known, Trail, State, Denied, Seated, Wiped, ToldCut}
use Rattle.cone_descent.specs.TrailLaws.{met-marked}
use Rattle.cone_descent.specs.DescentLaws.{inside-copy, inside-gate, pin-of-feeds, known-copy}

-- ---- leaves that rise stand once

rising-before : (L : List Copy) → Rising L → (i k : ℕ) → i < k → k < length L → Before (get_or L i nobody) (get_or L k nobody)
rising-before [] r i k h g = absurd (not-suc-le-zero g)
rising-before (a ∷ l) r i zero h g = absurd (not-suc-le-zero h)
rising-before (a ∷ l) r zero (suc k) h g = r.0 (get_or l k nobody) (in_get_or l k nobody (omega (arith, g)))
rising-before (a ∷ l) r (suc i) (suc k) h g = rising-before l r.1 i k (omega (arith, h)) (omega (arith, g))

place-once : (L : List Copy) → Rising L → (i k : ℕ) → i < length L → k < length L → get_or L i nobody ≡ get_or L k nobody → i ≡ k
place-once L r i k h g e = go (dec_lt i k) (dec_lt k i)
  where
    go : Dec (i < k) → Dec (k < i) → i ≡ k
    go (yes a) d = absurd (before_irrefl (get_or L k nobody) (subst (λ (c : Copy). Before c (get_or L k nobody)) e (rising-before L r i k a g)))
    go (no a) (yes b) = absurd (before_irrefl (get_or L k nobody) (subst (λ (c : Copy). Before (get_or L k nobody) c) e (rising-before L r k i b h)))
    go (no a) (no b) = omega arith

-- ---- the table cleared

pub seated-clear : (width : ℕ) (us ds : List ℕ) (len : ℕ) (marks marks' : List ℕ) → Seated width us ds len marks → Wiped width us ds len marks marks' → Clear marks'
seated-clear width us ds len marks marks' s w q = go (ℕ_discrete (get_or marks' q 0) 0)
  where
    go : Dec (get_or marks' q 0 ≡ 0) → get_or marks' q 0 ≡ 0
    go (yes e) = e
    go (no n) = let a = w.each q n in let p = s.sound q (λ e. n (a.0 ∙ e)) in absurd (a.1 p.0 p.1 p.2)

-- a list of no copies leaves none
pub seated-none : {width : ℕ} {us ds : List ℕ} {len : ℕ} {marks : List ℕ} → len ≡ 0 → Seated width us ds len marks → Clear marks
seated-none {marks = marks} e s q = go (ℕ_discrete (get_or marks q 0) 0)
  where
    go : Dec (get_or marks q 0 ≡ 0) → get_or marks q 0 ≡ 0
    go (yes z) = z
    go (no n) = let p = s.sound q n in absurd (omega (arith, p.1, e))

module _ {I G width border : ℕ} {us ds : List ℕ} {len : ℕ} {hs bs : List ℕ} {depth : ℕ} {marks : List ℕ} {met : List Copy} (t : Trail I G width border us ds len hs bs depth marks met) where
  pub trail-clear : (marks' marks'' : List ℕ) → Wiped width us ds len marks marks' → Wiped width hs bs depth marks' marks'' → Clear marks''
  trail-clear marks' marks'' v w q = go (ℕ_discrete (get_or marks'' q 0) 0)
    where
      found : (c : Copy) → place width c ≡ q → ((p : ℕ) → p < len → ¬ (place width (copy_at us ds p) ≡ q)) → ((k : ℕ) → k < depth → ¬ (place width (copy_at hs bs k) ≡ q))
          → ((p : ℕ) × (p < len) × (copy_at us ds p ≡ c)) ⊎ ((k : ℕ) × (k < depth) × (copy_at hs bs k ≡ c)) → ⊥
      found c e a b (inl p) = a p.0 p.1 (ap (place width) p.2 ∙ e)
      found c e a b (inr k) = b k.0 k.1 (ap (place width) k.2 ∙ e)

      go : Dec (get_or marks'' q 0 ≡ 0) → get_or marks'' q 0 ≡ 0
      go (yes e) = e
      go (no n) =
          let a = w.each q n in
          let b = v.each q (λ e. n (a.0 ∙ e)) in
          let c = t.sound q (λ e. n (a.0 ∙ b.0 ∙ e)) in
          absurd (found c.0 c.2 b.1 a.1 (t.split c.0 c.1))

  pub trail-seated : depth ≡ 0 → Seated width us ds len marks
  trail-seated e = record { byte = t.seats; sound = λ q n. let c = t.sound q n in go q c.0 c.2 (t.split c.0 c.1) }
    where
      go : (q : ℕ) (c : Copy) → place width c ≡ q → ((p : ℕ) × (p < len) × (copy_at us ds p ≡ c)) ⊎ ((k : ℕ) × (k < depth) × (copy_at hs bs k ≡ c))
          → (p : ℕ) × (p < len) × (place width (copy_at us ds p) ≡ q)
      go q c z (inl p) = (p.0, p.1, ap (place width) p.2 ∙ z)
      go q c z (inr k) = absurd (omega (arith, k.1, e))

-- ---- ways in which there is no cut

module _ {I G width border : ℕ} {ps so co : List ℕ} {L : List Copy} {v : ℕ} {us ds : List ℕ} {len : ℕ} {hs bs ts : List ℕ} {depth : ℕ} {marks seen : List ℕ}
    (s : State I G width border ps so co L v us ds len hs bs ts depth marks seen) where
  module _ (x : Copy) (m : x ∈ s.met) (j : ℕ) (few : j < pins_of I ps x) (y : Copy) (this : y ≡ pin_of I so co x j) (apart : ¬ (y ∈ L)) where
    y-feeds : (N : Net) → Wired N I G ps so co → Feeds N y x
    y-feeds N w = subst (λ (z : Copy). Feeds N z x) (sym this) (pin-of-feeds w x (s.trail.inside x m) j few)

    pub denied-input : y.node < I → Denied I G border ps so co L v
    denied-input low N w R b = refuted-input x y (s.walked N w) m (y-feeds N w) (input_no_gate w y.node low) apart

    pub denied-full : I ≤ y.node → y.node < I + G → get_or marks (place width y) 0 ≡ 0 → length L * G ≤ len + depth → Denied I G border ps so co L v
    denied-full low high fresh full N w R b =
        refuted-full R x y (s.walked N w) m (y-feeds N w) (node-gate w y.node low high) apart (λ k. met-marked s.trail y k fresh)
        (subst (λ (z : ℕ). length L * z ≤ length s.met) (sym w.gates) (omega (arith, full, s.trail.long)))

    pub denied-beyond : I ≤ y.node → y.node < I + G → border < y.back → Denied I G border ps so co L v
    denied-beyond low high far N w R b K i l =
        let g = node-gate w y.node low high in
        let k = (walked_more x y (s.walked N w) m (y-feeds N w) g apart (λ n. lt_irrefl y.back (omega (arith, far, (s.trail.inside y n).near)))).inside K i l y (in_append_right s.met
        (here refl)) in
        lt_irrefl border (omega (arith, far, b, reach R i l y k))

  -- ---- the end

  module _ (e : depth ≡ 0) where
    listed : (c : Copy) → ((p : ℕ) × (p < len) × (copy_at us ds p ≡ c)) ⊎ ((k : ℕ) × (k < depth) × (copy_at hs bs k ≡ c)) → (p : ℕ) × (p < len) × (copy_at us ds p ≡ c)
    listed c (inl p) = p
    listed c (inr k) = absurd (omega (arith, k.1, e))

    pub place_of : (c : Copy) → c ∈ s.met → (p : ℕ) × (p < len) × (copy_at us ds p ≡ c)
    place_of c m = listed c (s.trail.split c m)

    met-listed : (c : Copy) → c ∈ copies_in us ds len → c ∈ s.met
    met-listed c m = let q = copies_in_in us ds len m in in_equal (sym q.2) (s.trail.written q.0 q.1)

    pub mixed : Mixed s.met (copies_in us ds len)
    mixed = record {
      long = omega (arith, length-copies_in us ds len, s.trail.long, e);
      stay = λ c m. let p = place_of c m in in_equal (sym p.2) (in_copies_in us ds len p.0 p.1);
      come = met-listed;
    }

    -- a pin of a copy that was met
    pin_at : (N : Net) → Wired N I G ps so co → (x y : Copy) → x ∈ s.met → Feeds N y x → (j : ℕ) × (j < pins_of I ps x) × (pin_of I so co x j ≡ y)
    pin_at N w x y m f = feeds-pin w (x.node - I) x.back y (inside-gate x (s.trail.inside x m)) (subst (Feeds N y) (sym (inside-copy x (s.trail.inside x m))) f)

    known_at : (x : Copy) → x ∈ s.met → (j : ℕ) → j < pins_of I ps x → Known L seen s.met (pin_of I so co x j)
    known_at x m j h =
        let p = place_of x m in
        subst (λ (c : Copy). Known L seen s.met (pin_of I so co c j)) p.2 (s.closed p.0 p.1 j (subst (λ (c : Copy). j < pins_of I ps c) (sym p.2) h))

    closed-met : (N : Net) → Wired N I G ps so co → (x : Copy) → x ∈ s.met → Closed N L s.met x
    closed-met N w x m y f =
        let r = pin_at N w x y m f in
        subst (λ (c : Copy). (c ∈ s.met) ⊎ (c ∈ L)) r.2 (known-copy L seen (known_at x m r.0 r.1))

    -- each leaf is touched
    module _ (rising : Rising L) (all : (i : ℕ) → i < length L → ¬ (get_or seen i 0 ≡ 0)) where
      touched : (N : Net) → Wired N I G ps so co → (y : Copy) → y ∈ L → (x : Copy) × (x ∈ s.met) × Feeds N y x
      touched N w y l =
          let i = get_or_in l in
          let f = s.fed i.0 i.1 (all i.0 i.1) in
          (f.0, f.1, subst (λ (c : Copy). Feeds N c f.0) (f.2.2 ∙ i.2 nobody) (pin-of-feeds w f.0 (s.trail.inside f.0 f.1) f.2.0 f.2.1))

      sources-first : (N : Net) → Wired N I G ps so co → Loopless N → SourcesFirst N (copies_in us ds len)
      sources-first N w A p h y i f = go (s.order N w (levels A) p k r.0 r.1)
        where
          k : p < len
          k = omega (arith, h, length-copies_in us ds len)

          r : (j : ℕ) × (j < pins_of I ps (copy_at us ds p)) × (pin_of I so co (copy_at us ds p) j ≡ y)
          r = pin_at N w (copy_at us ds p) y (s.trail.written p k) (subst (Feeds N y) (get_or_copies_in us ds len p (copy 0 0) k) f)

          go : ((q : ℕ) × (q < p) × (copy_at us ds q ≡ pin_of I so co (copy_at us ds p) r.0)) ⊎ (pin_of I so co (copy_at us ds p) r.0 ∈ L)
              → (q : ℕ) × (q < p) × (get_or (copies_in us ds len) q (copy 0 0) ≡ y)
          go (inl q) = (q.0, q.1, get_or_copies_in us ds len q.0 (copy 0 0) (omega (arith, q.1, k)) ∙ q.2 ∙ r.2)
          go (inr l) = absurd ((s.walked N w).apart y (met-listed y i) (in_equal (sym r.2) l))

      pub told-cut : len ≤ length us → ToldCut I G width border ps so co L v us ds marks len
      told-cut fits = record {
        some = (s.last e).0;
        inside = λ c m. s.trail.inside c (met-listed c m);
        close = λ k counts c m. subst (λ (z : ℕ). c.back + k ≤ z * k) {x = length s.met} {y = len} (omega (arith, s.trail.long, e)) (s.close k counts c (met-listed c m));
        cone = λ N w. mixed-cone mixed (walked-cone (s.walked N w));
        leaves = λ N w. mixed-leaves mixed (walked-leaves rising (s.walked N w) (closed-met N w) (touched N w));
        order = sources-first;
        last = (s.last e).1;
        fits = fits;
        seated = trail-seated s.trail e;
      }

    -- some leaf is untouched
    pub denied-untouched : Rising L → (i : ℕ) → i < length L → get_or seen i 0 ≡ 0 → Denied I G border ps so co L v
    denied-untouched rising i h z N w R b K c l = go (known_at x x-met r.0 r.1)
      where
        leaf : Copy
        leaf = get_or L i nobody

        y : Leaf N K leaf
        y = l.sound leaf (in_get_or L i nobody h)

        x : Copy
        x = y.member

        x-met : x ∈ s.met
        x-met = closed_all (s.walked N w) (closed-met N w) K c l x y.is_member

        r : (j : ℕ) × (j < pins_of I ps x) × (pin_of I so co x j ≡ leaf)
        r = pin_at N w x leaf x-met y.feeds

        go : Known L seen s.met (pin_of I so co x r.0) → ⊥
        go (inl m) = (s.walked N w).apart leaf (in_equal (sym r.2) m) (in_get_or L i nobody h)
        go (inr (k, g, e, n)) = n (ap (λ (a : ℕ). get_or seen a 0) (place-once L rising k i g h (e ∙ r.2)) ∙ z)
