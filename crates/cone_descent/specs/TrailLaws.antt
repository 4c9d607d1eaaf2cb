-- Laws of the copies met: one more is opened, the top one is left.
use Rattle.std.specs.Prelude.{◌≡◌, refl, List, [], ◌∷◌, ◌++◌, ◌⊎◌, ℕ, ◌+◌, ◌*◌, ◌/◌, ◌%◌, ◌<◌, length, get_or, set}
use Rattle.std.proofs.Common.{sym, ap, ◌∙◌, subst, inl, inr, mod-eq_of_lt, not-suc-le-zero, mul-le-mul_right, suc-mul, arith, length-append, get_or-set_same, get_or-set_other}
use Rattle.std.proofs.Math.Nat.{mul-add-div_right, mul-add-mod_self_right, div-eq_of_lt}
use Rattle.std.proofs.Math.Decide.{ℕ_discrete}
use Rattle.sequences.specs.Member.{◌∈◌, here, there, not_in_nil, in_equal, in_append_left, in_append_right, in_append_cases}
use Rattle.net_model.specs.Arrays.{copy_at}
use Rattle.net_model.specs.Copies.{Copy, copy}
use Rattle.net_model.proofs.CopyLaws.{copy-path}
use Rattle.cone_descent.specs.Descent.{place, Inside, Trail, Clear, seat_mark, open_mark}

-- ---- places

node_at : (u d w : ℕ) → d < w → (u * w + d) / w ≡ u
node_at u d w h = mul-add-div_right (omega arith) u d ∙ omega (arith, div-eq_of_lt h)

back_at : (u d w : ℕ) → d < w → (u * w + d) % w ≡ d
back_at u d w h = mul-add-mod_self_right u w d ∙ mod-eq_of_lt h

-- one copy at a place
pub place_same : (width : ℕ) (a b : Copy) → a.back < width → b.back < width → place width a ≡ place width b → a ≡ b
place_same width a b h k e = copy-path
    (sym (node_at a.node a.back width h) ∙ ap (λ (z : ℕ). z / width) e ∙ node_at b.node b.back width k)
    (sym (back_at a.node a.back width h) ∙ ap (λ (z : ℕ). z % width) e ∙ back_at b.node b.back width k)

pub place-below : (width n : ℕ) (c : Copy) → c.node < n → c.back < width → place width c < n * width
place-below width n c h k = omega (arith, mul-le-mul_right width h, suc-mul c.node width)

-- ---- copies in arrays

module _ (us ds : List ℕ) (n u d : ℕ) where
  pub copy_at_same : n < length us → n < length ds → copy_at (set us n u) (set ds n d) n ≡ copy u d
  copy_at_same h k = copy-path (get_or-set_same us n u 0 h) (get_or-set_same ds n d 0 k)

  pub copy_at_other : (p : ℕ) → ¬ (p ≡ n) → copy_at (set us n u) (set ds n d) p ≡ copy_at us ds p
  copy_at_other p m = copy-path (get_or-set_other us n p u 0 m) (get_or-set_other ds n p d 0 m)

pub less_other : {p n : ℕ} → p < n → p ≡ n → ⊥
less_other h e = omega arith

-- ---- the trail

module _ {I G width border : ℕ} where
  pub trail-none : {us ds hs bs marks : List ℕ} → Clear marks → Trail I G width border us ds 0 hs bs 0 marks []
  trail-none clear = record {
    long = refl;
    written = λ p h. absurd (not-suc-le-zero h);
    stacked = λ k h. absurd (not-suc-le-zero h);
    split = λ c m. absurd (not_in_nil m);
    inside = λ c m. absurd (not_in_nil m);
    once = λ k l h g. absurd (not-suc-le-zero g);
    seats = λ p h. absurd (not-suc-le-zero h);
    opened = λ k h. absurd (not-suc-le-zero h);
    sound = λ q n. absurd (n (clear q));
  }

  module _ {us ds : List ℕ} {len : ℕ} {hs bs : List ℕ} {depth : ℕ} {marks : List ℕ} {met : List Copy} (t : Trail I G width border us ds len hs bs depth marks met) where
    -- what was met is marked
    pub met-marked : (c : Copy) → c ∈ met → ¬ (get_or marks (place width c) 0 ≡ 0)
    met-marked c m z = go (t.split c m)
      where
        go : ((p : ℕ) × (p < len) × (copy_at us ds p ≡ c)) ⊎ ((k : ℕ) × (k < depth) × (copy_at hs bs k ≡ c)) → ⊥
        go (inl p) = omega (arith, t.seats p.0 p.1, ap (λ (x : Copy). get_or marks (place width x) 0) p.2, z)
        go (inr k) = omega (arith, t.opened k.0 k.1, ap (λ (x : Copy). get_or marks (place width x) 0) k.2, z)

    -- what is marked was met
    pub marked-met : border < width → (c : Copy) → c.back < width → ¬ (get_or marks (place width c) 0 ≡ 0) → c ∈ met
    marked-met wide c h n =
        let s = t.sound (place width c) n in
        in_equal (sym (place_same width s.0 c (omega (arith, (t.inside s.0 s.1).near)) h s.2)) s.1

    -- one copy more
    module _ (y : Copy) (i : Inside I G border y) (z : get_or marks (place width y) 0 ≡ 0) (room : place width y < length marks) (hh : depth < length hs) (hb : depth < length bs) where
      abbrev more : Type 0
      more = Trail I G width border us ds len (set hs depth y.node) (set bs depth y.back) (depth + 1) (set marks (place width y) open_mark) (met ++ (y ∷ []))

      at_top : copy_at (set hs depth y.node) (set bs depth y.back) depth ≡ y
      at_top = copy_at_same hs bs depth y.node y.back hh hb

      under : (k : ℕ) → ¬ (k ≡ depth) → copy_at (set hs depth y.node) (set bs depth y.back) k ≡ copy_at hs bs k
      under k n = copy_at_other hs bs depth y.node y.back k n

      elsewhere : (c : Copy) → ¬ (get_or marks (place width c) 0 ≡ 0) → get_or (set marks (place width y) open_mark) (place width c) 0 ≡ get_or marks (place width c) 0
      elsewhere c n = get_or-set_other marks (place width y) (place width c) open_mark 0 (λ e. n (ap (λ (q : ℕ). get_or marks q 0) e ∙ z))

      stacked' : (k : ℕ) → k < depth + 1 → Dec (k ≡ depth) → copy_at (set hs depth y.node) (set bs depth y.back) k ∈ met ++ (y ∷ [])
      stacked' k h (yes e) = in_equal (ap (copy_at (set hs depth y.node) (set bs depth y.back)) e ∙ at_top) (in_append_right met (here refl))
      stacked' k h (no n) = in_equal (under k n) (in_append_left (y ∷ []) (t.stacked k (omega arith)))

      split' : (c : Copy) → (c ∈ met) ⊎ (c ∈ y ∷ []) → ((p : ℕ) × (p < len) × (copy_at us ds p ≡ c)) ⊎ ((k : ℕ) × (k < depth + 1) × (copy_at (set hs depth y.node) (set bs depth y.back) k ≡ c))
      split' c (inl m) = go (t.split c m)
        where
          go : ((p : ℕ) × (p < len) × (copy_at us ds p ≡ c)) ⊎ ((k : ℕ) × (k < depth) × (copy_at hs bs k ≡ c))
              → ((p : ℕ) × (p < len) × (copy_at us ds p ≡ c)) ⊎ ((k : ℕ) × (k < depth + 1) × (copy_at (set hs depth y.node) (set bs depth y.back) k ≡ c))
          go (inl p) = inl p
          go (inr k) = inr (k.0, omega (arith, k.1), under k.0 (less_other k.1) ∙ k.2)
      split' c (inr (here e)) = inr (depth, omega arith, at_top ∙ sym e)
      split' c (inr (there m)) = absurd (not_in_nil m)

      inside' : (c : Copy) → (c ∈ met) ⊎ (c ∈ y ∷ []) → Inside I G border c
      inside' c (inl m) = t.inside c m
      inside' c (inr (here e)) = subst (Inside I G border) (sym e) i
      inside' c (inr (there m)) = absurd (not_in_nil m)

      once' : (k l : ℕ) → k < l → l < depth + 1 → Dec (l ≡ depth) → copy_at (set hs depth y.node) (set bs depth y.back) k ≡ copy_at (set hs depth y.node) (set bs depth y.back) l → ⊥
      once' k l h g (yes e) q =
          let b : k < depth = omega arith in
          let same : copy_at hs bs k ≡ y = sym (under k (less_other b)) ∙ q ∙ ap (copy_at (set hs depth y.node) (set bs depth y.back)) e ∙ at_top in
          omega (arith, t.opened k b, ap (λ (x : Copy). get_or marks (place width x) 0) same, z)
      once' k l h g (no n) q =
          let b : l < depth = omega arith in
          t.once k l h b (sym (under k (λ e. less_other {p = k} {n = depth} (omega arith) e)) ∙ q ∙ under l n)

      opened' : (k : ℕ) → k < depth + 1 → Dec (k ≡ depth) → get_or (set marks (place width y) open_mark) (place width (copy_at (set hs depth y.node) (set bs depth y.back) k)) 0 ≡ open_mark
      opened' k h (yes e) =
          ap (λ (x : Copy). get_or (set marks (place width y) open_mark) (place width x) 0) (ap (copy_at (set hs depth y.node) (set bs depth y.back)) e ∙ at_top)
          ∙ get_or-set_same marks (place width y) open_mark 0 room
      opened' k h (no n) =
          let b : k < depth = omega arith in
          ap (λ (x : Copy). get_or (set marks (place width y) open_mark) (place width x) 0) (under k n)
          ∙ elsewhere (copy_at hs bs k) (met-marked (copy_at hs bs k) (t.stacked k b)) ∙ t.opened k b

      sound' : (q : ℕ) → Dec (q ≡ place width y) → ¬ (get_or (set marks (place width y) open_mark) q 0 ≡ 0) → (c : Copy) × (c ∈ met ++ (y ∷ [])) × (place width c ≡ q)
      sound' q (yes e) n = (y, in_append_right met (here refl), sym e)
      sound' q (no m) n =
          let s = t.sound q (λ e. n (get_or-set_other marks (place width y) q open_mark 0 m ∙ e)) in
          (s.0, in_append_left (y ∷ []) s.1, s.2)

      pub trail_push : more
      trail_push = record {
        long = omega (arith, t.long, length-append met (y ∷ []));
        written = λ p h. in_append_left (y ∷ []) (t.written p h);
        stacked = λ k h. stacked' k h (ℕ_discrete k depth);
        split = λ c m. split' c (in_append_cases met m);
        inside = λ c m. inside' c (in_append_cases met m);
        once = λ k l h g. once' k l h g (ℕ_discrete l depth);
        seats = λ p h. elsewhere (copy_at us ds p) (met-marked (copy_at us ds p) (t.written p h)) ∙ t.seats p h;
        opened = λ k h. opened' k h (ℕ_discrete k depth);
        sound = λ q n. sound' q (ℕ_discrete q (place width y)) n;
      }

  -- the top copy x is left
  module _ {us ds : List ℕ} {len : ℕ} {hs bs marks : List ℕ} {met : List Copy} (d : ℕ) (t : Trail I G width border us ds len hs bs (d + 1) marks met)
      (wide : border < width) (x : Copy) (this : copy_at hs bs d ≡ x) (room : place width x < length marks) (hu : len < length us) (hd : len < length ds) where
    x-met : x ∈ met
    x-met = in_equal (sym this) (t.stacked d (omega arith))

    x_open : get_or marks (place width x) 0 ≡ open_mark
    x_open = ap (λ (c : Copy). get_or marks (place width c) 0) (sym this) ∙ t.opened d (omega arith)

    at_end_lem : copy_at (set us len x.node) (set ds len x.back) len ≡ x
    at_end_lem = copy_at_same us ds len x.node x.back hu hd

    before : (p : ℕ) → ¬ (p ≡ len) → copy_at (set us len x.node) (set ds len x.back) p ≡ copy_at us ds p
    before p n = copy_at_other us ds len x.node x.back p n

    off : (q : ℕ) → ¬ (q ≡ place width x) → get_or (set marks (place width x) (seat_mark len)) q 0 ≡ get_or marks q 0
    off q n = get_or-set_other marks (place width x) q (seat_mark len) 0 n

    written-left : (p : ℕ) → p < len + 1 → Dec (p ≡ len) → copy_at (set us len x.node) (set ds len x.back) p ∈ met
    written-left p h (yes e) = in_equal (ap (copy_at (set us len x.node) (set ds len x.back)) e ∙ at_end_lem) x-met
    written-left p h (no n) = in_equal (before p n) (t.written p (omega arith))

    split-left : (c : Copy) → ((p : ℕ) × (p < len) × (copy_at us ds p ≡ c)) ⊎ ((k : ℕ) × (k < d + 1) × (copy_at hs bs k ≡ c))
        → ((p : ℕ) × (p < len + 1) × (copy_at (set us len x.node) (set ds len x.back) p ≡ c)) ⊎ ((k : ℕ) × (k < d) × (copy_at hs bs k ≡ c))
    split-left c (inl p) = inl (p.0, omega (arith, p.1), before p.0 (less_other p.1) ∙ p.2)
    split-left c (inr k) = go (ℕ_discrete k.0 d)
      where
        go : Dec (k.0 ≡ d) → ((p : ℕ) × (p < len + 1) × (copy_at (set us len x.node) (set ds len x.back) p ≡ c)) ⊎ ((k : ℕ) × (k < d) × (copy_at hs bs k ≡ c))
        go (yes e) = inl (len, omega arith, at_end_lem ∙ sym this ∙ ap (copy_at hs bs) (sym e) ∙ k.2)
        go (no n) = inr (k.0, omega (arith, k.1), k.2)

    seats-left : (p : ℕ) → p < len + 1 → Dec (p ≡ len) → get_or (set marks (place width x) (seat_mark len)) (place width (copy_at (set us len x.node) (set ds len x.back) p)) 0 ≡ seat_mark p
    seats-left p h (yes e) =
        ap (λ (c : Copy). get_or (set marks (place width x) (seat_mark len)) (place width c) 0) (ap (copy_at (set us len x.node) (set ds len x.back)) e ∙ at_end_lem)
        ∙ get_or-set_same marks (place width x) (seat_mark len) 0 room ∙ ap seat_mark (sym e)
    seats-left p h (no n) =
        let b : p < len = omega arith in
        ap (λ (c : Copy). get_or (set marks (place width x) (seat_mark len)) (place width c) 0) (before p n)
        ∙ off (place width (copy_at us ds p)) (λ e. other b e) ∙ t.seats p b
      where
        other : p < len → place width (copy_at us ds p) ≡ place width x → ⊥
        other b e = omega (arith, t.seats p b, ap (λ (q : ℕ). get_or marks q 0) e, x_open)

    opened-left : (k : ℕ) → k < d → get_or (set marks (place width x) (seat_mark len)) (place width (copy_at hs bs k)) 0 ≡ open_mark
    opened-left k h = off (place width (copy_at hs bs k)) (λ e. t.once k d h (omega arith) (same e)) ∙ t.opened k (omega arith)
      where
        same : place width (copy_at hs bs k) ≡ place width x → copy_at hs bs k ≡ copy_at hs bs d
        same e = place_same width (copy_at hs bs k) x (omega (arith, (t.inside (copy_at hs bs k) (t.stacked k (omega arith))).near)) (omega (arith, (t.inside x x-met).near)) e ∙ sym this

    sound-left : (q : ℕ) → Dec (q ≡ place width x) → ¬ (get_or (set marks (place width x) (seat_mark len)) q 0 ≡ 0) → (c : Copy) × (c ∈ met) × (place width c ≡ q)
    sound-left q (yes e) n = (x, x-met, sym e)
    sound-left q (no m) n = t.sound q (λ e. n (off q m ∙ e))

    pub trail_pop : Trail I G width border (set us len x.node) (set ds len x.back) (len + 1) hs bs d (set marks (place width x) (seat_mark len)) met
    trail_pop = record {
      long = omega (arith, t.long);
      written = λ p h. written-left p h (ℕ_discrete p len);
      stacked = λ k h. t.stacked k (omega arith);
      split = λ c m. split-left c (t.split c m);
      inside = t.inside;
      once = λ k l h g. t.once k l h (omega arith);
      seats = λ p h. seats-left p h (ℕ_discrete p len);
      opened = opened-left;
      sound = λ q n. sound-left q (ℕ_discrete q (place width x)) n;
    }
