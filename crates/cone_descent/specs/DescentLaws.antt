-- Laws of the walk: its start, a pin passed, a leaf touched, a copy opened, a copy left.
use Rattle.std.specs.Prelude.{◌≡◌, refl, List, [], ◌∷◌, ◌++◌, ◌⊎◌, ℕ, zero, suc, ◌+◌, ◌-◌, ◌*◌, ◌≤◌, ◌<◌, length, get_or, set}
use Rattle.std.proofs.Math.Path.{sym}
use Rattle.std.proofs.Common.{ap, ◌∙◌, subst, inr, not-suc-le-zero, lt_irrefl, suc-mul, arith, length-append, get_or-set_same, get_or-set_other}
use Rattle.std.proofs.Math.Logic.{inl}
use Rattle.std.proofs.Math.Decide.{ℕ_discrete}
use Rattle.sequences.specs.Member.{◌∈◌, here, there, not_in_nil, in_equal, in_get_or, Within, in_append_left, in_append_right, in_append_cases}
use Rattle.net_model.specs.Net.{Net}
use Rattle.net_model.specs.Arrays.{copy_at}
use Rattle.net_model.specs.Copies.{Copy, copy, Feeds}
use Rattle.net_model.proofs.CopyLaws.{copy-path}
use Rattle.net_model.specs.Wired.{Wired}
use Rattle.cone_theory.specs.CopyOrder.{Levels, measure, feeds-measure}
use Rattle.cone_copies.specs.CopyPinLaws.{pin-feeds}
use Rattle.cone_walk.specs.Walking.{walked-root, walked_more, node-gate}
use Rattle.cone_descent.specs.Descent.{nobody, place, Clear, seat_mark, Inside, pin_of, pins_of, Known, Counts, State}
use Rattle.cone_descent.specs.TrailLaws.{copy_at_same, copy_at_other, less_other, trail-none, trail_push, trail_pop, met-marked}

-- ---- pins

-- a copy inside is a copy of gate node − I
pub inside-copy : {I G border : ℕ} (c : Copy) → Inside I G border c → copy (I + (c.node - I)) c.back ≡ c
inside-copy c i = copy-path (omega (arith, i.low)) refl

pub inside-gate : {I G border : ℕ} (c : Copy) → Inside I G border c → c.node - I < G
inside-gate c i = omega (arith, i.low, i.high)

pub pin-of-feeds : {N : Net} {I G border : ℕ} {ps so co : List ℕ} → Wired N I G ps so co → (c : Copy) → Inside I G border c → (j : ℕ) → j < pins_of I ps c → Feeds N (pin_of I so co c j) c
pin-of-feeds {N} {I} {so = so} {co = co} w c i j h = subst (Feeds N (pin_of I so co c j)) (inside-copy c i) (pin-feeds w (c.node - I) c.back j (inside-gate c i) h)

-- ---- what is known stays known

pub known_more : (L : List Copy) (seen seen' : List ℕ) {met met' : List Copy} {y : Copy} → Within met met' → ((i : ℕ) → ¬ (get_or seen i 0 ≡ 0) → ¬ (get_or seen' i 0 ≡ 0)) → Known L seen met y
    → Known L seen' met' y
known_more L seen seen' w s (inl m) = inl (w _ m)
known_more L seen seen' w s (inr (i, h, e, n)) = inr (i, h, e, s i n)

pub known-copy : (L : List Copy) (seen : List ℕ) {met : List Copy} {y : Copy} → Known L seen met y → (y ∈ met) ⊎ (y ∈ L)
known-copy L seen (inl m) = inl m
known-copy L seen (inr (i, h, e, n)) = inr (in_equal (sym e) (in_get_or L i nobody h))

module _ {I G width border : ℕ} {ps so co : List ℕ} {L : List Copy} {v : ℕ} where
  -- the root is opened
  pub state-start : (us ds hs bs ts marks seen : List ℕ) → I ≤ v → v < I + G → ¬ (copy v 0 ∈ L) → Clear marks → Clear seen → v * width + 0 < length marks
      → 0 < length hs → 0 < length bs → 0 < length ts
      → State I G width border ps so co L v us ds 0 (set hs 0 v) (set bs 0 0) (set ts 0 0) 1 (set marks (v * width + 0) 1) seen
  state-start us ds hs bs ts marks seen low high apart clear unseen room hh hb ht = record {
    met = copy v 0 ∷ [];
    trail = trail_push {hs = hs} {bs = bs} {marks = marks} (trail-none clear) (copy v 0) inside (clear (v * width + 0)) room hh hb;
    few = λ k h. omega (arith, fresh k h);
    turned = λ k h j g. absurd (not-suc-le-zero (subst (λ (z : ℕ). j < z) (fresh k h) g));
    closed = λ p h. absurd (not-suc-le-zero h);
    fed = λ i h n. absurd (n (unseen i));
    close = λ m counts c k. only m c k;
    walked = λ N w. walked-root (node-gate w v low high) apart;
    falls = λ N w O k l h g. absurd (single h g);
    order = λ N w O p h. absurd (not-suc-le-zero h);
    base = λ h. copy_at_same hs bs 0 v 0 hh hb;
    last = λ e. absurd (omega (arith, e));
  }
    where
      inside : Inside I G border (copy v 0)
      inside = record { low = low; high = high; near = omega arith }

      fresh : (k : ℕ) → k < 1 → get_or (set ts 0 0) k 0 ≡ 0
      fresh zero h = get_or-set_same ts 0 0 0 ht
      fresh (suc k) h = absurd (omega (arith, h))

      only : (m : ℕ) (c : Copy) → c ∈ copy v 0 ∷ [] → c.back + m ≤ 1 * m
      only m c (here e) = omega (arith, ap (λ (z : Copy). z.back) e)
      only m c (there k) = absurd (not_in_nil k)

      single : {k l : ℕ} → k < l → l < 1 → ⊥
      single h g = omega arith

  module _ (us ds : List ℕ) (len : ℕ) (hs bs ts : List ℕ) (depth : ℕ) (marks seen : List ℕ) (s : State I G width border ps so co L v us ds len hs bs ts depth marks seen) where
    -- pin j of the copy at place k of the stack is passed
    pub state-turn : (k j : ℕ) → k < depth → k < length ts → get_or ts k 0 ≡ j → j < pins_of I ps (copy_at hs bs k) → Known L seen s.met (pin_of I so co (copy_at hs bs k) j)
        → State I G width border ps so co L v us ds len hs bs (set ts k (j + 1)) depth marks seen
    state-turn k j h r e few known = record {
      met = s.met;
      trail = s.trail;
      few = λ i g. few' i g (ℕ_discrete i k);
      turned = λ i g l q. turned' i g l (ℕ_discrete i k) q;
      closed = s.closed;
      fed = s.fed;
      close = s.close;
      walked = s.walked;
      falls = s.falls;
      order = s.order;
      base = s.base;
      last = s.last;
    }
      where
        few' : (i : ℕ) → i < depth → Dec (i ≡ k) → get_or (set ts k (j + 1)) i 0 ≤ pins_of I ps (copy_at hs bs i)
        few' i g (yes q) = subst (λ (z : ℕ). get_or (set ts k (j + 1)) z 0 ≤ pins_of I ps (copy_at hs bs z)) (sym q) (omega (arith, get_or-set_same ts k (j + 1) 0 r, few))
        few' i g (no n) = omega (arith, get_or-set_other ts k i (j + 1) 0 n, s.few i g)

        at : (l : ℕ) → l < j + 1 → Dec (l ≡ j) → Known L seen s.met (pin_of I so co (copy_at hs bs k) l)
        at l q (yes z) = subst (λ (x : ℕ). Known L seen s.met (pin_of I so co (copy_at hs bs k) x)) (sym z) known
        at l q (no n) = s.turned k h l (omega (arith, e))

        turned' : (i : ℕ) → i < depth → (l : ℕ) → Dec (i ≡ k) → l < get_or (set ts k (j + 1)) i 0 → Known L seen s.met (pin_of I so co (copy_at hs bs i) l)
        turned' i g l (yes z) q = subst (λ (x : ℕ). Known L seen s.met (pin_of I so co (copy_at hs bs x) l)) (sym z)
            (at l (omega (arith, ap (λ (x : ℕ). get_or (set ts k (j + 1)) x 0) z, get_or-set_same ts k (j + 1) 0 r)) (ℕ_discrete l j))
        turned' i g l (no n) q = s.turned i g l (omega (arith, get_or-set_other ts k i (j + 1) 0 n))

    -- leaf i is touched by pin j of a copy x
    pub state_touch : (i : ℕ) → i < length L → i < length seen → (x : Copy) → x ∈ s.met → (j : ℕ) → j < pins_of I ps x → pin_of I so co x j ≡ get_or L i nobody
        → State I G width border ps so co L v us ds len hs bs ts depth marks (set seen i 1)
    state_touch i h r x m j g e = record {
      met = s.met;
      trail = s.trail;
      few = s.few;
      turned = λ k a l b. known_more L seen (set seen i 1) (λ c z. z) grows (s.turned k a l b);
      closed = λ p a l b. known_more L seen (set seen i 1) (λ c z. z) grows (s.closed p a l b);
      fed = λ l a n. fed' l a n (ℕ_discrete l i);
      close = s.close;
      walked = s.walked;
      falls = s.falls;
      order = s.order;
      base = s.base;
      last = s.last;
    }
      where
        grows : (l : ℕ) → ¬ (get_or seen l 0 ≡ 0) → ¬ (get_or (set seen i 1) l 0 ≡ 0)
        grows l n z = go (ℕ_discrete l i)
          where
            go : Dec (l ≡ i) → ⊥
            go (yes q) = omega (arith, ap (λ (a : ℕ). get_or (set seen i 1) a 0) q, get_or-set_same seen i 1 0 r, z)
            go (no o) = n (sym (get_or-set_other seen i l 1 0 o) ∙ z)

        fed' : (l : ℕ) → l < length L → ¬ (get_or (set seen i 1) l 0 ≡ 0) → Dec (l ≡ i) → (x : Copy) × (x ∈ s.met) × ((j : ℕ) × (j < pins_of I ps x) × (pin_of I so co x j ≡ get_or L l nobody))
        fed' l a n (yes q) = (x, m, (j, g, e ∙ ap (λ (b : ℕ). get_or L b nobody) (sym q)))
        fed' l a n (no o) = s.fed l a (λ z. n (get_or-set_other seen i l 1 0 o ∙ z))

    -- copy y, which pin j of the top copy reads, is opened
    module _ (d : ℕ) (e : depth ≡ d + 1) (j : ℕ) (few : j < pins_of I ps (copy_at hs bs d)) (y : Copy) (this : y ≡ pin_of I so co (copy_at hs bs d) j) (inside : Inside I G border y) (apart : ¬ (y ∈ L))
        (fresh : get_or marks (place width y) 0 ≡ 0) (room : place width y < length marks) (hh : depth < length hs) (hb : depth < length bs) (ht : depth < length ts) where
      top-met : copy_at hs bs d ∈ s.met
      top-met = s.trail.stacked d (omega arith)

      y-feeds : (N : Net) → Wired N I G ps so co → Feeds N y (copy_at hs bs d)
      y-feeds N w = subst (λ (z : Copy). Feeds N z (copy_at hs bs d)) (sym this) (pin-of-feeds w (copy_at hs bs d) (s.trail.inside (copy_at hs bs d) top-met) j few)

      more : Within s.met (s.met ++ (y ∷ []))
      more c m = in_append_left (y ∷ []) m

      old : (k : ℕ) → ¬ (k ≡ depth) → copy_at (set hs depth y.node) (set bs depth y.back) k ≡ copy_at hs bs k
      old k n = copy_at_other hs bs depth y.node y.back k n

      new : copy_at (set hs depth y.node) (set bs depth y.back) depth ≡ y
      new = copy_at_same hs bs depth y.node y.back hh hb

      none : (k : ℕ) → k ≡ depth → get_or (set ts depth 0) k 0 ≡ 0
      none k z = ap (λ (x : ℕ). get_or (set ts depth 0) x 0) z ∙ get_or-set_same ts depth 0 0 ht

      few_push : (k : ℕ) → k < depth + 1 → Dec (k ≡ depth) → get_or (set ts depth 0) k 0 ≤ pins_of I ps (copy_at (set hs depth y.node) (set bs depth y.back) k)
      few_push k h (yes z) = omega (arith, none k z)
      few_push k h (no n) = omega (arith, get_or-set_other ts depth k 0 0 n, s.few k (omega arith), ap (pins_of I ps) (old k n))

      turned_push : (k : ℕ) → k < depth + 1 → (l : ℕ) → Dec (k ≡ depth) → l < get_or (set ts depth 0) k 0
          → Known L seen (s.met ++ (y ∷ [])) (pin_of I so co (copy_at (set hs depth y.node) (set bs depth y.back) k) l)
      turned_push k h l (yes z) q = absurd (not-suc-le-zero (subst (λ (x : ℕ). l < x) (none k z) q))
      turned_push k h l (no n) q = subst (λ (c : Copy). Known L seen (s.met ++ (y ∷ [])) (pin_of I so co c l)) (sym (old k n))
          (known_more L seen seen more (λ i b. b) (s.turned k (omega arith) l (omega (arith, get_or-set_other ts depth k 0 0 n))))

      falls_push : (N : Net) → Wired N I G ps so co → (O : Levels N) → (k l : ℕ) → k < l → l < depth + 1 → Dec (l ≡ depth)
          → measure O border (copy_at (set hs depth y.node) (set bs depth y.back) l) < measure O border (copy_at (set hs depth y.node) (set bs depth y.back) k)
      falls_push N w O k l h g (no n) =
          let a : ¬ (k ≡ depth) = less_other (omega arith) in
          omega (arith, ap (measure O border) (old l n), ap (measure O border) (old k a), s.falls N w O k l h (omega arith))
      falls_push N w O k l h g (yes z) = go (ℕ_discrete k d)
        where
          below : measure O border y < measure O border (copy_at hs bs d)
          below = feeds-measure O border (y-feeds N w) inside.near

          at : copy_at (set hs depth y.node) (set bs depth y.back) l ≡ y
          at = ap (copy_at (set hs depth y.node) (set bs depth y.back)) z ∙ new

          go : Dec (k ≡ d) → measure O border (copy_at (set hs depth y.node) (set bs depth y.back) l) < measure O border (copy_at (set hs depth y.node) (set bs depth y.back) k)
          go (yes q) = omega (arith, below, ap (measure O border) at, ap (measure O border) (old k (less_other (omega arith))), ap (λ (x : ℕ). measure O border (copy_at hs bs x)) q)
          go (no n) = omega (arith, below, ap (measure O border) at, ap (measure O border) (old k (less_other (omega arith))), s.falls N w O k d (omega arith) (omega arith))

      close_push : (k : ℕ) → Counts G ps co k → (c : Copy) → (c ∈ s.met) ⊎ (c ∈ y ∷ []) → c.back + k ≤ length (s.met ++ (y ∷ [])) * k
      close_push k counts c h = subst (λ (z : ℕ). c.back + k ≤ z * k) {x = suc (length s.met)} {y = length (s.met ++ (y ∷ []))} (omega (arith, length-append s.met (y ∷ []))) (at h)
        where
          i : Inside I G border (copy_at hs bs d)
          i = s.trail.inside (copy_at hs bs d) top-met

          at : (c ∈ s.met) ⊎ (c ∈ y ∷ []) → c.back + k ≤ suc (length s.met) * k
          at (inl m) = omega (arith, s.close k counts c m, suc-mul (length s.met) k)
          at (inr (here q)) = omega (
            arith,
            ap (λ (z : Copy). z.back) (q ∙ this),
            counts (get_or hs d 0 - I) j (inside-gate (copy_at hs bs d) i) few,
            s.close k counts (copy_at hs bs d) top-met,
            suc-mul (length s.met) k,
          )
          at (inr (there m)) = absurd (not_in_nil m)

      pub state_push : State I G width border ps so co L v us ds len (set hs depth y.node) (set bs depth y.back) (set ts depth 0) (depth + 1) (set marks (place width y) 1) seen
      state_push = record {
        met = s.met ++ (y ∷ []);
        trail = trail_push s.trail y inside fresh room hh hb;
        few = λ k h. few_push k h (ℕ_discrete k depth);
        turned = λ k h l q. turned_push k h l (ℕ_discrete k depth) q;
        closed = λ p h l q. known_more L seen seen more (λ i b. b) (s.closed p h l q);
        fed = λ i h n. let f = s.fed i h n in (f.0, more f.0 f.1, f.2);
        close = λ k counts c h. close_push k counts c (in_append_cases s.met h);
        walked = λ N w. walked_more (copy_at hs bs d) y (s.walked N w) top-met (y-feeds N w) (node-gate w y.node inside.low inside.high) apart (λ m. met-marked s.trail y m fresh);
        falls = λ N w O k l h g. falls_push N w O k l h g (ℕ_discrete l depth);
        order = s.order;
        base = λ h. old 0 (less_other (omega arith)) ∙ s.base (omega arith);
        last = λ z. absurd (omega (arith, z));
      }

      pub push_known : Known L seen state_push.met (pin_of I so co (copy_at (set hs depth y.node) (set bs depth y.back) d) j)
      unfolding state_push
      push_known = inl (in_equal (ap (λ (c : Copy). pin_of I so co c j) (old d (less_other (omega arith))) ∙ sym this) (in_append_right s.met (here refl)))

  -- the top copy x is left
  module _ (us ds : List ℕ) (len : ℕ) (hs bs ts : List ℕ) (d : ℕ) (marks seen : List ℕ) (s : State I G width border ps so co L v us ds len hs bs ts (d + 1) marks seen)
      (wide : border < width) (full : pins_of I ps (copy_at hs bs d) ≤ get_or ts d 0) (x : Copy) (this : copy_at hs bs d ≡ x) (room : place width x < length marks) (hu : len < length us)
      (hd : len < length ds) where
    x-known : (j : ℕ) → j < pins_of I ps x → Known L seen s.met (pin_of I so co x j)
    x-known j h = subst (λ (c : Copy). Known L seen s.met (pin_of I so co c j)) this (s.turned d (omega arith) j (omega (arith, full, ap (pins_of I ps) this)))

    before : (p : ℕ) → ¬ (p ≡ len) → copy_at (set us len x.node) (set ds len x.back) p ≡ copy_at us ds p
    before p n = copy_at_other us ds len x.node x.back p n

    at_end_lem : (p : ℕ) → p ≡ len → copy_at (set us len x.node) (set ds len x.back) p ≡ x
    at_end_lem p e = ap (copy_at (set us len x.node) (set ds len x.back)) e ∙ copy_at_same us ds len x.node x.back hu hd

    closed_pop : (p : ℕ) → p < len + 1 → Dec (p ≡ len) → (j : ℕ) → j < pins_of I ps (copy_at (set us len x.node) (set ds len x.back) p)
        → Known L seen s.met (pin_of I so co (copy_at (set us len x.node) (set ds len x.back) p) j)
    closed_pop p h (yes e) j q = subst (λ (c : Copy). Known L seen s.met (pin_of I so co c j)) (sym (at_end_lem p e)) (x-known j (omega (arith, q, ap (pins_of I ps) (at_end_lem p e))))
    closed_pop p h (no n) j q = subst (λ (c : Copy). Known L seen s.met (pin_of I so co c j)) (sym (before p n)) (s.closed p (omega arith) j (omega (arith, q, ap (pins_of I ps) (before p n))))

    -- what feeds x was left before, or is a leaf
    x-order : (N : Net) → Wired N I G ps so co → Levels N → (j : ℕ) → j < pins_of I ps x → ((q : ℕ) × (q < len) × (copy_at us ds q ≡ pin_of I so co x j)) ⊎ (pin_of I so co x j ∈ L)
    x-order N w O j h = go (known-copy L seen (x-known j h))
      where
        y : Copy
        y = pin_of I so co x j

        x-met : x ∈ s.met
        x-met = in_equal (sym this) (s.trail.stacked d (omega arith))

        below : y ∈ s.met → measure O border y < measure O border x
        below m = feeds-measure O border (pin-of-feeds w x (s.trail.inside x x-met) j h) (s.trail.inside y m).near

        bad : (k : ℕ) → k < d + 1 → copy_at hs bs k ≡ y → y ∈ s.met → Dec (k ≡ d) → ⊥
        bad k g e m (yes z) = lt_irrefl (measure O border x) (omega (arith, below m, ap (measure O border) e, ap (measure O border) this, ap (λ (a : ℕ). measure O border (copy_at hs bs a)) z))
        bad k g e m (no n) = lt_irrefl (measure O border x) (omega (arith, below m, ap (measure O border) e, ap (measure O border) this, s.falls N w O k d (omega arith) (omega arith)))

        found : y ∈ s.met → ((p : ℕ) × (p < len) × (copy_at us ds p ≡ y)) ⊎ ((k : ℕ) × (k < d + 1) × (copy_at hs bs k ≡ y)) → ((q : ℕ) × (q < len) × (copy_at us ds q ≡ y)) ⊎ (y ∈ L)
        found m (inl p) = inl p
        found m (inr k) = absurd (bad k.0 k.1 k.2 m (ℕ_discrete k.0 d))

        go : (y ∈ s.met) ⊎ (y ∈ L) → ((q : ℕ) × (q < len) × (copy_at us ds q ≡ y)) ⊎ (y ∈ L)
        go (inl m) = found m (s.trail.split y m)
        go (inr l) = inr l

    abbrev Earlier : ℕ → Copy → Type 0
    Earlier p y = ((q : ℕ) × (q < p) × (copy_at (set us len x.node) (set ds len x.back) q ≡ y)) ⊎ (y ∈ L)

    keep : (p : ℕ) (y : Copy) → p < len + 1 → ((q : ℕ) × (q < p) × (copy_at us ds q ≡ y)) ⊎ (y ∈ L) → Earlier p y
    keep p y h (inl (q, g, e)) = inl (q, g, before q (less_other (omega arith)) ∙ e)
    keep p y h (inr m) = inr m

    order_pop : (N : Net) → Wired N I G ps so co → Levels N → (p : ℕ) → p < len + 1 → Dec (p ≡ len) → (j : ℕ) → j < pins_of I ps (copy_at (set us len x.node) (set ds len x.back) p)
        → Earlier p (pin_of I so co (copy_at (set us len x.node) (set ds len x.back) p) j)
    order_pop N w O p h (yes e) j q = subst (λ (c : Copy). Earlier p (pin_of I so co c j)) (sym (at_end_lem p e))
        (keep p (pin_of I so co x j) h (subst (λ (a : ℕ). ((q : ℕ) × (q < a) × (copy_at us ds q ≡ pin_of I so co x j)) ⊎ (pin_of I so co x j ∈ L)) (sym e) (x-order N w O j
        (omega (arith, q, ap (pins_of I ps) (at_end_lem p e))))))
    order_pop N w O p h (no n) j q = subst (λ (c : Copy). Earlier p (pin_of I so co c j)) (sym (before p n))
        (keep p (pin_of I so co (copy_at us ds p) j) h (s.order N w O p (omega arith) j (omega (arith, q, ap (pins_of I ps) (before p n)))))

    pub state_pop : State I G width border ps so co L v (set us len x.node) (set ds len x.back) (len + 1) hs bs ts d (set marks (place width x) (seat_mark len)) seen
    state_pop = record {
      met = s.met;
      trail = trail_pop d s.trail wide x this room hu hd;
      few = λ k h. s.few k (omega arith);
      turned = λ k h. s.turned k (omega arith);
      closed = λ p h. closed_pop p h (ℕ_discrete p len);
      fed = s.fed;
      close = s.close;
      walked = s.walked;
      falls = λ N w O k l h g. s.falls N w O k l h (omega arith);
      order = λ N w O p h. order_pop N w O p h (ℕ_discrete p len);
      base = λ h. s.base (omega arith);
      last = λ e. (omega arith, ap (copy_at (set us len x.node) (set ds len x.back)) (omega arith) ∙ at_end_lem len refl ∙ sym this ∙ ap (copy_at hs bs) e ∙ s.base (omega arith));
    }
