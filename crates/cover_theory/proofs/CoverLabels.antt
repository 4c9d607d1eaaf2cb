-- From a cover to labels: where a cover meets φ, the least of φ·lag + depth + φ·e over the copies v:e in its cones labels gate v.
use Rattle.std.specs.Prelude.{◌≡◌, ◌⊎◌, ℕ, zero, suc, ◌+◌, ◌*◌, ◌≤◌, ◌<◌, ℤ, ◌+ℤ◌, ◌-ℤ◌, ◌*ℤ◌}
use Rattle.std.proofs.Math.Path.{refl, subst, ap}
use Rattle.std.proofs.Common.{sym, ◌∙◌, inl, inr, arith, le-ltb, lt-ltb}
use mathlib.Core.List.{List, [], ◌∷◌, ◌++◌, map}
use Rattle.std.proofs.Math.Decide.{ℕ_discrete, dec_lt}
use native.Mathlib.Nat.{zero-add, add-zero, mul-add, mul-le-mul_left}
use Rattle.std.proofs.Math.IntN.{pos}
use Rattle.std.proofs.Math.ListN.{length, get_or}
use lib.Signed.{◌≤ℤ◌, ≤ℤ_refl}
use Rattle.integers.specs.Parts.{up, dn, ints, +-parts, sub_parts, *-parts}
use Rattle.integers.specs.Order.{≤ℤ_trans, ≤ℤ_total}
use Rattle.integers.specs.Height.{height}
use Rattle.integers.proofs.Height.{height_mono, height-shift}
use Rattle.integers.proofs.Cover.{depth-leaf, depth-input, depth-output}
use Rattle.sequences.specs.Member.{◌∈◌, here, there, not_in_nil, in_map, map_in, in_append_left, in_append_right, in_append_cases, get_or_in, in_equal}
use Rattle.sequences.specs.Decide.{up_to, in_up_to, up_to_in}
use Rattle.sequences.specs.Keep.{keep, keep_in, in_keep}
use Rattle.net_model.specs.Net.{Net, Pin, IsGate, IsInput, IsNode, pins}
use Rattle.net_model.specs.Checks.{Sound, Leading, Passed}
use Rattle.net_model.specs.Copies.{Copy, copy, IsCone, Leaf, IsLeaves, IsCut, Cut, Feeds}
use Rattle.cone_theory.specs.Basics.{is_gate?, member?}
use Rattle.cone_theory.specs.Part.{part_cut, lift}
use Rattle.label_theory.specs.Labels.{Mode, plain, forward, Inside, LowCutIn, LabellingIn, OutputsMet}
use Rattle.label_theory.specs.Lower.{recut, remember, input_or_gate, leaf-node}
use Rattle.label_theory.specs.Modes.{inside-shift}
use Rattle.cover_theory.specs.Covers.{Cover, lut, lag_of, registers, output_registers, output, RootedAt, IsCover, Meets}
use Rattle.cover_theory.specs.Forward.{Suited}
use Rattle.cover_theory.specs.Depths.{depth, depth_low, depth-high, depth-rises}

-- ---- the least of finitely many

pub record Minimal {A : Type 0} (f : A → ℤ) (l : List A) : Type 0 where
  pub best : A
  pub listed : best ∈ l
  pub minimal : (a : A) → a ∈ l → f best ≤ℤ f a

pub minimal-of : {A : Type 0} (f : A → ℤ) (l : List A) {a : A} → a ∈ l → Minimal f l
minimal-of f [] h = absurd (not_in_nil h)
minimal-of f (x ∷ []) h = record { best = x; listed = here refl; minimal = only }
  where
    only : (a : _) → a ∈ x ∷ [] → f x ≤ℤ f a
    only a (here e) = rw e (≤ℤ_refl (f x))
    only a (there m) = absurd (not_in_nil m)
minimal-of {A} f (x ∷ y ∷ l) h = go (minimal-of f (y ∷ l) (here refl))
  where
    go : Minimal f (y ∷ l) → Minimal f (x ∷ y ∷ l)
    go r = pick (≤ℤ_total (f x) (f r.best))
      where
        pick : (f x ≤ℤ f r.best) ⊎ (lib.Signed.◌<ℤ◌ (f r.best) (f x)) → Minimal f (x ∷ y ∷ l)
        pick (inl le) = record { best = x; listed = here refl; minimal = each }
          where
            each : (a : A) → a ∈ x ∷ y ∷ l → f x ≤ℤ f a
            each a (here e) = rw e (≤ℤ_refl (f x))
            each a (there m) = ≤ℤ_trans le (r.minimal a m)
        pick (inr lt) = record { best = r.best; listed = there r.listed; minimal = each }
          where
            each : (a : A) → a ∈ x ∷ y ∷ l → f r.best ≤ℤ f a
            each a (here e) = rw e (omega (arith, ints))
            each a (there m) = r.minimal a m

-- ---- the copies in a cover's cones

-- LUT number `lut` has the copy of some gate `back` registers back in its cone
pub record Place : Type 0 where
  pub lut : ℕ
  pub back : ℕ

abbrev pub place : ℕ → ℕ → Place
place i e = record { lut = i; back = e }

module _ {N : Net} {k : ℕ} {K : Cover} (c : IsCover N k K) where
  cone_at : (i : ℕ) → Dec (i < length K.luts) → List Copy
  cone_at i (yes h) = (c.cuts i h).cone
  cone_at i (no n) = []

  -- the cone of LUT i
  pub cone_of : ℕ → List Copy
  cone_of i = cone_at i (dec_lt i (length K.luts))

  pub cone_of-is : (i : ℕ) → i < length K.luts → IsCone N (lut K i).root (cone_of i) × IsLeaves N (cone_of i) (lut K i).leaves × (length (lut K i).leaves ≤ k)
  unfolding cone_of cone_at
  cone_of-is i h = go (dec_lt i (length K.luts))
    where
      go : (d : Dec (i < length K.luts)) → IsCone N (lut K i).root (cone_at i d) × IsLeaves N (cone_at i d) (lut K i).leaves × (length (lut K i).leaves ≤ k)
      go (yes h') = ((c.cuts i h').is_cone, (c.cuts i h').is_leaves, (c.cuts i h').few)
      go (no n) = absurd (n h)

  places_in : ℕ → ℕ → List Place
  places_in v i = map (λ (x : Copy). place i x.back) (keep (λ (x : Copy). ℕ_discrete x.node v) (cone_of i))

  places_of : ℕ → List ℕ → List Place
  places_of v [] = []
  places_of v (i ∷ is) = places_in v i ++ places_of v is

  -- all places of gate v
  places : ℕ → List Place
  places v = places_of v (up_to (length K.luts))

  pub record Has (v : ℕ) (p : Place) : Type 0 where
    pub listed : p.lut < length K.luts
    pub inside : copy v p.back ∈ cone_of p.lut

  in_places_of : (v : ℕ) (p : Place) (is : List ℕ) → p.lut ∈ is → copy v p.back ∈ cone_of p.lut → p ∈ places_of v is
  unfolding places_of places_in
  in_places_of v p [] m h = absurd (not_in_nil m)
  in_places_of v p (i ∷ is) (here e) h =
      in_append_left {l = places_in v i} (places_of v is)
      (subst (λ (j : ℕ). p ∈ places_in v j) e (in_map (λ (x : Copy). place p.lut x.back) (keep_in (λ (x : Copy). ℕ_discrete x.node v) h refl)))
  in_places_of v p (i ∷ is) (there m) h = in_append_right (places_in v i) (in_places_of v p is m h)

  places_of_in : (v : ℕ) (p : Place) (is : List ℕ) → p ∈ places_of v is → (p.lut ∈ is) × (copy v p.back ∈ cone_of p.lut)
  unfolding places_of places_in
  places_of_in v p [] h = absurd (not_in_nil h)
  places_of_in v p (i ∷ is) h = go (places_of_in v p is) (in_append_cases (places_in v i) h)
    where
      at : (x : Copy) → x ∈ cone_of i → x.node ≡ v → p.lut ≡ i → p.back ≡ x.back → copy v p.back ∈ cone_of p.lut
      at x m n l b = rw (l, b, ← n) m

      from : p ∈ places_in v i → (p.lut ∈ i ∷ is) × (copy v p.back ∈ cone_of p.lut)
      from m =
          let t = map_in (λ (x : Copy). place i x.back) (keep (λ (x : Copy). ℕ_discrete x.node v) (cone_of i)) m in
          let q = in_keep (λ (x : Copy). ℕ_discrete x.node v) (cone_of i) t.1 in
          let l : p.lut ≡ i = ap (λ (z : Place). z.lut) t.2 in
          let b : p.back ≡ t.0.back = ap (λ (z : Place). z.back) t.2 in
          (here l, at t.0 q.0 q.1 l b)

      go : (p ∈ places_of v is → (p.lut ∈ is) × (copy v p.back ∈ cone_of p.lut)) → (p ∈ places_in v i) ⊎ (p ∈ places_of v is)
          → (p.lut ∈ i ∷ is) × (copy v p.back ∈ cone_of p.lut)
      go rest (inl m) = from m
      go rest (inr m) = let r = rest m in (there r.0, r.1)

  has_listed : (v : ℕ) (p : Place) → Has v p → p ∈ places v
  unfolding places
  has_listed v p h = in_places_of v p (up_to (length K.luts)) (in_up_to h.listed) h.inside

  listed_has : (v : ℕ) (p : Place) → p ∈ places v → Has v p
  unfolding places
  listed_has v p h = let r = places_of_in v p (up_to (length K.luts)) h in record { listed = up_to_in r.0; inside = r.1 }

  -- the root is in its own cone
  root-has : (i : ℕ) (u : ℕ) → RootedAt K u i → Has u (place i 0)
  root-has i u r = record { listed = r.listed; inside = rw (← r.rooted) (cone_of-is i r.listed).0.root }

  -- **Each gate that leads to an output has a place in some cone.**
  pub has-place : {v : ℕ} → Leading N v → IsGate N v → (p : Place) × Has v p
  has-place {v} (Leading.output o i e) g = go (get_or_in i)
    where
      go : (n : ℕ) × (n < length N.outputs) × ((d : Pin) → get_or N.outputs n d ≡ o) → (p : Place) × Has v p
      go t =
          let n = t.0 in
          let same : output N n ≡ o = t.2 (record { src = 0; count = 0 }) in
          let src : (output N n).src ≡ v = ap (λ (p : Pin). p.src) same ∙ e in
          (place (K.named n) 0, root-has (K.named n) v (subst (λ (u : ℕ). RootedAt K u (K.named n)) src (c.names n t.1 (subst (IsGate N) (sym src) g))))
  has-place {v} (Leading.along u p gu i e l) g = go (has-place l gu)
    where
      go : (q : Place) × Has u q → (q : Place) × Has v q
      go (q, h) = at (member? y (cone_of q.lut))
        where
          y : Copy
          y = copy v (q.back + p.count)

          feeds : Feeds N y (copy u q.back)
          feeds = record { gate = gu; pin = p; is_pin = i; source = sym e; depth = refl }

          facts : IsCone N (lut K q.lut).root (cone_of q.lut) × IsLeaves N (cone_of q.lut) (lut K q.lut).leaves × (length (lut K q.lut).leaves ≤ k)
          facts = cone_of-is q.lut h.listed

          at : Dec (y ∈ cone_of q.lut) → (r : Place) × Has v r
          at (yes m) = (place q.lut (q.back + p.count), record { listed = h.listed; inside = m })
          at (no n) =
              let leaf = facts.1.complete y (record { outside = n; member = copy u q.back; is_member = h.inside; feeds = feeds }) in
              let j = K.feeder q.lut y in
              (place j 0, root-has j v (c.fed q.lut h.listed y leaf g))

-- the lag of a source, by its kind
pub lag-gate : (N : Net) (K : Cover) (u j : ℕ) → IsGate N u → lag_of N K u j ≡ (lut K j).lag
lag-gate N K u j g = rw (le-ltb u N.inputs g.low)

pub lag-input : (N : Net) (K : Cover) (u j : ℕ) → IsInput N u → lag_of N K u j ≡ pos 0
lag-input N K u j i = rw (lt-ltb u N.inputs i)

-- ---- the labels

module _ {N : Net} {k : ℕ} (P : Passed N k) {K : Cover} (c : IsCover N k K) (φ : ℕ) (pos_φ : 1 ≤ φ) (meets : Meets N K φ) where
  -- φ·lag + depth of LUT i
  unfoldable pub arrival : ℕ → ℤ
  arrival i = (pos φ *ℤ (lut K i).lag) +ℤ pos (depth N K φ pos_φ meets i)

  -- of a copy e registers back in its cone
  at_place : Place → ℤ
  at_place p = arrival p.lut +ℤ pos (φ * p.back)

  best : (v : ℕ) → IsGate N v → Minimal at_place (places c v)
  best v g = let r = has-place c (P.leading v g) g in minimal-of at_place (places c v) (has_listed c v r.0 r.1)

  label_at : (v : ℕ) → Dec (IsGate N v) → ℤ
  label_at v (yes g) = at_place (best v g).best
  label_at v (no n) = pos 0

  pub label : ℕ → ℤ
  label v = label_at v (is_gate? N v)

  label-input : (v : ℕ) → IsInput N v → label v ≡ pos 0
  unfolding label label_at
  label-input v i = go (is_gate? N v)
    where
      go : (d : Dec (IsGate N v)) → label_at v d ≡ pos 0
      go (yes g) = absurd (not-both i g)
        where
          not-both : IsInput N v → IsGate N v → ⊥
          not-both i g = omega (arith, g)
      go (no n) = refl

  -- a gate's label is that of one of its places, and no place's is less
  label_is : (v : ℕ) → IsGate N v → (p : Place) × Has c v p × (label v ≡ at_place p) × ((q : Place) → Has c v q → label v ≤ℤ at_place q)
  unfolding label label_at
  label_is v g = go (is_gate? N v)
    where
      go : (d : Dec (IsGate N v)) → (p : Place) × Has c v p × (label_at v d ≡ at_place p) × ((q : Place) → Has c v q → label_at v d ≤ℤ at_place q)
      go (yes g') =
          let b = best v g' in
          (b.best, listed_has c v b.best b.listed, refl, λ q h. b.minimal q (has_listed c v q h))
      go (no n) = absurd (n g)

  -- **a gate's label is at most the arrival of any LUT rooted there**
  pub label-root : (v i : ℕ) → IsGate N v → RootedAt K v i → label v ≤ℤ arrival i
  unfolding at_place
  label-root v i g r =
      let a = (label_is v g).3 (place i 0) (root-has c i v r) in
      let z : φ * 0 ≡ 0 = native.Mathlib.Nat.mul-zero φ in
      omega (arith, ints, +-parts (arrival i) (pos (φ * 0)))

  -- the leaves of LUT i, under these labels, are no higher than its arrival
  leaf-low : (i : ℕ) → i < length K.luts → (y : Copy) → y ∈ (lut K i).leaves → height φ (label y.node) y.back ≤ℤ arrival i
  unfolding arrival
  leaf-low i h y m = go (input_or_gate N y.node (leaf-node P.sound (cone_of-is c i h).1 m))
    where
      regs : pos 0 ≤ℤ registers N K i y
      regs = c.leaf_registers i h y m

      go : IsInput N y.node ⊎ IsGate N y.node → height φ (label y.node) y.back ≤ℤ arrival i
      go (inl n) =
          let z : registers N K i y ≡ ((pos y.back +ℤ (lut K i).lag) -ℤ pos 0) = ap (λ (q : ℤ). (pos y.back +ℤ (lut K i).lag) -ℤ q) (lag-input N K y.node (K.feeder i y) n) in
          let r = regs in
          let a : pos 0 ≤ℤ (pos y.back +ℤ (lut K i).lag) = omega (arith, ints, sub_parts (pos y.back +ℤ (lut K i).lag) (pos 0)) in
          subst (λ (b : ℤ). height φ b y.back ≤ℤ arrival i) (sym (label-input y.node n))
          (depth-input φ y.back (depth N K φ pos_φ meets i) (lut K i).lag a (depth_low N K φ pos_φ meets i))
      go (inr g) =
          let j = K.feeder i y in
          let z : registers N K i y ≡ ((pos y.back +ℤ (lut K i).lag) -ℤ (lut K j).lag) = ap (λ (q : ℤ). (pos y.back +ℤ (lut K i).lag) -ℤ q) (lag-gate N K y.node j g) in
          ≤ℤ_trans (height_mono φ y.back (label-root y.node j g (c.fed i h y m g)))
          (depth-leaf φ y.back (depth N K φ pos_φ meets i) (depth N K φ pos_φ meets j) (lut K i).lag (lut K j).lag
          (subst (λ (q : ℤ). pos 0 ≤ℤ q) z regs) (depth-high N K φ pos_φ meets j) (depth_low N K φ pos_φ meets i)
          (λ e. depth-rises N K φ pos_φ meets i h y m g (z ∙ e)))

  -- the members of LUT i's cone, as its arrival asks in a mode that the cover suits
  arrival-inside : (M : Mode) → Suited M N K → (i : ℕ) → i < length K.luts → (x : Copy) → x ∈ cone_of c i → Inside M φ (arrival i) x
  unfolding arrival
  arrival-inside plain suited i h x m = tt
  arrival-inside forward suited i h x m =
      let r = (lut K i).lag in
      let l = suited i h (cone_of c i) (cone_of-is c i h).0 (cone_of-is c i h).1 x m in
      let late : up r + x.back ≤ dn r = omega (arith, ints, +-parts r (pos x.back)) in
      omega (arith, ints, +-parts (arrival i) (pos (φ * x.back)), +-parts (pos φ *ℤ r) (pos (depth N K φ pos_φ meets i)), *-parts φ r, depth-high N K φ pos_φ meets i, mul-le-mul_left φ late, mul-add φ (up r) x.back)

  module _ (M : Mode) (suited : Suited M N K) where
    -- the cut of LUT i
    cut_of : (i : ℕ) → i < length K.luts → Cut N k (lut K i).root (λ y. height φ (label y.node) y.back ≤ℤ arrival i) (Inside M φ (arrival i))
    cut_of i h = record {
      cone = cone_of c i;
      leaves = (lut K i).leaves;
      is_cone = (cone_of-is c i h).0;
      is_leaves = (cone_of-is c i h).1;
      few = (cone_of-is c i h).2;
      allowed = leaf-low i h;
      inside = arrival-inside M suited i h;
    }

    -- **A cover that meets φ yields a labelling, in each mode that it suits.**
    pub cover-labelling : LabellingIn M N k φ label
    cover-labelling = record { inputs = label-input; gates = gates }
      where
        gates : (v : ℕ) → IsGate N v → LowCutIn M N k φ label v (label v)
        gates v g = go (label_is v g)
          where
            go : (p : Place) × Has c v p × (label v ≡ at_place p) × ((q : Place) → Has c v q → label v ≤ℤ at_place q) → LowCutIn M N k φ label v (label v)
            go (p, h, e, least) =
                remember (recut (part_cut (cut_of p.lut h.listed) v p.back (unfold cut_of in h.inside))
                (λ y m a. subst (λ (b : ℤ). height φ (label y.node) y.back ≤ℤ b) (sym e)
                (unfold at_place in (height-shift φ y.back p.back (label y.node) (arrival p.lut) a))))
                (λ x m a. subst (λ (b : ℤ). Inside M φ b x) (sym e) (unfold at_place in (inside-shift M φ (arrival p.lut) p.back x a)))

  -- **It satisfies the outputs.**
  pub cover-outputs : OutputsMet N φ label
  unfolding arrival
  cover-outputs o m = go (input_or_gate N o.src (P.sound.output o m)) (get_or_in m)
    where
      go : IsInput N o.src ⊎ IsGate N o.src → (n : ℕ) × (n < length N.outputs) × ((d : Pin) → get_or N.outputs n d ≡ o) → (label o.src -ℤ pos (φ * o.count)) ≤ℤ pos φ
      go (inl i) t = let z = label-input o.src i in omega (arith, ints, sub_parts (label o.src) (pos (φ * o.count)))
      go (inr g) t =
          let n = t.0 in
          let j = K.named n in
          let same : output N n ≡ o = t.2 (record { src = 0; count = 0 }) in
          let src : (output N n).src ≡ o.src = ap (λ (p : Pin). p.src) same in
          let gn : IsGate N (output N n).src = subst (IsGate N) (sym src) g in
          let r : RootedAt K o.src j = subst (λ (u : ℕ). RootedAt K u j) src (c.names n t.1 gn) in
          let z : output_registers N K n ≡ (pos o.count -ℤ (lut K j).lag) =
          ap (λ (p : Pin). pos p.count -ℤ lag_of N K p.src j) same ∙ ap (λ (q : ℤ). pos o.count -ℤ q) (lag-gate N K o.src j g) in
          let a = depth-output φ o.count (depth N K φ pos_φ meets j) (lut K j).lag (depth-high N K φ pos_φ meets j)
          (subst (λ (q : ℤ). pos 0 ≤ℤ q) z (c.output_registers n t.1)) in
          let b = label-root o.src j g r in
          omega (arith, ints, sub_parts (label o.src) (pos (φ * o.count)), sub_parts (arrival j) (pos (φ * o.count)))
