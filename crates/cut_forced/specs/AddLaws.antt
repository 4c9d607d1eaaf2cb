-- A copy added to the forced set: it is one of the members, or refutes every cut.
use Rattle.std.specs.Prelude.{◌≡◌, refl, Result, List, ◌∷◌, map, ◌⊎◌, ℕ, ◌+◌, ◌-◌, ◌*◌, ◌/◌, ◌%◌, ◌^◌, ◌≤◌, ◌<◌, length, get_or, set}
use Rattle.std.proofs.Common.{sym, ap, subst, ◌∙◌, inl, inr, mul-le-mul_left, mul-le-mul_right, div-add-mod', arith, length-set, get_or-set_same, get_or-set_other}
use Rattle.std.proofs.Math.Decide.{ℕ_discrete, dec_lt}
use Rattle.std.proofs.lemmas.List.{length-map}
use Rattle.limits.specs.Limits.{most_k}
use Rattle.sequences.specs.Member.{◌∈◌, here, there, in_equal, map_in}
use Rattle.sequences.specs.Decide.{up_to, up_to_in, length_up_to}
use Rattle.sequences.specs.Distinct.{Distinct, distinct_cons, distinct_up_to, distinct-map-on}
use Rattle.net_model.specs.Copies.{Copy, copy}
use Rattle.cone_theory.specs.Basics.{copy-path}
use Rattle.cone_theory.specs.Reach.{cut-reach, cut-few}
use Rattle.label_theory.specs.Forced.{forced-inside}
use Rattle.cut_circuit.specs.Circuit.{Circuit, total, ending_at, held_at}
use Rattle.cut_circuit.specs.CircuitLaws.{node-below, place-held}
use Rattle.cut_circuit.specs.Bridge.{decode}
use Rattle.cut_forced.specs.Slots.{marked, Inner, gate_at, slot_at, holding, Slotted}
use Rattle.cut_forced.specs.SlotLaws.{gate-inside, inner-marked, slot-node, slot-back, slot-marked, marked-few, slotted-holding, marked-after, marked-new, marked-before}
use Rattle.cut_forced.specs.Forcing.{Target, ForcedAt, Refuted, Growing, Grew, Grown, Told, AddAsked, Added, there-before, there-now, must_not}

-- ---- the numbers of `add`
pub few-fits : (inputs gates width k : ℕ) → 0 < width → (inputs + gates) * width * 16 < 2 ^ 32 → k ≤ most_k → k * gates < 2 ^ 32
few-fits inputs gates width k w f h =
    omega (arith, f, mul-le-mul_left {m = 1} {n = width} (inputs + gates) w, mul-le-mul_right {m = k} {n = most_k} gates h)

module _ {inputs gates width border k : ℕ} {slots members : List ℕ} {m y : ℕ} (a : AddAsked inputs gates width border k slots members m y) where
  pub add-fits : k * gates < 2 ^ 32
  add-fits = few-fits inputs gates width k a.wide a.fits a.limit

  pub add-number : y < 2 ^ 32
  add-number = omega (arith, a.below, a.fits)

  pub add_back : y % width < 2 ^ 32
  add_back = omega (arith, add-number, div-add-mod' y width)

  pub add-gate : ending_at inputs width border y ≡ 0 → y / width - inputs < gates
  add-gate e = omega (arith, node-below y width (inputs + gates) a.wide a.below, e)

module _ {W : Circuit} {T : Target} {k : ℕ} {slots members : List ℕ} {m : ℕ} (G : Growing W T k slots members m) where
  -- as one of the members
  listed-once : (a b : ℕ) → a < m → b < m → get_or members a 0 ≡ get_or members b 0 → a ≡ b
  listed-once a b h l e = go (dec_lt a b) (dec_lt b a)
    where
      go : Dec (a < b) → Dec (b < a) → a ≡ b
      go (yes p) q = absurd (G.once a b p l e)
      go (no p) (yes q) = absurd (G.once b a q h (sym e))
      go (no p) (no q) = omega (arith, p, q)

  -- the members as copies
  unfoldable pub copies_of : List Copy
  copies_of = map (λ (a : ℕ). decode W (get_or members a 0)) (up_to m)

  pub copies_in_lem : {c : Copy} → c ∈ copies_of → (x : ℕ) × (0 < marked W slots x) × (c ≡ decode W x)
  unfolding copies_of
  copies_in_lem h =
      let r = map_in (λ (a : ℕ). decode W (get_or members a 0)) (up_to m) h in
      (get_or members r.0 0, G.listed r.0 (up_to_in r.1), r.2)

  -- the members' numbers
  abbrev numbers : List ℕ
  numbers = map (λ (a : ℕ). get_or members a 0) (up_to m)

  distinct-numbers : Distinct numbers
  distinct-numbers = distinct-map-on (λ (a : ℕ). get_or members a 0) (λ a b h l e. listed-once a b (up_to_in h) (up_to_in l) e) (distinct_up_to m)

  module _ (y : ℕ) (f : ForcedAt W T y) where
    -- a forced copy of an input or beyond the border
    pub ends-refuted : 0 < ending_at W.inputs W.width W.border y → Refuted W T k
    ends-refuted h N H R M b near K =
        let i = forced-inside K (f N H) in
        let g = (K.is_cone.gates (decode W y) i).low in
        omega (arith, h, g, H.inputs, near.within (decode W y) (K.inside (decode W y) i) (omega (arith, cut-reach R K (decode W y) i)))

  module _ (y : ℕ) (inner : Inner W y) (fresh : marked W slots y ≡ 0) where
    abbrev g : ℕ
    g = gate_at W y

    abbrev n : ℕ
    n = get_or slots g 0

    gate-below : g < W.gates
    gate-below = gate-inside (omega (arith, G.slotted.wide)) inner

    unheld : held_at W.gates slots g (y % W.width) ≡ 0
    unheld = sym (inner-marked W slots y inner) ∙ fresh

    -- **a forced copy of a gate that has k already**
    pub full-refuted : ForcedAt W T y → k ≤ n → Refuted W T k
    full-refuted f h N H R M b near K =
        omega (arith, h, length-map (up_to n) back, length_up_to n, cut-few R K (y / W.width) (y % W.width ∷ map back (up_to n)) (distinct_cons other apart) inside)
      where
        back : ℕ → ℕ
        back i = get_or slots (slot_at W.gates g i) 0

        other : y % W.width ∈ map back (up_to n) → ⊥
        other i =
            let r = map_in back (up_to n) i in
            omega (arith, unheld, place-held slots (W.gates + most_k * g) n (y % W.width) r.0 (up_to_in r.1) (sym r.2))

        apart : Distinct (map back (up_to n))
        apart = distinct-map-on back (λ a c p q e. go a c (up_to_in p) (up_to_in q) e (dec_lt a c) (dec_lt c a)) (distinct_up_to n)
          where
            go : (a c : ℕ) → a < n → c < n → back a ≡ back c → Dec (a < c) → Dec (c < a) → a ≡ c
            go a c p q e (yes l) d = absurd (G.slotted.apart g a c gate-below l q e)
            go a c p q e (no l) (yes d) = absurd (G.slotted.apart g c a gate-below d p (sym e))
            go a c p q e (no l) (no d) = omega (arith, l, d)

        inside : (d : ℕ) → d ∈ y % W.width ∷ map back (up_to n) → copy (y / W.width) d ∈ K.cone
        inside d (here e) = in_equal (ap (copy (y / W.width)) e) (forced-inside K (f N H))
        inside d (there i) =
            let r = map_in back (up_to n) i in
            let l = up_to_in r.1 in
            let x = (W.inputs + g) * W.width + back r.0 in
            in_equal {b = decode W x} (copy-path (omega (arith, slot-node G.slotted g r.0 gate-below l, inner.ends)) (r.2 ∙ sym (slot-back G.slotted g r.0 gate-below l)))
            (forced-inside K (G.forced x (slot-marked G.slotted g r.0 gate-below l) N H))

    -- ---- a gate that has fewer
    module _ (h : n < k) where
      abbrev slots' : List ℕ
      slots' = holding W.gates slots g n (y % W.width)

      slotted : Slotted W k slots'
      slotted = slotted-holding G.slotted g n (y % W.width) gate-below refl h (omega (arith, inner.ends)) unheld

      after : (x : ℕ) → 0 < marked W slots x → 0 < marked W slots' x
      after = marked-after G.slotted g n (y % W.width) gate-below refl h

      pub new : 0 < marked W slots' y
      new = marked-new G.slotted g n (y % W.width) gate-below refl h y inner refl refl

      before : (x : ℕ) → ¬ (x ≡ y) → 0 < marked W slots' x → 0 < marked W slots x
      before = marked-before G.slotted g n (y % W.width) gate-below refl h y inner refl refl

      more : m + 1 ≤ k * W.gates
      more = omega (arith, length-map (up_to m) (λ (a : ℕ). get_or members a 0), length_up_to m, marked-few slotted (y ∷ numbers) (distinct_cons other distinct-numbers) all)
        where
          at : {x : ℕ} → x ∈ numbers → 0 < marked W slots x
          at {x} i =
              let r = map_in (λ (a : ℕ). get_or members a 0) (up_to m) i in
              subst (λ (z : ℕ). 0 < marked W slots z) (sym r.2) (G.listed r.0 (up_to_in r.1))

          other : y ∈ numbers → ⊥
          other i = omega (arith, fresh, at i)

          all : (x : ℕ) → x ∈ y ∷ numbers → 0 < marked W slots' x
          all x (here e) = subst (λ (z : ℕ). 0 < marked W slots' z) (sym e) new
          all x (there i) = after x (at i)

      -- there is room for it
      pub room_for : m < length members
      room_for = omega (arith, more, G.space)

      members-same : get_or (set members m y) m 0 ≡ y
      members-same = get_or-set_same members m y 0 room_for

      members-other : (a : ℕ) → a < m → get_or (set members m y) a 0 ≡ get_or members a 0
      members-other a p = get_or-set_other members m a y 0 (λ e. absurd (omega (arith, p, e)))

      pub growing-add : ForcedAt W T y → Growing W T k slots' (set members m y) (m + 1)
      growing-add f = record {
        slotted = slotted;
        space = omega (arith, length-set members m y, G.space);
        some = omega arith;
        few = more;
        root = after (T.root * W.width) G.root;
        listed = λ a p. listed a p (ℕ_discrete a m);
        all = λ x p. all x p (ℕ_discrete x y);
        once = λ a b p q. once a b p q (ℕ_discrete b m);
        forced = λ x p. forced x p (ℕ_discrete x y);
      }
        where
          listed : (a : ℕ) → a < m + 1 → Dec (a ≡ m) → 0 < marked W slots' (get_or (set members m y) a 0)
          listed a p (yes e) = subst (λ (x : ℕ). 0 < marked W slots' x) (sym (ap (λ (i : ℕ). get_or (set members m y) i 0) e ∙ members-same)) new
          listed a p (no o) =
              let q : a < m = omega (arith, p, o) in
              subst (λ (x : ℕ). 0 < marked W slots' x) (sym (members-other a q)) (after (get_or members a 0) (G.listed a q))

          all : (x : ℕ) → 0 < marked W slots' x → Dec (x ≡ y) → (a : ℕ) × (a < m + 1) × (get_or (set members m y) a 0 ≡ x)
          all x p (yes e) = (m, omega arith, members-same ∙ sym e)
          all x p (no o) =
              let r = G.all x (before x o p) in
              (r.0, omega (arith, r.1), members-other r.0 r.1 ∙ r.2)

          once : (a b : ℕ) → a < b → b < m + 1 → Dec (b ≡ m) → ¬ (get_or (set members m y) a 0 ≡ get_or (set members m y) b 0)
          once a b p q (yes e) r =
              let s : a < m = omega (arith, p, e) in
              let t : get_or members a 0 ≡ y = sym (members-other a s) ∙ (r ∙ (ap (λ (i : ℕ). get_or (set members m y) i 0) e ∙ members-same)) in
              omega (arith, fresh, G.listed a s, ap (marked W slots) t)
          once a b p q (no o) r =
              let s : b < m = omega (arith, q, o) in
              G.once a b p s (sym (members-other a (omega (arith, p, s))) ∙ (r ∙ members-other b s))

          forced : (x : ℕ) → 0 < marked W slots' x → Dec (x ≡ y) → ForcedAt W T x
          forced x p (yes e) = subst (ForcedAt W T) (sym e) f
          forced x p (no o) = G.forced x (before x o p)

      pub grew-add : Grew W slots members m slots' (set members m y) (m + 1)
      grew-add = record { more = omega arith; marked = after; listed = members-other }

pub grew_refl : (W : Circuit) (slots members : List ℕ) (m : ℕ) → Grew W slots members m slots members m
grew_refl W slots members m = record { more = omega arith; marked = λ x h. h; listed = λ a h. refl }

pub grew_trans : {W : Circuit} {slots members slots₁ members₁ slots₂ members₂ : List ℕ} {m c r : ℕ} → Grew W slots members m slots₁ members₁ c
    → Grew W slots₁ members₁ c slots₂ members₂ r → Grew W slots members m slots₂ members₂ r
grew_trans f g = record {
  more = omega (arith, f.more, g.more);
  marked = λ x h. g.marked x (f.marked x h);
  listed = λ a h. g.listed a (omega (arith, h, f.more)) ∙ f.listed a h;
}

module _ {W : Circuit} {T : Target} {k : ℕ} {slots members : List ℕ} {m : ℕ} (G : Growing W T k slots members m) where
  pub told_same : (P : List ℕ → Type 0) → P slots → Grown W T k P slots members m slots members m
  told_same P p = record { growing = G; grew = grew_refl W slots members m; done = p }

  module _ (y : ℕ) (f : ForcedAt W T y) (below : y < total W) where
    pub told_added : {slots' members' : List ℕ} {r : Result ℕ ℕ} → Added W.inputs W.gates W.width W.border k slots members m y slots' members' r
        → Told W T k (λ (s : List ℕ). 0 < marked W s y) slots members m slots' members' r
    told_added {r} (there-before e p q h) = rw e (rw p (rw q (told_same (λ (s : List ℕ). 0 < marked W s y) h)))
    told_added {r} (there-now e p q z ends h) = rw e (rw p (rw q (record {
      growing = growing-add G y i z h f;
      grew = grew-add G y i z h;
      done = new G y i z h;
    })))
      where
        i : Inner W y
        i = record { below = below; ends = ends }
    told_added {r} (must_not e p q z w) = rw e (rw p (rw q (record {
      growing = G;
      refuted = go w;
    })))
      where
        go : (0 < ending_at W.inputs W.width W.border y) ⊎ ((ending_at W.inputs W.width W.border y ≡ 0) × (k ≤ get_or slots (gate_at W y) 0)) → Refuted W T k
        go (inl h) = ends-refuted G y f h
        go (inr (ends, h)) = full-refuted G y (record { below = below; ends = ends }) z f h
