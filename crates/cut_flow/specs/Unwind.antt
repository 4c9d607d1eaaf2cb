-- After a success the frames are taken off from the top, and the unit that waits moves down the trail: to the copy that each frame was come to from, and at the end into the
-- forced set.
use Rattle.std.specs.Prelude.{◌≡◌, refl, List, [], ◌∷◌, ℕ, suc, ◌-◌, ◌<◌}
use Rattle.std.proofs.Common.{sym, ap, subst, ◌∙◌, inl, inr, arith}
use Rattle.std.proofs.Math.Decide.{ℕ_discrete}
use Rattle.sequences.specs.Member.{◌∈◌, here, there}
use Rattle.sequences.specs.Distinct.{distinct_head, distinct_tail}
use Rattle.cut_flow.specs.Graph.{Graph, Feeding}
use Rattle.cut_flow.specs.State.{State, Stored}
use Rattle.cut_flow.specs.Steps.{joins, turns, returns}
use Rattle.cut_flow.specs.Search.{View, FlowSet, Waits, Gains}
use Rattle.cut_flow.specs.Closed.{Found}
use Rattle.cut_flow.specs.Stack.{Frame, copies, Turns, Way, by-pin, by-self, Comes, itself, successor, Led, Trail, none, root, over, Unwinding}

-- ---- a trail whose copies keep their flow stays

pub way-after : {G : Graph} {flow flow' : ℕ → ℕ} {x w y : ℕ} → flow' x ≡ flow x → Way G flow x w y → Way G flow' x w y
way-after e (by-pin j p h s a) = by-pin j p h s a
way-after e (by-self p q h) = by-self p q (omega (arith, e, h))

pub led-after : {G : Graph} {T : Turns G} {flow flow' : ℕ → ℕ} {b : Frame} {y : ℕ} → flow' b.copy ≡ flow b.copy → Led G T flow b y → Led G T flow' b y
led-after e l = record { begun = l.begun; way = way-after e l.way }

comes-after : {G : Graph} {flow flow' : ℕ → ℕ} {y x : ℕ} → flow' x ≡ flow x → Comes G flow y x → Comes G flow' y x
comes-after e (itself p h t a) = itself p (e ∙ h) t a
comes-after e (successor n a) = successor (record { by = n.by; fed = record { pin = e ∙ n.fed.pin; below = n.fed.below }; source = n.source }) a

pub trail-after : {G : Graph} {T : Turns G} {flow flow' : ℕ → ℕ} {fs : List Frame} → ((z : ℕ) → z ∈ copies fs → flow' z ≡ flow z) → Trail G T flow fs → Trail G T flow' fs
trail-after e none = none
trail-after e (root h) = root h
trail-after e (over {a = a} {b = b} y l c t) =
    over y (led-after (e b.copy (there (here refl))) l) (comes-after (e a.copy (here refl)) c) (trail-after (λ z h. e z (there h)) t)

-- ---- the unit moves

-- x takes the unit that waits at y, or gives its own back; then it waits where x was come to from.
moved : {G : Graph} (v₀ : View) {v v' : View} {x w y z : ℕ} → Waits G v₀ v y → FlowSet v v' x w → Way G v.flow x w y → Comes G v.flow z x → Waits G v₀ v' z
moved {G} v₀ {v} {v'} {x} {w} {y} {z} h st (by-pin j p b s a) (itself q e t o) E i =
    subst (λ (u : ℕ). State G v'.flow (u ∷ E)) q (joins (h E i) (subst (Stored v.flow v'.flow x) p st.flow) e b s o)
moved {G} v₀ {v} {v'} {x} {w} {y} {z} h st (by-pin j p b s a) (successor n o) E i =
    subst (λ (u : ℕ). State G v'.flow (u ∷ E)) n.source (turns (h E i) (subst (Stored v.flow v'.flow x) p st.flow) n.fed b s)
moved v₀ h st (by-self p q f) (itself r e t o) E i = absurd (omega (arith, e, f))
moved {G} v₀ {v} {v'} {x} {w} {y} {z} h st (by-self p q f) (successor n o) E i =
    subst (λ (u : ℕ). State G v'.flow (u ∷ E)) n.source
    (returns (subst (λ (u : ℕ). State G v.flow (u ∷ E)) (sym q) (h E i)) (subst (Stored v.flow v'.flow x) p st.flow) n.fed)

-- One frame taken off.
pub unwound : {G : Graph} {T : Turns G} {X : List ℕ} {v₀ v v' : View} {b c : Frame} {fs : List Frame} → Unwinding G T X v₀ v b (c ∷ fs)
    → FlowSet v v' b.copy (T.turn b.copy (b.turn - 1)) → Unwinding G T X v₀ v' c fs
unwound {G} {T} {X} {v₀} {v} {v'} {b} {c} {fs} u st = go u.trail
  where
    kept : (z : ℕ) → z ∈ copies (c ∷ fs) → v'.flow z ≡ v.flow z
    kept z h = st.flow.other z (λ e. distinct_head u.distinct (subst (λ (w : ℕ). w ∈ copies (c ∷ fs)) e h))

    load : (z : ℕ) → 0 < v'.flow z → Dec (z ≡ b.copy) → z ∈ X
    load z h (yes e) = u.inside z (here e)
    load z h (no n) = u.load z (omega (arith, h, st.flow.other z n))

    still : (a : Frame) → Found G v a.copy → Found G v' a.copy
    still a (inl h) = inl h
    still a (inr h) = inr (omega (arith, h, ap (λ (g : ℕ → ℕ). g a.copy) st.inn))

    go : Trail G T v.flow (b ∷ c ∷ fs) → Unwinding G T X v₀ v' c fs
    go (over y l k t) = record {
      to = y;
      waits = moved v₀ {x = b.copy} {z = y} u.waits st u.led.way k;
      led = led-after (kept c.copy (here refl)) l;
      trail = trail-after kept t;
      distinct = distinct_tail u.distinct;
      load = λ z h. load z h (ℕ_discrete z b.copy);
      inside = λ z h. u.inside z (there h);
      found = λ a h. still a (u.found a (there h));
    }

-- A frame above the lowest stands for a copy marked in, with pins.
pub unwinding_in : {G : Graph} {T : Turns G} {X : List ℕ} {v₀ v : View} {b c : Frame} {fs : List Frame} → Unwinding G T X v₀ v b (c ∷ fs)
    → (0 < v.inn b.copy) × (0 < G.pins b.copy)
unwinding_in {G} {T} {X} {v₀} {v} {b} {c} {fs} u = go u.trail
  where
    inn : G.forced b.copy ≡ 0 → Found G v b.copy → 0 < v.inn b.copy
    inn e (inl h) = absurd (omega (arith, e, h))
    inn e (inr h) = h

    some : {w y : ℕ} → Way G v.flow b.copy w y → v.flow b.copy ≡ 0 → 0 < G.pins b.copy
    some (by-pin j p h s a) e = omega (arith, h)
    some (by-self p q h) e = absurd (omega (arith, e, h))

    go : Trail G T v.flow (b ∷ c ∷ fs) → (0 < v.inn b.copy) × (0 < G.pins b.copy)
    go (over y l (itself q e t o) r) = (inn o (u.found b (here refl)), some u.led.way e)
    go (over y l (successor n o) r) = (inn o (u.found b (here refl)), omega (arith, n.fed.below))

-- The lowest frame is forced: the unit has come in.
pub unwound-all : {G : Graph} {T : Turns G} {X : List ℕ} {v₀ v : View} {b : Frame} → Unwinding G T X v₀ v b [] → Gains G v₀ v
unwound-all {G} {T} {X} {v₀} {v} {b} u E s = go u.trail u.led.way
  where
    go : {w : ℕ} → Trail G T v.flow (b ∷ []) → Way G v.flow b.copy w u.to → (y : ℕ) × State G v.flow (y ∷ E) × ((x : ℕ) × (0 < G.forced x) × Feeding G y x)
    go (root h) (by-pin j p i e a) = (u.to, u.waits E s, (b.copy, h, record { pin = j; below = i; source = e }))
    go (root h) (by-self p q i) = absurd (omega (arith, h, (u.waits E s).apart b.copy i))
