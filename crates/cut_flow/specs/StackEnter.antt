-- Laws of the search with a stack of its own: a copy is come to and pushed, or left; a terminal opens; a forced copy's turn comes; the start and the end.
use Rattle.std.specs.Prelude.{◌≡◌, refl, ◌⊎◌, ℕ, suc, ◌+◌, ◌-◌, ◌≤◌, ◌<◌, length}
use Rattle.std.proofs.Common.{sym, ap, subst, ◌∙◌, inl, inr, zero-le, arith, le_refl}
use mathlib.Core.List.{List, [], ◌∷◌, ◌++◌}
use Rattle.std.proofs.Math.Decide.{ℕ_discrete}
use Rattle.sequences.specs.Member.{◌∈◌, here, there, not_in_nil, in_append_left, in_append_right, map_in}
use Rattle.sequences.specs.Keep.{keep, in_keep}
use Rattle.sequences.specs.Distinct.{distinct_nil, distinct_cons, distinct-keep}
use Rattle.cut_flow.specs.Graph.{Graph, Lawful}
use Rattle.cut_flow.specs.State.{State, Stored}
use Rattle.cut_flow.specs.Steps.{opens}
use Rattle.cut_flow.specs.Search.{View, Side, Reached, inward, to-self, to-next, Ready, Grew, PassedOut, MarkedIn, FlowSet, marked_in_grew, reached-apart, reached-inner}
use Rattle.cut_flow.specs.Closed.{Found}
use Rattle.cut_flow.specs.Capped.{Expanded, Crowd, Capped}
use Rattle.cut_flow.specs.Tally.{among, Tally, tally-none, tally-skip, tally-count}
use Rattle.cut_flow.specs.Stack.{Frame, frame, copies, Turns, Way, by-pin, by-self, Comes, itself, successor, none, root, over, Early, Come, Good, Held, Near, SelfPassed, Core, Stacked, Hanging, Unwinding}
use Rattle.cut_flow.specs.Unwind.{trail-after}
use Rattle.cut_flow.specs.StackLaws.{good-grew, come-grew, passed-grew, comes-passed}

comes-apart : {G : Graph} {flow : ℕ → ℕ} {y e : ℕ} → Comes G flow y e → G.forced e ≡ 0
comes-apart (itself q h t o) = o
comes-apart (successor n o) = o

-- A copy of the stack is one that has come.
come-on : {G : Graph} {T : Turns G} {node : ℕ → ℕ} {f : ℕ} {flow : ℕ → ℕ} {S : ℕ → Type 0} {v : View} {count : ℕ → ℕ} {fs : List Frame}
    → Core G T node f flow S v count fs → {z : ℕ} → z ∈ copies fs → Come S v z
come-on {S} {v} {fs} c {z} h = let r = map_in (λ (b : Frame). b.copy) fs h in subst (Come S v) (sym r.2) (c.found r.0 r.1)

early-more : {G : Graph} {T : Turns G} (v v' : View) {fs gs : List Frame} {z : ℕ} → v'.flow ≡ v.flow → v'.out ≡ v.out → ((b : Frame) → b ∈ fs → b ∈ gs)
    → SelfPassed v z ⊎ Early G T fs z → SelfPassed v' z ⊎ Early G T gs z
early-more v v' {z} e o w (inl p) = inl (λ h. let q = ap (λ (a : ℕ → ℕ). a z) o in omega (arith, q, p (omega (arith, h, ap (λ (a : ℕ → ℕ). a z) e))))
early-more v v' e o w (inr y) = inr (record { turn = y.turn; on = w _ y.on; early = y.early })

-- ---- the search comes to e, which is marked in

module _ {G : Graph} {T : Turns G} {node : ℕ → ℕ} {f : ℕ} {flow : ℕ → ℕ} {S : ℕ → Type 0} {v v' : View} {count : ℕ → ℕ} {b : Frame} {fs : List Frame} {y e : ℕ}
    (h : Hanging G T node f flow S v count b fs y) (k : Comes G flow y e) (fresh : v.inn e ≡ 0) (m : MarkedIn v v' e) where
  new : ¬ Come S v e
  new (inl s) = omega (arith, comes-apart k, h.core.forced e s)
  new (inr i) = omega (arith, fresh, i)

  g : Grew v v'
  g = marked_in_grew m

  comes-now : {flow' : ℕ → ℕ} → flow' ≡ flow → Comes G flow' y e
  comes-now q = subst (λ (a : ℕ → ℕ). Comes G a y e) (sym q) k

  reached : Comes G v.flow y e → Reached G v.flow inward e
  reached (itself q z t o) = subst (Reached G v.flow inward) (sym q) (to-self h.reached (ap v.flow (sym q) ∙ z) (ap G.terminal (sym q) ∙ t))
  reached (successor n o) = to-next y h.reached n

  ready-now : Ready G v'
  ready-now = record {
    entries = h.core.ready.entries;
    state = subst (λ (a : ℕ → ℕ). State G a h.core.ready.entries) (sym m.flow) h.core.ready.state;
    ins = λ z i. back (ins z i (ℕ_discrete z e));
    outs = λ z o. back (h.core.ready.outs z (omega (arith, o, ap (λ (a : ℕ → ℕ). a z) m.out)));
  }
    where
      back : {s : Side} {z : ℕ} → Reached G v.flow s z → Reached G v'.flow s z
      back {s} {z} r = subst (λ (a : ℕ → ℕ). Reached G a s z) (sym m.flow) r

      ins : (z : ℕ) → 0 < v'.inn z → Dec (z ≡ e) → Reached G v.flow inward z
      ins z i (yes q) = subst (Reached G v.flow inward) (sym q) (reached (comes-now h.core.same))
      ins z i (no n) = h.core.ready.ins z (omega (arith, i, m.inn.other z n))

  came : (z : ℕ) → Come S v' z → Come S v z ⊎ (z ≡ e)
  came z (inl s) = inl (inl s)
  came z (inr i) = go (ℕ_discrete z e)
    where
      go : Dec (z ≡ e) → Come S v z ⊎ (z ≡ e)
      go (yes q) = inr q
      go (no n) = inl (inr (omega (arith, i, m.inn.other z n)))

  marked : 0 < v'.inn e
  marked = omega (arith, m.inn.at)

  beside-now : (z : ℕ) → 0 < v'.inn z → Dec (z ≡ e) → (0 < v'.out z) ⊎ (0 < v'.flow z)
  beside-now z i (no n) = go (h.core.beside z (omega (arith, i, m.inn.other z n)))
    where
      go : (0 < v.out z) ⊎ (0 < v.flow z) → (0 < v'.out z) ⊎ (0 < v'.flow z)
      go (inl o) = inl (g.out z o)
      go (inr c) = inr (omega (arith, c, ap (λ (a : ℕ → ℕ). a z) m.flow))
  beside-now z i (yes q) = go k
    where
      go : Comes G flow y e → (0 < v'.out z) ⊎ (0 < v'.flow z)
      go (itself p c t o) = inl (g.out z (subst (λ (w : ℕ). 0 < v.out w) (sym (q ∙ p)) h.marked))
      go (successor n o) =
          inr (omega (arith, n.fed.pin, ap (λ (a : ℕ → ℕ). a e) (m.flow ∙ h.core.same), ap v'.flow q))

  outs-now : (z : ℕ) → 0 < v'.out z → Dec (z ≡ y) → PassedOut G v' z
  outs-now z o (yes q) =
      subst (PassedOut G v') (sym q) (comes-passed ready-now.state (comes-now (m.flow ∙ h.core.same)) marked)
  outs-now z o (no n) = passed-grew g m.flow (h.outs z (omega (arith, o, ap (λ (a : ℕ → ℕ). a z) m.out)) n)

  near-now : (z : ℕ) → 0 < v'.out z → Near G flow h.core.list z
  near-now z o = h.core.near z (omega (arith, o, ap (λ (a : ℕ → ℕ). a z) m.out))

  -- pushed with the turn i, with the counted copies L
  module _ (i : ℕ) (early : i ≤ T.last e) {count' : ℕ → ℕ} {L : List ℕ} (more : (z : ℕ) → z ∈ h.core.list → z ∈ L)
      (tally : Tally node f count' L (Come S v') (Good G T v' (frame e i ∷ b ∷ fs))) (holds : Held G T flow L (frame e i)) where
    pushed : Stacked G T node f flow S v' count' (frame e i ∷ b ∷ fs)
    pushed = record {
      core = record {
        ready = ready-now;
        same = m.flow ∙ h.core.same;
        forced = h.core.forced;
        list = L;
        tally = tally;
        selfs = λ z p. selfs z p (ℕ_discrete z e);
        found = found;
        held = held;
        near = λ z o. near (near-now z o);
        beside = λ z p. beside-now z p (ℕ_discrete z e);
        distinct = distinct_cons (λ p. new (come-on h.core p)) h.core.distinct;
        trail = over y h.led k h.core.trail;
      };
      outs = λ z o. outs-now z o (ℕ_discrete z y);
    }
      where
        selfs : (z : ℕ) → 0 < v'.inn z → Dec (z ≡ e) → SelfPassed v' z ⊎ Early G T (frame e i ∷ b ∷ fs) z
        selfs z p (yes q) = inr (record { turn = i; on = here (ap (λ (u : ℕ). frame u i) q); early = omega (arith, early, ap T.last q) })
        selfs z p (no n) = early-more v v' m.flow m.out (λ a r. there r) (h.core.selfs z (omega (arith, p, m.inn.other z n)))

        found : (a : Frame) → a ∈ frame e i ∷ b ∷ fs → Come S v' a.copy
        found a (here q) = inr (subst (λ (z : ℕ). 0 < v'.inn z) (sym (ap (λ (c : Frame). c.copy) q)) marked)
        found a (there r) = come-grew S g (h.core.found a r)

        wider : (a : Frame) → Held G T flow h.core.list a → Held G T flow L a
        wider a (inl r) = inl (more a.copy r)
        wider a (inr r) = inr r

        held : (a : Frame) → a ∈ frame e i ∷ b ∷ fs → Held G T flow L a
        held a (here q) = subst (Held G T flow L) (sym q) holds
        held a (there r) = wider a (h.core.held a r)

        near : {z : ℕ} → Near G flow h.core.list z → Near G flow L z
        near (inl c) = inl c
        near (inr (x, r, w)) = inr (x, more x r, w)

  -- counted, and all its turns to come
  pub entered_counted : {count' : ℕ → ℕ} → count (node e) ≤ f → Stored count count' (node e) (suc (count (node e))) → Stacked G T node f flow S v' count' (frame e 0 ∷ b ∷ fs)
  entered_counted l st =
      pushed 0 zero-le (λ z r. there r)
      (tally-count h.core.tally (λ z. come-grew S g) (λ z c. good-grew T g m.flow (λ a r. there r)) e new (inr marked)
      (inr (record { turn = 0; on = here refl; passed = λ t p. absurd (omega (arith, p)) })) l st came)
      (inl (here refl))

  -- its node is full, but it carries: its last turn alone
  pub entered_carried : f < count (node e) → 0 < flow e → Stacked G T node f flow S v' count (frame e (T.last e) ∷ b ∷ fs)
  entered_carried l c =
      pushed (T.last e) (le_refl (T.last e)) (λ z r. r)
      (tally-skip h.core.tally (λ z. come-grew S g) (λ z p. good-grew T g m.flow (λ a r. there r)) e l came)
      (inr (c, le_refl (T.last e)))

  -- its node is full, and there is nothing to try
  pub entered_bare : f < count (node e) → flow e ≡ 0 → Stacked G T node f flow S v' count (b ∷ fs)
  entered_bare l c = record {
    core = record {
      ready = ready-now;
      same = m.flow ∙ h.core.same;
      forced = h.core.forced;
      list = h.core.list;
      tally = tally-skip h.core.tally (λ z. come-grew S g) (λ z p. good-grew T g m.flow (λ a r. r)) e l came;
      selfs = λ z p. selfs z p (ℕ_discrete z e);
      found = λ a r. come-grew S g (h.core.found a r);
      held = h.core.held;
      near = near-now;
      beside = λ z p. beside-now z p (ℕ_discrete z e);
      distinct = h.core.distinct;
      trail = h.core.trail;
    };
    outs = λ z o. outs-now z o (ℕ_discrete z y);
  }
    where
      selfs : (z : ℕ) → 0 < v'.inn z → Dec (z ≡ e) → SelfPassed v' z ⊎ Early G T (b ∷ fs) z
      selfs z p (yes q) = inl (λ r. absurd (omega (arith, r, c, ap (λ (a : ℕ → ℕ). a e) (m.flow ∙ h.core.same), ap v'.flow q)))
      selfs z p (no n) = early-more v v' m.flow m.out (λ a r. r) (h.core.selfs z (omega (arith, p, m.inn.other z n)))

-- ---- a terminal opens

module _ {G : Graph} {T : Turns G} {node : ℕ → ℕ} {f : ℕ} {flow : ℕ → ℕ} {S : ℕ → Type 0} {v v' : View} {count : ℕ → ℕ} {b : Frame} {fs : List Frame} {y n : ℕ} where
  pub hit : (v₀ : View) (W : List ℕ) → Lawful G → (h : Hanging G T node f flow S v count b fs y) → v₀.flow ≡ flow → flow y ≡ 0 → 0 < G.terminal y → 0 < n → FlowSet v v' y n
      → ((z : ℕ) → 0 < flow z → z ∈ W) → Unwinding G T (y ∷ (h.core.list ++ W)) v₀ v' b fs
  hit v₀ W law h from empty end full st load = record {
    to = y;
    waits = λ E s. opens (subst (λ (a : ℕ → ℕ). State G a E) (from ∙ sym h.core.same) s) st.flow (ap (λ (a : ℕ → ℕ). a y) h.core.same ∙ empty) full end (law.bare y end) (reached-apart h.core.ready.state h.reached);
    led = record { begun = h.led.begun; way = way h.led.way };
    trail = trail-after (λ z p. kept z (apart z p)) h.core.trail;
    distinct = h.core.distinct;
    load = λ z p. carries z p (ℕ_discrete z y);
    inside = inside;
    found = λ a r. found a (h.core.found a r);
  }
    where
      kept : (z : ℕ) → ¬ (z ≡ y) → v'.flow z ≡ flow z
      kept z p = st.flow.other z p ∙ ap (λ (a : ℕ → ℕ). a z) h.core.same

      inner : {z : ℕ} → Come S v z → ¬ (z ≡ y)
      inner {z} (inl s) q = omega (arith, law.inner z (h.core.forced z s), end, ap G.terminal q)
      inner {z} (inr i) q = omega (arith, reached-inner law (h.core.ready.ins z i), end, ap G.terminal q)

      apart : (z : ℕ) → z ∈ copies (b ∷ fs) → ¬ (z ≡ y)
      apart z p = inner (come-on h.core p)

      way : Way G flow b.copy (T.turn b.copy (b.turn - 1)) y → Way G v'.flow b.copy (T.turn b.copy (b.turn - 1)) y
      way (by-pin j p q s a) = by-pin j p q s a
      way (by-self p q c) = absurd (omega (arith, empty, c, ap flow q))

      carries : (z : ℕ) → 0 < v'.flow z → Dec (z ≡ y) → z ∈ y ∷ (h.core.list ++ W)
      carries z p (yes q) = here q
      carries z p (no q) = there (in_append_right h.core.list (load z (omega (arith, p, kept z q))))

      inside : (z : ℕ) → z ∈ copies (b ∷ fs) → z ∈ y ∷ (h.core.list ++ W)
      inside z p = let r = map_in (λ (a : Frame). a.copy) (b ∷ fs) p in there (subst (λ (w : ℕ). w ∈ h.core.list ++ W) (sym r.2) (go r.0 (h.core.held r.0 r.1)))
        where
          go : (a : Frame) → Held G T flow h.core.list a → a.copy ∈ h.core.list ++ W
          go a (inl q) = in_append_left W q
          go a (inr q) = in_append_right h.core.list (load a.copy q.0)

      found : (a : Frame) → Come S v a.copy → Found G v' a.copy
      found a (inl s) = inl (h.core.forced a.copy s)
      found a (inr i) = inr (omega (arith, i, ap (λ (c : ℕ → ℕ). c a.copy) st.inn))

-- ---- the turn of a forced copy

module _ {G : Graph} {T : Turns G} {node : ℕ → ℕ} {f : ℕ} {flow : ℕ → ℕ} {S S' : ℕ → Type 0} {v : View} {count : ℕ → ℕ} {x : ℕ}
    (s : Stacked G T node f flow S v count []) (forced : 0 < G.forced x) (keeps : (z : ℕ) → S z → S' z) (now : S' x) (only : (z : ℕ) → S' z → S z ⊎ (z ≡ x)) where
  root-forced : (z : ℕ) → S' z → 0 < G.forced z
  root-forced z p = go (only z p)
    where
      go : S z ⊎ (z ≡ x) → 0 < G.forced z
      go (inl q) = s.core.forced z q
      go (inr e) = subst (λ (w : ℕ). 0 < G.forced w) (sym e) forced

  come : (z : ℕ) → Come S v z → Come S' v z
  come z (inl p) = inl (keeps z p)
  come z (inr p) = inr p

  came-root : (z : ℕ) → Come S' v z → Come S v z ⊎ (z ≡ x)
  came-root z (inr p) = inl (inr p)
  came-root z (inl p) = go (only z p)
    where
      go : S z ⊎ (z ≡ x) → Come S v z ⊎ (z ≡ x)
      go (inl q) = inl (inl q)
      go (inr e) = inr e

  nowhere : {b : Frame} {A : Type 0} → b ∈ [] → A
  nowhere p = absurd (not_in_nil p)

  good : {gs : List Frame} (z : ℕ) → Come S v z → Good G T v [] z → Good G T v gs z
  good z p (inl q) = inl q
  good z p (inr o) = nowhere o.on

  selfs-root : {gs : List Frame} (z : ℕ) → SelfPassed v z ⊎ Early G T [] z → SelfPassed v z ⊎ Early G T gs z
  selfs-root z (inl p) = inl p
  selfs-root z (inr q) = nowhere q.on

  pub root-counted : {count' : ℕ → ℕ} → ¬ S x → count (node x) ≤ f → Stored count count' (node x) (suc (count (node x))) → Stacked G T node f flow S' v count' (frame x 0 ∷ [])
  root-counted n l st = record {
    core = record {
      ready = s.core.ready;
      same = s.core.same;
      forced = root-forced;
      list = x ∷ s.core.list;
      tally = tally-count s.core.tally come good x new (inl now) (inr (record { turn = 0; on = here refl; passed = λ t p. absurd (omega (arith, p)) })) l st came-root;
      selfs = λ z p. selfs-root z (s.core.selfs z p);
      found = found;
      held = held;
      near = λ z o. near (s.core.near z o);
      beside = s.core.beside;
      distinct = distinct_cons (λ p. not_in_nil p) distinct_nil;
      trail = root forced;
    };
    outs = s.outs;
  }
    where
      new : ¬ Come S v x
      new (inl p) = n p
      new (inr p) = omega (arith, forced, reached-apart s.core.ready.state (s.core.ready.ins x p))

      found : (a : Frame) → a ∈ frame x 0 ∷ [] → Come S' v a.copy
      found a (here q) = inl (subst S' (sym (ap (λ (c : Frame). c.copy) q)) now)
      found a (there p) = nowhere p

      held : (a : Frame) → a ∈ frame x 0 ∷ [] → Held G T flow (x ∷ s.core.list) a
      held a (here q) = inl (here (ap (λ (c : Frame). c.copy) q))
      held a (there p) = nowhere p

      near : {z : ℕ} → Near G flow s.core.list z → Near G flow (x ∷ s.core.list) z
      near (inl c) = inl c
      near (inr (w, r, q)) = inr (w, there r, q)

  pub root_skipped : f < count (node x) → Stacked G T node f flow S' v count []
  root_skipped l = record {
    core = record {
      ready = s.core.ready;
      same = s.core.same;
      forced = root-forced;
      list = s.core.list;
      tally = tally-skip s.core.tally come good x l came-root;
      selfs = s.core.selfs;
      found = λ a p. nowhere p;
      held = λ a p. nowhere p;
      near = s.core.near;
      beside = s.core.beside;
      distinct = distinct_nil;
      trail = none;
    };
    outs = s.outs;
  }

-- ---- the start and the end

module _ {G : Graph} {T : Turns G} {node : ℕ → ℕ} {f : ℕ} {S : ℕ → Type 0} {v : View} {count : ℕ → ℕ} where
  pub stacked-none : Ready G v → ((z : ℕ) → v.inn z ≡ 0) → ((z : ℕ) → v.out z ≡ 0) → ((u : ℕ) → count u ≡ 0) → ((z : ℕ) → ¬ S z) → Stacked G T node f v.flow S v count []
  stacked-none r i o c n = record {
    core = record {
      ready = r;
      same = refl;
      forced = λ z p. absurd (n z p);
      list = [];
      tally = tally-none c come;
      selfs = λ z p. absurd (omega (arith, p, i z));
      found = λ a p. absurd (not_in_nil p);
      held = λ a p. absurd (not_in_nil p);
      near = λ z p. absurd (omega (arith, p, o z));
      beside = λ z p. absurd (omega (arith, p, i z));
      distinct = distinct_nil;
      trail = none;
    };
    outs = λ z p. absurd (omega (arith, p, o z));
  }
    where
      come : (z : ℕ) → ¬ Come S v z
      come z (inl p) = n z p
      come z (inr p) = omega (arith, p, i z)

  -- the stack is empty and the turn of all forced copies has come: each member is open, or its node has a crowd
  pub stacked-capped : {flow : ℕ → ℕ} → Stacked G T node f flow S v count [] → ((z : ℕ) → 0 < G.forced z → S z) → Capped G v node f
  unfolding among
  stacked-capped {flow} s all = record {
    half = record { ready = s.core.ready; self = λ z p. self z (s.core.selfs z p); outs = s.outs };
    counted = λ x p. counted x (s.core.tally.turned x (come x p));
  }
    where
      self : (z : ℕ) → SelfPassed v z ⊎ Early G T [] z → SelfPassed v z
      self z (inl p) = p
      self z (inr e) = absurd (not_in_nil e.on)

      come : (x : ℕ) → Found G v x → Come S v x
      come x (inl p) = inl (all x p)
      come x (inr p) = inr p

      found : (x : ℕ) → Come S v x → Found G v x
      found x (inl p) = inl (s.core.forced x p)
      found x (inr p) = inr p

      good : (x : ℕ) → Good G T v [] x → Expanded G v x
      good x (inl p) = p
      good x (inr o) = absurd (not_in_nil o.on)

      same : (u : ℕ) → List ℕ
      same u = keep (λ y. ℕ_discrete (node y) u) s.core.list

      member : (u y : ℕ) → y ∈ same u → (y ∈ s.core.list) × (node y ≡ u)
      member u y p = in_keep (λ w. ℕ_discrete (node w) u) s.core.list p

      sized : (u : ℕ) → length (same u) ≡ count u
      sized u = s.core.tally.size u

      counted : (x : ℕ) → (x ∈ s.core.list) ⊎ (f < count (node x)) → Expanded G v x ⊎ Crowd G v node (node x) f
      counted x (inl p) = inl (good x (s.core.tally.good x p))
      counted x (inr p) = inr (record {
        list = same (node x);
        distinct = distinct-keep (λ y. ℕ_discrete (node y) (node x)) s.core.tally.distinct;
        many = omega (arith, p, sized (node x));
        found = λ y q. found y (s.core.tally.come y (member (node x) y q).0);
        of = λ y q. (member (node x) y q).1;
        expanded = λ y q. good y (s.core.tally.good y (member (node x) y q).0);
      })
