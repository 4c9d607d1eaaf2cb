-- Laws of the search with a stack of its own: a turn passed, a frame taken off, a copy marked out, a copy that has passed its mark on.
use Rattle.std.specs.Prelude.{◌≡◌, refl, ◌⊎◌, List, ◌∷◌, ℕ, suc, ◌+◌, ◌-◌, ◌≤◌, ◌<◌}
use Rattle.std.proofs.Common.{sym, ap, subst, ◌∙◌, inl, inr, arith}
use Rattle.std.proofs.Math.Decide.{ℕ_discrete, dec_le}
use Rattle.sequences.specs.Member.{◌∈◌, here, there}
use Rattle.sequences.specs.Distinct.{distinct_tail}
use Rattle.cut_flow.specs.Graph.{Graph, Lawful}
use Rattle.cut_flow.specs.State.{Next, State, next_one, next-carried}
use Rattle.cut_flow.specs.Search.{View, Side, Reached, outward, from-forced, from_in, from-self, Grew, PinPassed, PassedOut, MarkedOut, marked-out-grew, reached-inner}
use Rattle.cut_flow.specs.Capped.{Expanded}
use Rattle.cut_flow.specs.Tally.{tally-same}
use Rattle.cut_flow.specs.Stack.{Frame, frame, Turns, Way, by-pin, by-self, Comes, itself, successor, WayPassed, Trail, none, root, over, Opened, Early, Come, Good, Held, Near, SelfPassed, Core, Stacked, Hanging}

-- ---- more marks

pub pin-grew : (G : Graph) {v v' : View} {x j : ℕ} → Grew v v' → PinPassed G v x j → PinPassed G v' x j
pin-grew G g (inl h) = inl h
pin-grew G {x} {j} g (inr h) = inr (g.out (G.source x j) h)

pub way-grew : {G : Graph} {v v' : View} {x w : ℕ} → Grew v v' → v'.flow ≡ v.flow → WayPassed G v x w → WayPassed G v' x w
way-grew {G} {x} g e p = record {
  pin = λ j q. pin-grew G g (p.pin j q);
  self = λ q h. g.out x (p.self q (omega (arith, h, ap (λ (a : ℕ → ℕ). a x) e)));
}

pub good-grew : {G : Graph} (T : Turns G) {v v' : View} {fs gs : List Frame} {z : ℕ} → Grew v v' → v'.flow ≡ v.flow → ((b : Frame) → b ∈ fs → b ∈ gs) → Good G T v fs z → Good G T v' gs z
good-grew {G} T g e w (inl h) = inl (λ j i. pin-grew G g (h j i))
good-grew T g e w (inr o) = inr (record { turn = o.turn; on = w _ o.on; passed = λ t i. way-grew g e (o.passed t i) })

pub come-grew : (S : ℕ → Type 0) {v v' : View} {z : ℕ} → Grew v v' → Come S v z → Come S v' z
come-grew S g (inl h) = inl h
come-grew S {z} g (inr h) = inr (g.inn z h)

-- ---- a top frame whose turn was passed

on-top : {b c : Frame} {fs : List Frame} → c ∈ b ∷ fs → (c ≡ b) ⊎ (c ∈ fs)
on-top (here e) = inl e
on-top (there h) = inr h

module _ {G : Graph} {T : Turns G} {v : View} {x i : ℕ} {fs : List Frame} (p : WayPassed G v x (T.turn x i)) where
  opened-turned : {z : ℕ} → Opened G T v (frame x i ∷ fs) z → Opened G T v (frame x (i + 1) ∷ fs) z
  opened-turned {z} o = go (on-top o.on)
    where
      all : z ≡ x → o.turn ≡ i → (t : ℕ) → t < i + 1 → Dec (t ≡ i) → WayPassed G v z (T.turn z t)
      all e q t h (yes r) = subst (λ (u : ℕ). WayPassed G v u (T.turn u t)) (sym e) (subst (λ (j : ℕ). WayPassed G v x (T.turn x j)) (sym r) p)
      all e q t h (no n) = o.passed t (omega (arith, h, n, q))

      go : (frame z o.turn ≡ frame x i) ⊎ (frame z o.turn ∈ fs) → Opened G T v (frame x (i + 1) ∷ fs) z
      go (inl e) =
          let c : z ≡ x = ap (λ (b : Frame). b.copy) e in
          let q : o.turn ≡ i = ap (λ (b : Frame). b.turn) e in
          record { turn = i + 1; on = here (ap (λ (u : ℕ). frame u (i + 1)) c); passed = λ t h. all c q t h (ℕ_discrete t i) }
      go (inr h) = record { turn = o.turn; on = there h; passed = o.passed }

  good-turned : {z : ℕ} → Good G T v (frame x i ∷ fs) z → Good G T v (frame x (i + 1) ∷ fs) z
  good-turned (inl h) = inl h
  good-turned (inr o) = inr (opened-turned o)

  selfs-turned : {z : ℕ} → SelfPassed v z ⊎ Early G T (frame x i ∷ fs) z → SelfPassed v z ⊎ Early G T (frame x (i + 1) ∷ fs) z
  selfs-turned (inl h) = inl h
  selfs-turned {z} (inr y) = go (on-top y.on) (dec_le (T.last x) i)
    where
      go : (frame z y.turn ≡ frame x i) ⊎ (frame z y.turn ∈ fs) → Dec (T.last x ≤ i) → SelfPassed v z ⊎ Early G T (frame x (i + 1) ∷ fs) z
      go (inr h) d = inr (record { turn = y.turn; on = there h; early = y.early })
      go (inl e) (yes l) =
          let c : z ≡ x = ap (λ (b : Frame). b.copy) e in
          inl (subst (SelfPassed v) (sym c) (p.self (T.self x i l)))
      go (inl e) (no n) =
          let c : z ≡ x = ap (λ (b : Frame). b.copy) e in
          inr (record { turn = i + 1; on = here (ap (λ (u : ℕ). frame u (i + 1)) c); early = omega (arith, n, ap T.last c) })

trail-turned : {G : Graph} {T : Turns G} {flow : ℕ → ℕ} {x i j : ℕ} {fs : List Frame} → Trail G T flow (frame x i ∷ fs) → Trail G T flow (frame x j ∷ fs)
trail-turned (root h) = root h
trail-turned (over y l c t) = over y l c t

pub trail-tail : {G : Graph} {T : Turns G} {flow : ℕ → ℕ} {b : Frame} {fs : List Frame} → Trail G T flow (b ∷ fs) → Trail G T flow fs
trail-tail (root h) = none
trail-tail (over y l c t) = t

module _ {G : Graph} {T : Turns G} {node : ℕ → ℕ} {f : ℕ} {flow : ℕ → ℕ} {S : ℕ → Type 0} {v : View} {count : ℕ → ℕ} {x i : ℕ} {fs : List Frame} where
  pub core-turned : Core G T node f flow S v count (frame x i ∷ fs) → WayPassed G v x (T.turn x i) → Core G T node f flow S v count (frame x (i + 1) ∷ fs)
  core-turned c p = record {
    ready = c.ready;
    same = c.same;
    forced = c.forced;
    list = c.list;
    tally = tally-same c.tally (λ z h. h) (λ z h g. good-turned p g) (λ z h. h);
    selfs = λ z h. selfs-turned p (c.selfs z h);
    found = found;
    held = held;
    near = c.near;
    beside = c.beside;
    distinct = c.distinct;
    trail = trail-turned c.trail;
  }
    where
      found : (b : Frame) → b ∈ frame x (i + 1) ∷ fs → Come S v b.copy
      found b (here e) = subst (Come S v) (sym (ap (λ (a : Frame). a.copy) e)) (c.found (frame x i) (here refl))
      found b (there h) = c.found b (there h)

      later : Held G T flow c.list (frame x i) → Held G T flow c.list (frame x (i + 1))
      later (inl h) = inl h
      later (inr (h, l)) = inr (h, omega (arith, l))

      held : (b : Frame) → b ∈ frame x (i + 1) ∷ fs → Held G T flow c.list b
      held b (here e) = subst (Held G T flow c.list) (sym e) (later (c.held (frame x i) (here refl)))
      held b (there h) = c.held b (there h)

  pub stacked-turned : Stacked G T node f flow S v count (frame x i ∷ fs) → WayPassed G v x (T.turn x i) → Stacked G T node f flow S v count (frame x (i + 1) ∷ fs)
  stacked-turned s p = record { core = core-turned s.core p; outs = s.outs }

  -- ---- a frame taken off: all its pins have passed

  pub come-inner : Lawful G → Core G T node f flow S v count (frame x i ∷ fs) → {z : ℕ} → Come S v z → G.terminal z ≡ 0
  come-inner law c {z} (inl h) = law.inner z (c.forced z h)
  come-inner law c {z} (inr h) = reached-inner law (c.ready.ins z h)

  pub core-popped : Lawful G → Core G T node f flow S v count (frame x i ∷ fs) → T.last x < i → Core G T node f flow S v count fs
  core-popped law c l = record {
    ready = c.ready;
    same = c.same;
    forced = c.forced;
    list = c.list;
    tally = tally-same c.tally (λ z h. h) good (λ z h. h);
    selfs = λ z h. selfs (c.selfs z h);
    found = λ b h. c.found b (there h);
    held = λ b h. c.held b (there h);
    near = c.near;
    beside = c.beside;
    distinct = distinct_tail c.distinct;
    trail = trail-tail c.trail;
  }
    where
      opened : {z : ℕ} → Come S v z → (o : Opened G T v (frame x i ∷ fs) z) → (frame z o.turn ≡ frame x i) ⊎ (frame z o.turn ∈ fs) → Good G T v fs z
      opened h o (inr k) = inr (record { turn = o.turn; on = k; passed = o.passed })
      opened {z} h o (inl e) = inl all
        where
          all : Expanded G v z
          all j b =
              let r = T.every z j (come-inner law c h) b in
              let q : o.turn ≡ i = ap (λ (a : Frame). a.turn) e in
              let m = ap (λ (a : Frame). T.last a.copy) e in
              (o.passed r.0 (omega (arith, r.1, l, q, m))).pin j r.2

      good : (z : ℕ) → Come S v z → Good G T v (frame x i ∷ fs) z → Good G T v fs z
      good z h (inl e) = inl e
      good z h (inr o) = opened h o (on-top o.on)

      early : {z : ℕ} (y : Early G T (frame x i ∷ fs) z) → (frame z y.turn ≡ frame x i) ⊎ (frame z y.turn ∈ fs) → Early G T fs z
      early y (inr k) = record { turn = y.turn; on = k; early = y.early }
      early y (inl e) = absurd (omega (arith, y.early, l, ap (λ (a : Frame). a.turn) e, ap (λ (a : Frame). T.last a.copy) e))

      selfs : {z : ℕ} → SelfPassed v z ⊎ Early G T (frame x i ∷ fs) z → SelfPassed v z ⊎ Early G T fs z
      selfs (inl h) = inl h
      selfs (inr y) = inr (early y (on-top y.on))

  pub stacked-popped : Lawful G → Stacked G T node f flow S v count (frame x i ∷ fs) → T.last x < i → Stacked G T node f flow S v count fs
  stacked-popped law s l = record { core = core-popped law s.core l; outs = s.outs }

-- ---- a copy marked out

pub passed-grew : {G : Graph} {v v' : View} {z : ℕ} → Grew v v' → v'.flow ≡ v.flow → PassedOut G v z → PassedOut G v' z
passed-grew {G} {v} {v'} {z} g e p = record {
  empty = λ h. let r = p.empty (sym (ap (λ (a : ℕ → ℕ). a z) e) ∙ h) in (r.0, g.inn z r.1);
  next = λ x n. g.inn x (p.next x (subst (λ (a : ℕ → ℕ). Next G a z x) e n));
}

module _ {G : Graph} {T : Turns G} {node : ℕ → ℕ} {f : ℕ} {flow : ℕ → ℕ} {S : ℕ → Type 0} {v v' : View} {count : ℕ → ℕ} {fs : List Frame} {y : ℕ} where
  pub core-marked : (c : Core G T node f flow S v count fs) → MarkedOut v v' y → Reached G v.flow outward y → Near G flow c.list y → Core G T node f flow S v' count fs
  core-marked c m r n = record {
    ready = record {
      entries = c.ready.entries;
      state = subst (λ (a : ℕ → ℕ). State G a c.ready.entries) (sym m.flow) c.ready.state;
      ins = λ z h. back (c.ready.ins z (omega (arith, h, inn z)));
      outs = λ z h. back (outs z h (ℕ_discrete z y));
    };
    same = m.flow ∙ c.same;
    forced = c.forced;
    list = c.list;
    tally = tally-same c.tally (λ z. come-grew S g) (λ z h. good-grew T g m.flow (λ b k. k)) come;
    selfs = λ z h. selfs z (c.selfs z (omega (arith, h, inn z)));
    found = λ b h. come-grew S g (c.found b h);
    held = c.held;
    near = λ z h. near z h (ℕ_discrete z y);
    beside = λ z h. beside z (c.beside z (omega (arith, h, inn z)));
    distinct = c.distinct;
    trail = c.trail;
  }
    where
      g : Grew v v'
      g = marked-out-grew m

      inn : (z : ℕ) → v'.inn z ≡ v.inn z
      inn z = ap (λ (a : ℕ → ℕ). a z) m.inn

      back : {k : Side} {z : ℕ} → Reached G v.flow k z → Reached G v'.flow k z
      back {k} {z} h = subst (λ (a : ℕ → ℕ). Reached G a k z) (sym m.flow) h

      outs : (z : ℕ) → 0 < v'.out z → Dec (z ≡ y) → Reached G v.flow outward z
      outs z h (yes e) = subst (Reached G v.flow outward) (sym e) r
      outs z h (no k) = c.ready.outs z (omega (arith, h, m.out.other z k))

      come : (z : ℕ) → Come S v' z → Come S v z
      come z (inl h) = inl h
      come z (inr h) = inr (omega (arith, h, inn z))

      selfs : (z : ℕ) → SelfPassed v z ⊎ Early G T fs z → SelfPassed v' z ⊎ Early G T fs z
      selfs z (inl p) = inl (λ h. g.out z (p (omega (arith, h, ap (λ (a : ℕ → ℕ). a z) m.flow))))
      selfs z (inr e) = inr e

      near : (z : ℕ) → 0 < v'.out z → Dec (z ≡ y) → Near G flow c.list z
      near z h (yes e) = subst (Near G flow c.list) (sym e) n
      near z h (no k) = c.near z (omega (arith, h, m.out.other z k))

      beside : (z : ℕ) → (0 < v.out z) ⊎ (0 < v.flow z) → (0 < v'.out z) ⊎ (0 < v'.flow z)
      beside z (inl h) = inl (g.out z h)
      beside z (inr h) = inr (omega (arith, h, ap (λ (a : ℕ → ℕ). a z) m.flow))

module _ {G : Graph} {T : Turns G} {node : ℕ → ℕ} {f : ℕ} {flow : ℕ → ℕ} {S : ℕ → Type 0} {v v' : View} {count : ℕ → ℕ} {fs : List Frame} {y : ℕ} where
  -- the top frame's way leads to y, which is marked out
  pub hang : {x i : ℕ} → Stacked G T node f flow S v count (frame x i ∷ fs) → Way G flow x (T.turn x i) y → MarkedOut v v' y → Hanging G T node f flow S v' count (frame x (i + 1)) fs y
  hang {x} {i} s w m = record {
    core = core-turned marked (passed w);
    led = record { begun = omega arith; way = subst (λ (j : ℕ). Way G flow x (T.turn x j) y) before w };
    reached = subst (λ (a : ℕ → ℕ). Reached G a outward y) (sym m.flow) (reached w (top.found (frame x i) (here refl)));
    marked = omega (arith, m.out.at);
    outs = λ z h n. passed-grew (marked-out-grew m) m.flow (s.outs z (omega (arith, h, m.out.other z n)));
  }
    where
      top : Core G T node f flow S v count (frame x i ∷ fs)
      top = s.core

      before : i ≡ i + 1 - 1
      before = omega arith

      carries : {z : ℕ} → 0 < flow z → 0 < v.flow z
      carries {z} h = omega (arith, h, ap (λ (a : ℕ → ℕ). a z) top.same)

      reached : Way G flow x (T.turn x i) y → Come S v x → Reached G v.flow outward y
      reached (by-pin j p b e o) (inl h) = from-forced x (top.forced x h) (record { pin = j; below = b; source = e }) o
      reached (by-pin j p b e o) (inr h) = from_in x (top.ready.ins x h) (record { pin = j; below = b; source = e }) o
      reached (by-self p q h) (inl k) = absurd (omega (arith, top.forced x k, top.ready.state.apart x (carries h)))
      reached (by-self p q h) (inr k) = subst (Reached G v.flow outward) q (from-self (top.ready.ins x k) (carries h))

      near : Way G flow x (T.turn x i) y → Held G T flow top.list (frame x i) → Near G flow top.list y
      near (by-pin j p b e o) (inl h) = inr (x, h, record { pin = j; below = b; source = e })
      near (by-pin j p b e o) (inr (h, l)) = absurd (omega (arith, p, T.self x i l))
      near (by-self p q h) k = inl (subst (λ (z : ℕ). 0 < flow z) q h)

      marked : Core G T node f flow S v' count (frame x i ∷ fs)
      marked = core-marked top m (reached w (top.found (frame x i) (here refl))) (near w (top.held (frame x i) (here refl)))

      passed : Way G flow x (T.turn x i) y → WayPassed G v' x (T.turn x i)
      passed (by-pin j p b e o) = record {
        pin = λ k q. subst (λ (n : ℕ). PinPassed G v' x n) (omega (arith, p, q)) (inr (subst (λ (z : ℕ). 0 < v'.out z) (sym e) (omega (arith, m.out.at))));
        self = λ q. absurd (omega (arith, p, q));
      }
      passed (by-self p q h) = record {
        pin = λ j k. absurd (omega (arith, p, k));
        self = λ k l. subst (λ (z : ℕ). 0 < v'.out z) (sym q) (omega (arith, m.out.at));
      }

-- ---- a copy marked out has passed its mark on

pub comes-passed : {G : Graph} {v : View} {E : List ℕ} {y e : ℕ} → State G v.flow E → Comes G v.flow y e → 0 < v.inn e → PassedOut G v y
comes-passed {G} {v} {E} {y} {e} s (itself q h t o) i = record {
  empty = λ k. (subst (λ (z : ℕ). G.terminal z ≡ 0) q t, subst (λ (z : ℕ). 0 < v.inn z) q i);
  next = λ x n. absurd (omega (arith, h, next-carried s n, ap v.flow q));
}
comes-passed {G} {v} {E} {y} {e} s (successor n o) i = record {
  empty = λ k. absurd (omega (arith, k, next-carried s n));
  next = λ x m. subst (λ (z : ℕ). 0 < v.inn z) (next_one s n m) i;
}

pub last-passed : {G : Graph} {v : View} {y : ℕ} → 0 < v.flow y → ((x : ℕ) → ¬ Next G v.flow y x) → PassedOut G v y
last-passed h n = record { empty = λ k. absurd (omega (arith, h, k)); next = λ x m. absurd (n x m) }

module _ {G : Graph} {T : Turns G} {node : ℕ → ℕ} {f : ℕ} {flow : ℕ → ℕ} {S : ℕ → Type 0} {v : View} {count : ℕ → ℕ} {b : Frame} {fs : List Frame} {y : ℕ} where
  pub settled : Hanging G T node f flow S v count b fs y → PassedOut G v y → Stacked G T node f flow S v count (b ∷ fs)
  settled h p = record { core = h.core; outs = λ z o. go z o (ℕ_discrete z y) }
    where
      go : (z : ℕ) → 0 < v.out z → Dec (z ≡ y) → PassedOut G v z
      go z o (yes e) = subst (PassedOut G v) (sym e) p
      go z o (no n) = h.outs z o n
