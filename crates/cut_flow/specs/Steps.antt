-- The four steps of an augmenting search: a terminal opens; a copy without flow takes the waiting unit; a copy with flow takes it, and its old source
-- waits; a waiting copy gives its unit back to its source.
use Rattle.std.specs.Prelude.{◌≡◌, refl, ◌⊎◌, List, ◌∷◌, ℕ, suc, ◌<◌}
use Rattle.std.proofs.Common.{sym, ap, subst, ◌∙◌, inl, inr, arith}
use Rattle.std.proofs.Math.Decide.{ℕ_discrete}
use Rattle.sequences.specs.Member.{◌∈◌, here, there, in_equal}
use Rattle.sequences.specs.Distinct.{distinct_cons, distinct_head, distinct_tail}
use Rattle.cut_flow.specs.Graph.{Graph}
use Rattle.cut_flow.specs.State.{Fed, Next, State, Stored, stored_at, fed-at}

module _ {flow flow' : ℕ → ℕ} {x v : ℕ} (st : Stored flow flow' x v) where
  carries-forth : {z : ℕ} → ¬ (z ≡ x) → 0 < flow z → 0 < flow' z
  carries-forth {z} n h = omega (arith, st.other z n)

  carries-back : {z : ℕ} → ¬ (z ≡ x) → 0 < flow' z → 0 < flow z
  carries-back {z} n h = omega (arith, st.other z n)

module _ {G : Graph} {flow flow' : ℕ → ℕ} {x v : ℕ} (st : Stored flow flow' x v) where
  fed-back : {z j : ℕ} → ¬ (z ≡ x) → Fed G flow' z j → Fed G flow z j
  fed-back {z} n f = record { pin = sym (st.other z n) ∙ f.pin; below = f.below }

  fed-forth : {z j : ℕ} → ¬ (z ≡ x) → Fed G flow z j → Fed G flow' z j
  fed-forth {z} n f = record { pin = st.other z n ∙ f.pin; below = f.below }

  next-forth : {y z : ℕ} → ¬ (z ≡ x) → Next G flow y z → Next G flow' y z
  next-forth n m = record { by = m.by; fed = fed-forth n m.fed; source = m.source }

-- a copy that carries is not one that does not
unlike : (flow : ℕ → ℕ) {z x : ℕ} → 0 < flow z → flow x ≡ 0 → ¬ (z ≡ x)
unlike flow h e p = omega (arith, h, e, ap flow p)

fed-carries : {G : Graph} {flow : ℕ → ℕ} {x j : ℕ} → Fed G flow x j → 0 < flow x
fed-carries f = omega (arith, f.pin)

-- A terminal without flow opens, and waits.
module _ {G : Graph} {flow flow' : ℕ → ℕ} {E : List ℕ} {y v : ℕ} (s : State G flow E) (st : Stored flow flow' y v) (empty : flow y ≡ 0) (full : 0 < v)
    (end : 0 < G.terminal y) (bare : G.pins y ≡ 0) (apart : G.forced y ≡ 0) where
  opens-other : {z j : ℕ} → Fed G flow' z j → ¬ (z ≡ y)
  opens-other {z} {j} f e = omega (arith, f.below, bare, ap G.pins e)

  opens_back : {z j : ℕ} → Fed G flow' z j → Fed G flow z j
  opens_back f = fed-back st (opens-other f) f

  pub opens : State G flow' (y ∷ E)
  opens = record {
    inflow = λ x h t. inflow x h t (ℕ_discrete x y);
    carried = λ x j f. carries-forth st (unlike flow (s.carried x j (opens_back f)) empty) (s.carried x j (opens_back f));
    apart = λ x h. outside x h (ℕ_discrete x y);
    single = λ x z i j f g. s.single x z i j (opens_back f) (opens_back g);
    distinct = distinct_cons (λ h. unlike flow (s.entry y h) empty refl) s.distinct;
    entry = entry;
    free = free;
    leaves = λ z h. leaves z h (ℕ_discrete z y);
  }
    where
      inflow : (x : ℕ) → 0 < flow' x → G.terminal x ≡ 0 → Dec (x ≡ y) → (j : ℕ) × Fed G flow' x j
      inflow x h t (yes e) = absurd (omega (arith, end, t, ap G.terminal e))
      inflow x h t (no n) = let r = s.inflow x (carries-back st n h) t in (r.0, fed-forth st n r.1)

      outside : (x : ℕ) → 0 < flow' x → Dec (x ≡ y) → G.forced x ≡ 0
      outside x h (yes e) = ap G.forced e ∙ apart
      outside x h (no n) = s.apart x (carries-back st n h)

      entry : (e : ℕ) → e ∈ y ∷ E → 0 < flow' e
      entry e (here p) = omega (arith, stored_at st p)
      entry e (there h) = carries-forth st (unlike flow (s.entry e h) empty) (s.entry e h)

      free : (x j : ℕ) → Fed G flow' x j → ¬ (G.source x j ∈ y ∷ E)
      free x j f (here p) = unlike flow (s.carried x j (opens_back f)) empty p
      free x j f (there h) = s.free x j (opens_back f) h

      old : (z : ℕ) → (z ∈ E) ⊎ ((x : ℕ) × Next G flow z x) → (z ∈ y ∷ E) ⊎ ((x : ℕ) × Next G flow' z x)
      old z (inl h) = inl (there h)
      old z (inr (x, n)) = inr (x, next-forth st (unlike flow (fed-carries n.fed) empty) n)

      leaves : (z : ℕ) → 0 < flow' z → Dec (z ≡ y) → (z ∈ y ∷ E) ⊎ ((x : ℕ) × Next G flow' z x)
      leaves z h (yes e) = inl (here e)
      leaves z h (no n) = old z (s.leaves z (carries-back st n h))

-- x, which carries nothing, takes the unit that waits at y.
module _ {G : Graph} {flow flow' : ℕ → ℕ} {E : List ℕ} {x y j : ℕ} (s : State G flow (y ∷ E)) (st : Stored flow flow' x (suc j)) (empty : flow x ≡ 0)
    (below : j < G.pins x) (source : G.source x j ≡ y) (apart : G.forced x ≡ 0) where
  joins-fed : {z : ℕ} → z ≡ x → Fed G flow' z j
  joins-fed e = record { pin = stored_at st e; below = omega (arith, below, ap G.pins e) }

  joins-next : Next G flow' y x
  joins-next = record { by = j; fed = joins-fed refl; source = source }

  joins-source : {z i : ℕ} → z ≡ x → Fed G flow' z i → G.source z i ≡ y
  joins-source e f = fed-at e f (joins-fed refl) ∙ source

  joins-waits : 0 < flow y
  joins-waits = s.entry y (here refl)

  pub joins : State G flow' (x ∷ E)
  joins = record {
    inflow = λ z h t. inflow z h t (ℕ_discrete z x);
    carried = λ z i f. carried z i f (ℕ_discrete z x);
    apart = λ z h. outside z h (ℕ_discrete z x);
    single = λ z w i k f g e. single z w i k f g e (ℕ_discrete z x) (ℕ_discrete w x);
    distinct = distinct_cons (λ h. unlike flow (s.entry x (there h)) empty refl) (distinct_tail s.distinct);
    entry = entry;
    free = λ z i f. free z i f (ℕ_discrete z x);
    leaves = λ z h. leaves z h (ℕ_discrete z x);
  }
    where
      inflow : (z : ℕ) → 0 < flow' z → G.terminal z ≡ 0 → Dec (z ≡ x) → (i : ℕ) × Fed G flow' z i
      inflow z h t (yes e) = (j, joins-fed e)
      inflow z h t (no n) = let r = s.inflow z (carries-back st n h) t in (r.0, fed-forth st n r.1)

      carried : (z i : ℕ) → Fed G flow' z i → Dec (z ≡ x) → 0 < flow' (G.source z i)
      carried z i f (yes e) = subst (λ (w : ℕ). 0 < flow' w) (sym (joins-source e f)) (carries-forth st (unlike flow joins-waits empty) joins-waits)
      carried z i f (no n) = let h = s.carried z i (fed-back st n f) in carries-forth st (unlike flow h empty) h

      outside : (z : ℕ) → 0 < flow' z → Dec (z ≡ x) → G.forced z ≡ 0
      outside z h (yes e) = ap G.forced e ∙ apart
      outside z h (no n) = s.apart z (carries-back st n h)

      single : (z w i k : ℕ) → Fed G flow' z i → Fed G flow' w k → G.source z i ≡ G.source w k → Dec (z ≡ x) → Dec (w ≡ x) → z ≡ w
      single z w i k f g e (yes p) (yes q) = p ∙ sym q
      single z w i k f g e (yes p) (no n) = absurd (s.free w k (fed-back st n g) (here (sym e ∙ joins-source p f)))
      single z w i k f g e (no n) (yes q) = absurd (s.free z i (fed-back st n f) (here (e ∙ joins-source q g)))
      single z w i k f g e (no n) (no m) = s.single z w i k (fed-back st n f) (fed-back st m g) e

      entry : (e : ℕ) → e ∈ x ∷ E → 0 < flow' e
      entry e (here p) = omega (arith, stored_at st p)
      entry e (there h) = let c = s.entry e (there h) in carries-forth st (unlike flow c empty) c

      free : (z i : ℕ) → Fed G flow' z i → Dec (z ≡ x) → ¬ (G.source z i ∈ x ∷ E)
      free z i f (yes e) (here p) = unlike flow joins-waits empty (sym (joins-source e f) ∙ p)
      free z i f (yes e) (there h) = distinct_head s.distinct (in_equal (sym (joins-source e f)) h)
      free z i f (no n) (here p) = unlike flow (s.carried z i (fed-back st n f)) empty p
      free z i f (no n) (there h) = s.free z i (fed-back st n f) (there h)

      old : (z : ℕ) → (z ∈ y ∷ E) ⊎ ((w : ℕ) × Next G flow z w) → (z ∈ x ∷ E) ⊎ ((w : ℕ) × Next G flow' z w)
      old z (inl (here e)) = inr (x, subst (λ (w : ℕ). Next G flow' w x) (sym e) joins-next)
      old z (inl (there h)) = inl (there h)
      old z (inr (w, n)) = inr (w, next-forth st (unlike flow (fed-carries n.fed) empty) n)

      leaves : (z : ℕ) → 0 < flow' z → Dec (z ≡ x) → (z ∈ x ∷ E) ⊎ ((w : ℕ) × Next G flow' z w)
      leaves z h (yes e) = inl (here e)
      leaves z h (no n) = old z (s.leaves z (carries-back st n h))

-- x takes the unit that waits at y instead of its own, which now waits at its old source.
module _ {G : Graph} {flow flow' : ℕ → ℕ} {E : List ℕ} {x y i j : ℕ} (s : State G flow (y ∷ E)) (st : Stored flow flow' x (suc j)) (fed : Fed G flow x i)
    (below : j < G.pins x) (source : G.source x j ≡ y) where
  turns-fed : {z : ℕ} → z ≡ x → Fed G flow' z j
  turns-fed e = record { pin = stored_at st e; below = omega (arith, below, ap G.pins e) }

  turns_next : Next G flow' y x
  turns_next = record { by = j; fed = turns-fed refl; source = source }

  turns-source : {z k : ℕ} → z ≡ x → Fed G flow' z k → G.source z k ≡ y
  turns-source e f = fed-at e f (turns-fed refl) ∙ source

  turns-carries : (z : ℕ) → 0 < flow z → 0 < flow' z
  turns-carries z h = go (ℕ_discrete z x)
    where
      go : Dec (z ≡ x) → 0 < flow' z
      go (yes e) = omega (arith, stored_at st e)
      go (no n) = carries-forth st n h

  turns-carried : (z : ℕ) → 0 < flow' z → 0 < flow z
  turns-carried z h = go (ℕ_discrete z x)
    where
      go : Dec (z ≡ x) → 0 < flow z
      go (yes e) = omega (arith, fed.pin, ap flow e)
      go (no n) = carries-back st n h

  pub turns : State G flow' (G.source x i ∷ E)
  turns = record {
    inflow = λ z h t. inflow z h t (ℕ_discrete z x);
    carried = λ z k f. carried z k f (ℕ_discrete z x);
    apart = λ z h. s.apart z (turns-carried z h);
    single = λ z w k l f g e. single z w k l f g e (ℕ_discrete z x) (ℕ_discrete w x);
    distinct = distinct_cons (λ h. s.free x i fed (there h)) (distinct_tail s.distinct);
    entry = entry;
    free = λ z k f. free z k f (ℕ_discrete z x);
    leaves = λ z h. leaves z (s.leaves z (turns-carried z h));
  }
    where
      inflow : (z : ℕ) → 0 < flow' z → G.terminal z ≡ 0 → Dec (z ≡ x) → (k : ℕ) × Fed G flow' z k
      inflow z h t (yes e) = (j, turns-fed e)
      inflow z h t (no n) = let r = s.inflow z (carries-back st n h) t in (r.0, fed-forth st n r.1)

      carried : (z k : ℕ) → Fed G flow' z k → Dec (z ≡ x) → 0 < flow' (G.source z k)
      carried z k f (yes e) = subst (λ (w : ℕ). 0 < flow' w) (sym (turns-source e f)) (turns-carries y (s.entry y (here refl)))
      carried z k f (no n) = turns-carries (G.source z k) (s.carried z k (fed-back st n f))

      single : (z w k l : ℕ) → Fed G flow' z k → Fed G flow' w l → G.source z k ≡ G.source w l → Dec (z ≡ x) → Dec (w ≡ x) → z ≡ w
      single z w k l f g e (yes p) (yes q) = p ∙ sym q
      single z w k l f g e (yes p) (no n) = absurd (s.free w l (fed-back st n g) (here (sym e ∙ turns-source p f)))
      single z w k l f g e (no n) (yes q) = absurd (s.free z k (fed-back st n f) (here (e ∙ turns-source q g)))
      single z w k l f g e (no n) (no m) = s.single z w k l (fed-back st n f) (fed-back st m g) e

      entry : (e : ℕ) → e ∈ G.source x i ∷ E → 0 < flow' e
      entry e (here p) = subst (λ (w : ℕ). 0 < flow' w) (sym p) (turns-carries (G.source x i) (s.carried x i fed))
      entry e (there h) = turns-carries e (s.entry e (there h))

      free : (z k : ℕ) → Fed G flow' z k → Dec (z ≡ x) → ¬ (G.source z k ∈ G.source x i ∷ E)
      free z k f (yes e) (here p) = s.free x i fed (here (sym p ∙ turns-source e f))
      free z k f (yes e) (there h) = distinct_head s.distinct (in_equal (sym (turns-source e f)) h)
      free z k f (no n) (here p) = n (s.single z x k i (fed-back st n f) fed p)
      free z k f (no n) (there h) = s.free z k (fed-back st n f) (there h)

      onward : (z w : ℕ) → Next G flow z w → Dec (w ≡ x) → (z ∈ G.source x i ∷ E) ⊎ ((u : ℕ) × Next G flow' z u)
      onward z w n (yes e) = inl (here (sym n.source ∙ fed-at e n.fed fed))
      onward z w n (no m) = inr (w, next-forth st m n)

      leaves : (z : ℕ) → (z ∈ y ∷ E) ⊎ ((w : ℕ) × Next G flow z w) → (z ∈ G.source x i ∷ E) ⊎ ((w : ℕ) × Next G flow' z w)
      leaves z (inl (here e)) = inr (x, subst (λ (w : ℕ). Next G flow' w x) (sym e) turns_next)
      leaves z (inl (there h)) = inl (there h)
      leaves z (inr (w, n)) = onward z w n (ℕ_discrete w x)

-- x, where a unit waits, gives it back to its source.
module _ {G : Graph} {flow flow' : ℕ → ℕ} {E : List ℕ} {x i : ℕ} (s : State G flow (x ∷ E)) (st : Stored flow flow' x 0) (fed : Fed G flow x i) where
  returns-other : {z : ℕ} → 0 < flow' z → ¬ (z ≡ x)
  returns-other h e = omega (arith, h, stored_at st e)

  returns-back : {z k : ℕ} → Fed G flow' z k → Fed G flow z k
  returns-back f = fed-back st (returns-other (fed-carries f)) f

  -- what x waits for is no inflow
  returns-kept : {z k : ℕ} → Fed G flow z k → 0 < flow' (G.source z k)
  returns-kept {z} {k} f = carries-forth st (λ e. s.free z k f (here e)) (s.carried z k f)

  pub returns : State G flow' (G.source x i ∷ E)
  returns = record {
    inflow = inflow;
    carried = λ z k f. returns-kept (returns-back f);
    apart = λ z h. s.apart z (carries-back st (returns-other h) h);
    single = λ z w k l f g. s.single z w k l (returns-back f) (returns-back g);
    distinct = distinct_cons (λ h. s.free x i fed (there h)) (distinct_tail s.distinct);
    entry = entry;
    free = free;
    leaves = λ z h. leaves z (returns-other h) (s.leaves z (carries-back st (returns-other h) h));
  }
    where
      inflow : (z : ℕ) → 0 < flow' z → G.terminal z ≡ 0 → (k : ℕ) × Fed G flow' z k
      inflow z h t =
          let n = returns-other h in
          let r = s.inflow z (carries-back st n h) t in
          (r.0, fed-forth st n r.1)

      entry : (e : ℕ) → e ∈ G.source x i ∷ E → 0 < flow' e
      entry e (here p) = subst (λ (w : ℕ). 0 < flow' w) (sym p) (returns-kept fed)
      entry e (there h) = carries-forth st (λ p. distinct_head s.distinct (in_equal (sym p) h)) (s.entry e (there h))

      free : (z k : ℕ) → Fed G flow' z k → ¬ (G.source z k ∈ G.source x i ∷ E)
      free z k f (here p) = returns-other (fed-carries f) (s.single z x k i (returns-back f) fed p)
      free z k f (there h) = s.free z k (returns-back f) (there h)

      onward : (z w : ℕ) → Next G flow z w → Dec (w ≡ x) → (z ∈ G.source x i ∷ E) ⊎ ((u : ℕ) × Next G flow' z u)
      onward z w n (yes e) = inl (here (sym n.source ∙ fed-at e n.fed fed))
      onward z w n (no m) = inr (w, next-forth st m n)

      leaves : (z : ℕ) → ¬ (z ≡ x) → (z ∈ x ∷ E) ⊎ ((w : ℕ) × Next G flow z w) → (z ∈ G.source x i ∷ E) ⊎ ((w : ℕ) × Next G flow' z w)
      leaves z n (inl (here e)) = absurd (n e)
      leaves z n (inl (there h)) = inl (there h)
      leaves z n (inr (w, m)) = onward z w m (ℕ_discrete w x)
