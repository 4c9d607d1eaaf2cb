-- Laws of check 9: where nothing can be placed any more, the gates that are left have a loop without a register.
use Rattle.std.specs.Prelude.{◌≡◌, refl, Bool, List, ℕ, zero, suc, ◌+◌, ◌-◌, ◌*◌, ◌≤◌, ◌<◌, length, get_or, set}
use Rattle.std.proofs.Common.{sym, ap, ◌∙◌, subst, inl, inr, not-suc-le-zero, arith, length-set, get_or-set_same, get_or-set_other}
use Rattle.std.proofs.Math.Decide.{ℕ_discrete, dec_lt}
use Rattle.std.proofs.Math.ListN.{get_or-eq_default}
use Rattle.sequences.specs.TestLaws.{first-all}
use Rattle.sequences.specs.Member.{◌∈◌}
use Rattle.net_model.specs.Net.{Net, Pin, pins}
use Rattle.net_model.specs.Arrays.{stride}
use Rattle.net_model.specs.ArrayLaws.{pin_at}
use Rattle.net_model.specs.Wired.{Wires, Wired}
use Rattle.net_model.specs.WiredLaws.{wired-gate, gate-wired, wired-pin, pin-wired}
use Rattle.net_model.specs.Checks.{Drives, Line, one, more}
use Rattle.cone_theory.specs.CopyOrder.{Levels, levels}
use Rattle.sequences.specs.Tests.{Tells, First}
use Rattle.net_marks.specs.Marks.{Marked, Known, Grown, unmarked}
use Rattle.net_marks.specs.MarkLaws.{none-unmarked, known?, unmarked-zeros, grown-none, grown-one, grown_trans}
use Rattle.net_loops.specs.Placing.{OpenPin, Placing, Stuck, PlaceGate, PlaceSweep, PlaceCheck}

-- the known source of a pin without register, by its place
known-place : (I : ℕ) (m : List ℕ) (u h : ℕ) → Known I m u → u ≡ I + h → Marked m h
known-place I m u h (inl i) e = absurd (no_input i e)
  where
    no_input : u < I → u ≡ I + h → ⊥
    no_input i e = omega arith
known-place I m u h (inr (g, q, k)) e = subst (Marked m) (same q e) k
  where
    same : u ≡ I + g → u ≡ I + h → g ≡ h
    same q e = omega arith

module _ {I G : ℕ} {ps sources counts : List ℕ} where
  pub place_same : {m order : List ℕ} {p q : ℕ} → p ≡ q → Placing I G ps sources counts m order p → Placing I G ps sources counts m order q
  place_same {m} {order} e a = subst (Placing I G ps sources counts m order) e a

  pub place-marked : {m order : List ℕ} {p : ℕ} (g : ℕ) → Placing I G ps sources counts m order p → Marked m g → PlaceGate I G ps sources counts m order m order p g 0
  place-marked {m} g a k = record { grown = grown-none m; placing = place_same (omega arith) a; stuck = λ e n. absurd (n k) }

  pub place-stuck : {m order : List ℕ} {p : ℕ} (g j : ℕ) → Placing I G ps sources counts m order p → j < get_or ps g 0 → First (OpenPin I m sources counts g) (get_or ps g 0) j
      → PlaceGate I G ps sources counts m order m order p g 0
  place-stuck {m} g j a h f = record { grown = grown-none m; placing = place_same (omega arith) a; stuck = λ e n. (j, h, f.found h) }

  pub place-one : {m order : List ℕ} {p : ℕ} (g n : ℕ) → g < G → Placing I G ps sources counts m order p → get_or m g 0 ≡ 0 → get_or ps g 0 ≤ n
      → First (OpenPin I m sources counts g) (get_or ps g 0) n → PlaceGate I G ps sources counts m order (set m g (p + 1)) (set order p g) p g 1
  place-one {m} {order} {p} g n h a z l f = record {
    grown = grown;
    placing = record {
      size = grown.size ∙ a.size;
      room = length-set order p g ∙ a.room;
      placed = let x = grown.new in let y = a.placed in omega arith;
      bound = λ i. bound i (ℕ_discrete i g);
      gates = λ i k. gates i k (ℕ_discrete i p);
      there = λ i k q. there i k q (ℕ_discrete i g);
      before = λ i j s k q u e t. before i j s k q u e t (ℕ_discrete i g) (ℕ_discrete s g);
    };
    stuck = λ e. absurd (bad e);
  }
    where
      inside : g < length m
      inside = let x = a.size in omega arith

      grown : Grown m (set m g (p + 1)) 1
      grown = grown-one m g (p + 1) inside z (λ e. omega arith)

      bad : ◌≡◌ {A = ℕ} 1 0 → ⊥
      bad e = omega arith

      -- p is a place of the order
      p-inside : p < length order
      p-inside = let x = grown.new in let y = a.placed in let w = a.room in omega arith

      at : get_or (set m g (p + 1)) g 0 ≡ p + 1
      at = get_or-set_same m g (p + 1) 0 inside

      else : (i : ℕ) → ¬ (i ≡ g) → get_or (set m g (p + 1)) i 0 ≡ get_or m i 0
      else i n = get_or-set_other m g i (p + 1) 0 n

      bound : (i : ℕ) → Dec (i ≡ g) → get_or (set m g (p + 1)) i 0 ≤ p + 1
      bound i (yes e) = rw e (let x = at in omega arith)
      bound i (no n) = rw (else i n) (let x = a.bound i in omega arith)

      gates : (i : ℕ) → i < p + 1 → Dec (i ≡ p) → get_or (set order p g) i 0 < G
      gates i k (yes e) = rw e (rw (get_or-set_same order p g 0 p-inside) h)
      gates i k (no n) = rw (get_or-set_other order p i g 0 n) (a.gates i (omega arith))

      there : (i : ℕ) → i < G → Marked (set m g (p + 1)) i → Dec (i ≡ g) → get_or (set order p g) (get_or (set m g (p + 1)) i 0 - 1) 0 ≡ i
      there i k q (yes e) = rw e (rw at (ap (λ (x : ℕ). get_or (set order p g) x 0) (omega arith) ∙ get_or-set_same order p g 0 p-inside))
      there i k q (no n) =
          let o = else i n in
          let b = a.bound i in
          let mk : Marked m i = λ x. q (o ∙ x) in
          rw o (get_or-set_other order p (get_or m i 0 - 1) g 0 (lower mk b) ∙ a.there i k mk)
        where
          lower : Marked m i → get_or m i 0 ≤ p → ¬ (get_or m i 0 - 1 ≡ p)
          lower mk b e = mk (omega arith)

      before : (i j s : ℕ) → i < G → Marked (set m g (p + 1)) i → j < get_or ps i 0 → get_or counts (stride * i + j) 0 ≡ 0 → get_or sources (stride * i + j) 0 ≡ I + s → Dec (i ≡ g) → Dec (s ≡ g)
          → Marked (set m g (p + 1)) s × (get_or (set m g (p + 1)) s 0 < get_or (set m g (p + 1)) i 0)
      before i j s k q u e t (yes same) d =
          let j' : j < get_or ps g 0 = subst (λ (x : ℕ). j < get_or ps x 0) same u in
          let e' : get_or counts (stride * g + j) 0 ≡ 0 = subst (λ (x : ℕ). get_or counts (stride * x + j) 0 ≡ 0) same e in
          let t' : get_or sources (stride * g + j) 0 ≡ I + s = subst (λ (x : ℕ). get_or sources (stride * x + j) 0 ≡ I + s) same t in
          fresh (known-place I m (get_or sources (stride * g + j) 0) s (now-known j j' e' (known? I m (get_or sources (stride * g + j) 0))) t') d
        where
          now-known : (j : ℕ) → j < get_or ps g 0 → get_or counts (stride * g + j) 0 ≡ 0 → Dec (Known I m (get_or sources (stride * g + j) 0)) → Known I m (get_or sources (stride * g + j) 0)
          now-known j u e (yes x) = x
          now-known j u e (no x) = absurd (first-all f l j u (e, x))

          fresh : Marked m s → Dec (s ≡ g) → Marked (set m g (p + 1)) s × (get_or (set m g (p + 1)) s 0 < get_or (set m g (p + 1)) i 0)
          fresh mk (yes x) = absurd (mk (ap (λ (w : ℕ). get_or m w 0) x ∙ z))
          fresh mk (no x) = (λ y. mk (sym (else s x) ∙ y), rw same (rw (else s x, at) (let b = a.bound s in omega arith)))
      before i j s k q u e t (no n) (yes x) = absurd ((a.before i j s k (λ y. q (else i n ∙ y)) u e t).0 (ap (λ (w : ℕ). get_or m w 0) x ∙ z))
      before i j s k q u e t (no n) (no x) =
          let r = a.before i j s k (λ y. q (else i n ∙ y)) u e t in
          (λ y. r.0 (sym (else s x) ∙ y), rw (else s x, else i n) r.1)

  -- while a gate is unplaced the order has room
  pub place-room : {m order : List ℕ} {p : ℕ} (g : ℕ) → g < G → Placing I G ps sources counts m order p → get_or m g 0 ≡ 0 → p < length order
  place-room {m} {order} {p} g h a z =
      let x = (grown-one m g 1 (let y = a.size in omega arith) z (λ e. omega arith)).new in
      let y = a.placed in
      let w = a.room in
      omega arith

  pub place-sweep-none : {m order : List ℕ} {p : ℕ} → Placing I G ps sources counts m order p → PlaceSweep I G ps sources counts m m order p 0 0
  place-sweep-none {m} a = record { grown = grown-none m; placing = place_same (omega arith) a; stuck = λ e g h. absurd (not-suc-le-zero h) }

  pub place-sweep-next : {m m' order' m'' order'' : List ℕ} {p n r s : ℕ} → PlaceSweep I G ps sources counts m m' order' p n r → PlaceGate I G ps sources counts m' order' m'' order'' (p + r) n s
      → PlaceSweep I G ps sources counts m m'' order'' p (n + 1) (r + s)
  place-sweep-next {m'' = m''} {p = p} {n = n} {r = r} {s = s} a b = record {
    grown = grown_trans a.grown b.grown;
    placing = place_same (omega arith) b.placing;
    stuck = λ e g h. go e g (ℕ_discrete g n) h;
  }
    where
      go : r + s ≡ 0 → (g : ℕ) → Dec (g ≡ n) → g < n + 1 → Stuck I ps sources counts m'' g
      go e g (yes q) h = rw q (b.stuck (omega arith))
      go e g (no q) h = subst (λ (l : List ℕ). Stuck I ps sources counts l g) (sym (b.grown.same (omega arith))) (a.stuck (omega arith) g (lower q h))
        where
          lower : ¬ (g ≡ n) → g < n + 1 → g < n
          lower q h = omega arith

  pub place-sweep-at : {m m' order' : List ℕ} {p n n' r : ℕ} → n ≡ n' → PlaceSweep I G ps sources counts m m' order' p n r → PlaceSweep I G ps sources counts m m' order' p n' r
  place-sweep-at {m} {m'} {order'} {p} {n} {n'} {r} e s = subst (λ (i : ℕ). PlaceSweep I G ps sources counts m m' order' p i r) e s

-- nothing is placed yet
pub place-zeros : {I G : ℕ} {ps sources counts : List ℕ} (m order : List ℕ) → length m ≡ G → length order ≡ G → ((g : ℕ) → g < G → get_or m g 0 ≡ 0) → Placing I G ps sources counts m order 0
place-zeros {G = G} m order e f z = record {
  size = e;
  room = f;
  placed = let a = unmarked-zeros m (λ g h. z g (omega arith)) in omega arith;
  bound = λ g. all g (dec_lt g G);
  gates = λ i h. absurd (not-suc-le-zero h);
  there = λ g h k. absurd (k (z g h));
  before = λ g j s h k. absurd (k (z g h));
}
  where
    all : (g : ℕ) → Dec (g < G) → get_or m g 0 ≤ 0
    all g (yes h) = let a = z g h in omega arith
    all g (no n) = let a = get_or-eq_default m 0 {n = g} (omega arith) in omega arith

-- ---- the check

-- a driver of a gate, by its place and pin
record Driver (I : ℕ) (ps sources counts : List ℕ) (s g : ℕ) : Type 0 where
  pin : ℕ
  is_pin : pin < get_or ps g 0
  free : get_or counts (stride * g + pin) 0 ≡ 0
  source : get_or sources (stride * g + pin) 0 ≡ s

module _ {I G : ℕ} {ps sources counts : List ℕ} (N : Net) (w : Wired N I G ps sources counts) where
  driver : {s v : ℕ} → Drives N s v → (g : ℕ) × (g < G) × (v ≡ I + g) × Driver I ps sources counts s g
  driver {s} {v} d = go (gate-wired w v d.gate)
    where
      go : (g : ℕ) × (g < G) × (v ≡ I + g) → (g : ℕ) × (g < G) × (v ≡ I + g) × Driver I ps sources counts s g
      go (g, h, e) =
          let t = pin-wired w g h d.pin (subst (λ (x : ℕ). d.pin ∈ pins N x) e d.is_pin) in (
            g,
            h,
            e,
            record {
              pin = t.0;
              is_pin = t.1;
              free = sym (ap (λ (q : Pin). q.count) t.2) ∙ d.free;
              source = sym (ap (λ (q : Pin). q.src) t.2) ∙ d.source;
            },
          )

  drives : {s g : ℕ} → g < G → Driver I ps sources counts s g → Drives N s (I + g)
  drives {s} {g} h d = record {
    gate = wired-gate w g h;
    pin = pin_at sources counts (stride * g + d.pin);
    is_pin = wired-pin w g d.pin h d.is_pin;
    source = d.source;
    free = d.free;
  }

  -- where all gates are placed, a line rises in the order
  line-rises : {m order : List ℕ} {p : ℕ} → Placing I G ps sources counts m order p → ((g : ℕ) → g < G → Marked m g) → {s v : ℕ} → Line N s v → (a b : ℕ) → s ≡ I + a → v ≡ I + b → get_or m a 0 < get_or m b 0
  line-rises {m} pl all (one d) a b e f =
      let t = driver d in
      let q : t.0 ≡ b = place_of t.2 f in
      let r = pl.before t.0 t.3.pin a t.1 (all t.0 t.1) t.3.is_pin t.3.free (t.3.source ∙ e) in
      subst (λ (x : ℕ). get_or m a 0 < get_or m x 0) q r.1
    where
      place_of : {v g h : ℕ} → v ≡ I + g → v ≡ I + h → g ≡ h
      place_of x y = omega arith
  line-rises {m} pl all (more d l) a b e f =
      let t = driver d in
      let r = pl.before t.0 t.3.pin a t.1 (all t.0 t.1) t.3.is_pin t.3.free (t.3.source ∙ e) in
      let rest = line-rises pl all l t.0 b t.2 f in
      let x = r.1 in
      omega arith

  -- where the unplaced gates are stuck and there is no loop without register, all are placed: by their levels
  placed-by-level : (m : List ℕ) → ((g j : ℕ) → g < G → j < get_or ps g 0 → get_or sources (stride * g + j) 0 < I + G) → ((g : ℕ) → g < G → Stuck I ps sources counts m g)
      → (n g : ℕ) → g < G → (O : Levels N) → O.level (I + g) < n → Marked m g
  placed-by-level m nodes stuck zero g h O lt z = absurd (not-suc-le-zero lt)
  placed-by-level m nodes stuck (suc n) g h O lt z =
      let t = stuck g h (λ k. k z) in
      let s = get_or sources (stride * g + t.0) 0 in
      let d = drives {s = s} {g = g} h (record { pin = t.0; is_pin = t.1; free = t.2.0; source = refl }) in
      t.2.1 (known s (O.rises d) (nodes g t.0 h t.1) (dec_lt s I) (placed-by-level m nodes stuck n))
    where
      known : (s : ℕ) → O.level s < O.level (I + g) → s < I + G → Dec (s < I) → ((g : ℕ) → g < G → (O : Levels N) → O.level (I + g) < n → Marked m g) → Known I m s
      known s r b (yes i) rest = inl i
      known s r b (no i) rest =
          let e : s ≡ I + (s - I) = omega arith in
          inr (s - I, e, rest (s - I) (omega arith) O (let q = ap O.level e in omega arith))

positive : (x : ℕ) → ¬ (x ≡ 0) → 0 < x
positive x n = omega arith

pub place-all : {I G : ℕ} {ps sources counts m order : List ℕ} {p : ℕ} {r : Bool} → Wires I G ps sources counts → Placing I G ps sources counts m order p
    → ((g : ℕ) → g < G → Stuck I ps sources counts m g) → Tells r ((g : ℕ) → g < G → Marked m g) → PlaceCheck I G ps sources counts m order r
place-all {I} {G} {ps} {sources} {counts} {m} {order} {p} {r} ws a stuck t = record {
  tells = λ N w. record {
    holds = λ e v l. loop N w (t.holds e) v l;
    fails = λ e f. t.fails e (λ g h. placed-by-level N w m (λ g' j h' k. ws.node g' j h' k) stuck (suc ((levels f).level (I + g))) g h (levels f) (omega arith));
  };
  ordered = λ e g h. (get_or m g 0 - 1, (let b = a.bound g in let c = a.placed in in_order (get_or m g 0) (unmarked m) (t.holds e g h) b c), a.there g h (t.holds e g h));
  gates = λ e i h. a.gates i (let z = none-unmarked m (λ g l. t.holds e g (let q = a.size in omega arith)) in let c = a.placed in omega arith);
  before = λ e g j h k l z q.
      let mg = t.holds e g k in
      let r = a.before g j h k mg l z q in
      let n = ws.node g j k l in
      record {
        first = get_or m h 0 - 1;
        second = get_or m g 0 - 1;
        rises = let x = nonzero h r.0 in let y = r.1 in omega arith;
        bound = let b = a.bound g in let c = a.placed in let x = nonzero g mg in omega arith;
        at_first = a.there h (omega arith) r.0;
        at_second = a.there g k mg;
      };
}
  where
    nonzero : (g : ℕ) → Marked m g → 0 < get_or m g 0
    nonzero g k = positive (get_or m g 0) k

    in_order : (x u : ℕ) → ¬ (x ≡ 0) → x ≤ p → p + u ≡ G → x - 1 < G
    in_order x u n b c = go x n b
      where
        go : (x : ℕ) → ¬ (x ≡ 0) → x ≤ p → x - 1 < G
        go zero n b = absurd (n refl)
        go (suc x) n b = omega arith

    loop : (N : Net) → Wired N I G ps sources counts → ((g : ℕ) → g < G → Marked m g) → (v : ℕ) → Line N v v → ⊥
    loop N w all v l = self (ends l)
      where
        ends : {s v : ℕ} → Line N s v → (g : ℕ) × (v ≡ I + g)
        ends (one d) = let t = gate-wired w _ d.gate in (t.0, t.2)
        ends (more d l) = ends l

        self : (g : ℕ) × (v ≡ I + g) → ⊥
        self (g, e) = let x = line-rises N w a all l g g e e in omega arith
