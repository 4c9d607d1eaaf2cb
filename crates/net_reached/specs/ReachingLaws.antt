-- Laws of check 10: marked gates are reached, and where nothing is newly marked the others are not.
use Rattle.std.specs.Prelude.{◌≡◌, Bool, true, false, List, ℕ, ◌+◌, ◌-◌, ◌*◌, ◌≤◌, ◌<◌, length, get_or, set}
use Rattle.std.proofs.Common.{sym, ap, ◌∙◌, subst, true≢false, inl, inr, arith, length-set, get_or-set_same, get_or-set_other}
use Rattle.std.proofs.lemmas.Bool.{false≢true}
use Rattle.std.proofs.Math.Decide.{ℕ_discrete, dec_lt}
use Rattle.std.proofs.Math.ListN.{get_or-eq_default}
use Rattle.sequences.specs.TestLaws.{first-all}
use Rattle.sequences.specs.Member.{◌∈◌}
use Rattle.net_model.specs.Net.{Net, Pin, pins}
use Rattle.net_model.specs.Arrays.{stride}
use Rattle.net_model.specs.ArrayLaws.{pin_at}
use Rattle.net_model.specs.Wired.{Wires, Wired}
use Rattle.net_model.specs.WiredLaws.{wired-gate, gate-wired, wired-pin, pin-wired}
use Rattle.net_model.specs.Checks.{Reached}
use Rattle.sequences.specs.Tests.{Tells, First}
use Rattle.net_marks.specs.Marks.{Marked, Known, Grown, unmarked}
use Rattle.net_marks.specs.MarkLaws.{grown-none, grown-one, grown_trans, unmarked-bound}
use Rattle.net_reached.specs.Reaching.{KnownPin, Falls, Behind, Reaching, Shut, ReachGate, ReachSweep, ReachCheck}

-- the gate of a node
place : (I u g : ℕ) → u ≡ I + g → g ≡ u - I
place I u g e = omega arith

pub falls-known : (I : ℕ) (m ranks : List ℕ) (u level : ℕ) → Falls I m ranks u level → Known I m u
falls-known I m ranks u level (inl i) = inl i
falls-known I m ranks u level (inr (h, e, k, q)) = inr (h, e, k)

-- ---- whether a node is an input, or a marked gate with a rank below a level
pub near-input : (I : ℕ) (m ranks : List ℕ) (u level : ℕ) → u < I → Tells true (Falls I m ranks u level)
near-input I m ranks u level i = record { holds = λ e. inl i; fails = λ e. absurd (true≢false e) }

pub near-unmarked : (I : ℕ) (m ranks : List ℕ) (u level : ℕ) → I ≤ u → get_or m (u - I) 0 ≡ 0 → Tells false (Falls I m ranks u level)
near-unmarked I m ranks u level h z = record { holds = λ e. absurd (false≢true e); fails = λ e. none }
  where
    none : ¬ Falls I m ranks u level
    none (inl i) = omega arith
    none (inr (g, e, k, q)) = k (ap (λ (n : ℕ). get_or m n 0) (place I u g e) ∙ z)

pub near-gate : (I : ℕ) (m ranks : List ℕ) (u level : ℕ) (b : Bool) → I ≤ u → ¬ (get_or m (u - I) 0 ≡ 0) → (b ≡ true → get_or ranks (u - I) 0 < level) → (b ≡ false → level ≤ get_or ranks (u - I) 0)
    → Tells b (Falls I m ranks u level)
near-gate I m ranks u level b h k yes_below no_below = record { holds = λ e. inr (u - I, omega arith, k, yes_below e); fails = λ e. none (no_below e) }
  where
    none : level ≤ get_or ranks (u - I) 0 → ¬ Falls I m ranks u level
    none l (inl i) = omega arith
    none l (inr (g, e, k, q)) = let y : get_or ranks g 0 ≡ get_or ranks (u - I) 0 = ap (λ (n : ℕ). get_or ranks n 0) (place I u g e) in omega arith

module _ {I G : ℕ} {ps sources counts : List ℕ} where
  known-reached : {m ranks : List ℕ} → Reaching I G ps sources counts m ranks → (N : Net) → Wired N I G ps sources counts → (u : ℕ) → u < I + G → Known I m u → Reached N u
  known-reached r N w u h (inl i) = Reached.input {v = u} (let a = w.inputs in omega arith)
  known-reached r N w u h (inr (g, e, k)) = subst (Reached N) (sym e) (r.reached N w g (omega arith) k)

  -- ranks are below the number of gates
  pub rank_below : {m ranks : List ℕ} → Reaching I G ps sources counts m ranks → (u : ℕ) → Known I m u → I ≤ u → get_or ranks (u - I) 0 < G
  rank_below r u (inl i) l = absurd (apart i l)
    where
      apart : u < I → I ≤ u → ⊥
      apart i l = omega arith
  rank_below {ranks = ranks} r u (inr (g, e, k)) l =
      let b = r.bound g k in
      let q : get_or ranks g 0 ≡ get_or ranks (u - I) 0 = ap (λ (n : ℕ). get_or ranks n 0) (place I u g e) in
      omega arith

  -- known nodes have ranks below a level that is the number of gates or more
  known-falls : {m ranks : List ℕ} {u level : ℕ} → Reaching I G ps sources counts m ranks → G ≤ level → Known I m u → Falls I m ranks u level
  known-falls r l (inl i) = inl i
  known-falls r l (inr (h, e, k)) = inr (h, e, k, (let b = r.bound h k in omega arith))

  pub reach-marked : {m ranks : List ℕ} (g level : ℕ) → Reaching I G ps sources counts m ranks → Marked m g → ReachGate I G ps sources counts m m ranks g level 0
  reach-marked {m} g level r k = record { grown = grown-none m; reaching = r; shut = λ e q n. absurd (n k) }

  pub reach-none : {m ranks : List ℕ} (g n level : ℕ) → Reaching I G ps sources counts m ranks → get_or ps g 0 ≤ n → First (λ j. Falls I m ranks (get_or sources (stride * g + j) 0) level) (get_or ps g 0) n
      → ReachGate I G ps sources counts m m ranks g level 0
  reach-none {m} g n level r h f = record { grown = grown-none m; reaching = r; shut = λ e q k j l kn. first-all f h j l (known-falls r q kn) }

  pub reach-one : {m ranks : List ℕ} (g j x level : ℕ) → Wires I G ps sources counts → g < G → Reaching I G ps sources counts m ranks → get_or m g 0 ≡ 0 → j < get_or ps g 0
      → First (λ j. Falls I m ranks (get_or sources (stride * g + j) 0) level) (get_or ps g 0) j → Behind I ranks (get_or sources (stride * g + j) 0) x
      → ReachGate I G ps sources counts m (set m g (j + 1)) (set ranks g x) g level 1
  reach-one {m} {ranks} g j x level ws h r z l f b = record {
    grown = one;
    reaching = record {
      size = one.size ∙ r.size;
      room = length-set ranks g x ∙ r.room;
      bound = λ i q. bound i q (ℕ_discrete i g);
      pin = λ i k q. pin i k q (ℕ_discrete i g);
      falls = λ i k q. falls i k q (ℕ_discrete i g);
      reached = λ N w i k q. reached N w i k q (ℕ_discrete i g);
    };
    shut = λ e. absurd (bad e);
  }
    where
      known : KnownPin I m sources g j
      known = falls-known I m ranks (get_or sources (stride * g + j) 0) level (f.found l)

      inside : g < length m
      inside = let a = r.size in omega arith

      one : Grown m (set m g (j + 1)) 1
      one = grown-one m g (j + 1) inside z (λ e. omega arith)

      bad : ◌≡◌ {A = ℕ} 1 0 → ⊥
      bad e = omega arith

      at : get_or (set m g (j + 1)) g 0 ≡ j + 1
      at = get_or-set_same m g (j + 1) 0 inside

      rank-at : get_or (set ranks g x) g 0 ≡ x
      rank-at = get_or-set_same ranks g x 0 (let a = r.room in omega arith)

      -- a marked gate is another one, and stays as it was
      other : (i : ℕ) → Marked m i → ¬ (i ≡ g)
      other i k e = k (ap (λ (n : ℕ). get_or m n 0) e ∙ z)

      falls-on : (v y : ℕ) → Falls I m ranks v y → Falls I (set m g (j + 1)) (set ranks g x) v y
      falls-on v y (inl i) = inl i
      falls-on v y (inr (i, e, k, q)) =
          let o = get_or-set_other ranks g i x 0 (other i k) in
          inr (i, e, (λ w. k (sym (get_or-set_other m g i (j + 1) 0 (other i k)) ∙ w)), omega arith)

      -- what the pin reads is an input, or its rank is 1 less
      source-falls : KnownPin I m sources g j → Behind I ranks (get_or sources (stride * g + j) 0) x → Falls I m ranks (get_or sources (stride * g + j) 0) x
      source-falls kn (inl p) = inl p.0
      source-falls (inl i) (inr p) = inl i
      source-falls (inr (i, e, k)) (inr p) =
          let y : get_or ranks i 0 ≡ get_or ranks (get_or sources (stride * g + j) 0 - I) 0 = ap (λ (n : ℕ). get_or ranks n 0) (place I (get_or sources (stride * g + j) 0) i e) in
          let q = p.1 in
          inr (i, e, k, omega arith)

      first-bound : KnownPin I m sources g j → Behind I ranks (get_or sources (stride * g + j) 0) x → x + unmarked (set m g (j + 1)) < G
      first-bound kn (inl p) = let a = one.new in let c = unmarked-bound m in let d = r.size in let q = p.1 in omega arith
      first-bound (inl i) (inr p) = absurd (apart i p.0)
        where
          apart : {u : ℕ} → u < I → I ≤ u → ⊥
          apart a c = omega arith
      first-bound (inr (i, e, k)) (inr p) =
          let y : get_or ranks i 0 ≡ get_or ranks (get_or sources (stride * g + j) 0 - I) 0 = ap (λ (n : ℕ). get_or ranks n 0) (place I (get_or sources (stride * g + j) 0) i e) in
          let q = p.1 in
          let a = one.new in
          let c = r.bound i k in
          omega arith

      bound : (i : ℕ) → Marked (set m g (j + 1)) i → Dec (i ≡ g) → get_or (set ranks g x) i 0 + unmarked (set m g (j + 1)) < G
      bound i q (yes e) = rw e (let a = rank-at in let c = first-bound known b in omega arith)
      bound i q (no n) =
          let o = get_or-set_other m g i (j + 1) 0 n in
          let w = get_or-set_other ranks g i x 0 n in
          let c = r.bound i (λ y. q (o ∙ y)) in
          let a = one.new in
          omega arith

      falls : (i : ℕ) → i < G → Marked (set m g (j + 1)) i → Dec (i ≡ g) → Falls I (set m g (j + 1)) (set ranks g x) (get_or sources (stride * i + (get_or (set m g (j + 1)) i 0 - 1)) 0) (get_or (set ranks g x) i 0)
      falls i k q (yes e) =
          rw (e, rank-at) (subst (λ (y : ℕ). Falls I (set m g (j + 1)) (set ranks g x) (get_or sources (stride * g + y) 0) x) (before at)
          (falls-on (get_or sources (stride * g + j) 0) x (source-falls known b)))
        where
          before : {y : ℕ} → y ≡ j + 1 → j ≡ y - 1
          before e = omega arith
      falls i k q (no n) =
          let o = get_or-set_other m g i (j + 1) 0 n in
          let w = get_or-set_other ranks g i x 0 n in
          rw (o, w) (falls-on (get_or sources (stride * i + (get_or m i 0 - 1)) 0) (get_or ranks i 0) (r.falls i k (λ y. q (o ∙ y))))

      pin : (i : ℕ) → i < G → Marked (set m g (j + 1)) i → Dec (i ≡ g) → get_or (set m g (j + 1)) i 0 ≤ get_or ps i 0
      pin i k q (yes e) = rw e (let a = at in omega arith)
      pin i k q (no n) = let o = get_or-set_other m g i (j + 1) 0 n in rw o (r.pin i k (λ x. q (o ∙ x)))

      reached : (N : Net) → Wired N I G ps sources counts → (i : ℕ) → i < G → Marked (set m g (j + 1)) i → Dec (i ≡ g) → Reached N (I + i)
      reached N w i k q (yes e) =
          rw e (Reached.along (pin_at sources counts (stride * g + j)) (wired-gate w g h) (wired-pin w g j h l)
          (known-reached r N w (get_or sources (stride * g + j) 0) (ws.node g j h l) known))
      reached N w i k q (no n) = let o = get_or-set_other m g i (j + 1) 0 n in r.reached N w i k (λ x. q (o ∙ x))

  pub sweep-none : {m ranks : List ℕ} {level : ℕ} → Reaching I G ps sources counts m ranks → ReachSweep I G ps sources counts m m ranks 0 level 0
  sweep-none {m} r = record { grown = grown-none m; reaching = r; shut = λ e q g h. absurd (none h) }
    where
      none : {g : ℕ} → g < 0 → ⊥
      none h = omega arith

  pub sweep-next : {m m' m'' ranks' ranks'' : List ℕ} {n level r s : ℕ} → ReachSweep I G ps sources counts m m' ranks' n level r → ReachGate I G ps sources counts m' m'' ranks'' n level s
      → ReachSweep I G ps sources counts m m'' ranks'' (n + 1) level (r + s)
  sweep-next {m} {m'} {m''} {n = n} {level = level} {r = r} {s = s} a b = record {
    grown = grown_trans a.grown b.grown;
    reaching = b.reaching;
    shut = λ e t g h. go e t g (ℕ_discrete g n) h;
  }
    where
      go : r + s ≡ 0 → G ≤ level → (g : ℕ) → Dec (g ≡ n) → g < n + 1 → Shut I ps sources m'' g
      go e t g (yes q) h = rw q (b.shut (omega arith) t)
      go e t g (no q) h = subst (λ (l : List ℕ). Shut I ps sources l g) (sym (b.grown.same (omega arith))) (a.shut (omega arith) t g (lower q h))
        where
          lower : ¬ (g ≡ n) → g < n + 1 → g < n
          lower q h = omega arith

  pub sweep-at : {m m' ranks' : List ℕ} {n n' level r : ℕ} → n ≡ n' → ReachSweep I G ps sources counts m m' ranks' n level r → ReachSweep I G ps sources counts m m' ranks' n' level r
  sweep-at {m} {m'} {ranks'} {n} {n'} {level} {r} e s = subst (λ (i : ℕ). ReachSweep I G ps sources counts m m' ranks' i level r) e s

  -- where a sweep marks nothing new, every reached gate is marked
  pub all-marked : (m : List ℕ) → ((g : ℕ) → g < G → Shut I ps sources m g) → (N : Net) → Wired N I G ps sources counts → {u : ℕ} → Reached N u → Known I m u
  all-marked m shut N w (Reached.input i) = inl (let a = w.inputs in omega arith)
  all-marked m shut N w {u} (Reached.along p g i r) = go (gate-wired w u g) (all-marked m shut N w r)
    where
      go : (k : ℕ) × (k < G) × (u ≡ I + k) → Known I m p.src → Known I m u
      go (k, h, e) kn =
          let t = pin-wired w k h p (subst (λ (x : ℕ). p ∈ pins N x) e i) in
          let s : p.src ≡ get_or sources (stride * k + t.0) 0 = ap (λ (q : Pin). q.src) t.2 in
          inr (k, e, λ z. shut k h (λ mk. mk z) t.0 t.1 (subst (Known I m) s kn))

-- ---- the check

module _ {I G : ℕ} {ps sources counts : List ℕ} where
  pub reach-zeros : (m ranks : List ℕ) → length m ≡ G → length ranks ≡ G → ((g : ℕ) → g < G → get_or m g 0 ≡ 0) → Reaching I G ps sources counts m ranks
  reach-zeros m ranks e q z = record {
    size = e;
    room = q;
    bound = λ g k. absurd (k (all g (dec_lt g G)));
    pin = λ g h k. absurd (k (z g h));
    falls = λ g h k. absurd (k (z g h));
    reached = λ N w g h k. absurd (k (z g h));
  }
    where
      all : (g : ℕ) → Dec (g < G) → get_or m g 0 ≡ 0
      all g (yes h) = z g h
      all g (no n) = get_or-eq_default m 0 {n = g} (omega arith)

  pub reach-all : {m ranks : List ℕ} {r : Bool} → Reaching I G ps sources counts m ranks → ((g : ℕ) → g < G → Shut I ps sources m g) → Tells r ((g : ℕ) → g < G → Marked m g)
      → ReachCheck I G ps sources counts m ranks r
  reach-all {m} a s t = record {
    reaching = a;
    tells = λ N w. record {
      holds = λ e v g. let i = gate-wired w v g in subst (Reached N) (sym i.2) (a.reached N w i.0 i.1 (t.holds e i.0 i.1));
      fails = λ e f. t.fails e (λ g h z. none N w g h z (all-marked m s N w (f (I + g) (wired-gate w g h))));
    };
    marked = t.holds;
  }
    where
      none : (N : Net) → Wired N I G ps sources counts → (g : ℕ) → g < G → get_or m g 0 ≡ 0 → Known I m (I + g) → ⊥
      none N w g h z (inl i) = omega arith
      none N w g h z (inr (g', e, k)) = k (ap (λ (x : ℕ). get_or m x 0) (same e) ∙ z)
        where
          same : I + g ≡ I + g' → g' ≡ g
          same e = omega arith
