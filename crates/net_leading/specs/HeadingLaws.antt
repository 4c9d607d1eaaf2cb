-- Laws of check 11: a mark is 1 more than the registers on a path to an output, at last the fewest.
use Rattle.std.specs.Prelude.{◌≡◌, refl, Bool, List, ℕ, zero, suc, ◌+◌, ◌-◌, ◌*◌, ◌≤◌, ◌<◌, length, get_or, set}
use Rattle.std.proofs.Common.{sym, ap, ◌∙◌, subst, inl, inr, not-suc-le-zero, zero-add, arith, get_or-set_same, get_or-set_other}
use Rattle.std.proofs.Math.Decide.{ℕ_discrete, dec_lt}
use Rattle.std.proofs.Math.ListN.{get_or-eq_default}
use Rattle.limits.specs.Limits.{most_count}
use Rattle.sequences.specs.Member.{◌∈◌}
use Rattle.net_model.specs.Net.{Net, Pin, pins}
use Rattle.net_model.specs.Arrays.{stride, pins_in}
use Rattle.net_model.specs.ArrayLaws.{pin_at, in_pins_in, pins_in_in}
use Rattle.net_model.specs.Wired.{Wires, Wired}
use Rattle.net_model.specs.WiredLaws.{wired-gate, gate-wired, wired-pin, pin-wired}
use Rattle.net_model.specs.Checks.{Leading}
use Rattle.label_theory.proofs.Pins.{OutPath, last, then, out-path}
use Rattle.sequences.specs.Tests.{Tells}
use Rattle.net_marks.specs.Marks.{Marked, Low, Above, Fallen, unmarked, left}
use Rattle.net_marks.specs.MarkLaws.{low-more, gate-low, low-falls, fallen-none, fallen-one, fallen_trans, left-fits, unmarked-set, unmarked-bound}
use Rattle.net_leading.specs.Heading.{Ended, top_of, Heading, Heads, Push, Pushed, PushPins, PushSweep, Told, kept, put, PushOuts, HeadGate, Counted, HeadCheck}

-- what an output reads leads to it
pub output-heads : (I G O : ℕ) (ps sources counts os oc : List ℕ) (i : ℕ) → i < O → Heads I G O ps sources counts os oc (get_or os i 0) (get_or oc i 0 + 1)
output-heads I G O ps sources counts os oc i h N w e =
    last {c = get_or oc i 0 + 1 - 1} (pin_at os oc i) (subst (λ (l : List Pin). pin_at os oc i ∈ l) (sym e) (subst (λ (x : ℕ). pin_at os oc x ∈ pins_in os oc 0 O) (zero-add i) (in_pins_in os oc 0 O i h))) refl (omega arith)

module _ {I G O : ℕ} {ps sources counts os oc : List ℕ} where
  pub push_new : {m : List ℕ} (u v : ℕ) → I ≤ u → u < I + G → Above v (get_or m (u - I) 0) → 1 ≤ v → v + most_count * unmarked m ≤ 1 + most_count * (2 + G)
      → Heads I G O ps sources counts os oc u v → Heading I G O ps sources counts os oc m → Push I G O ps sources counts os oc m (set m (u - I) v) u v 1
  push_new {m} u v low high o one b heads a = record {
    fallen = fallen;
    heading = record { size = fallen.size ∙ a.size; bound = λ i. bound i (ℕ_discrete i g) o; path = λ N w e i h k. path N w e i h k (ℕ_discrete i g) };
    low = inr (g, omega arith, (λ x. bad (sym at ∙ x)), (let q = at in omega arith));
  }
    where
      g : ℕ
      g = u - I

      inside : g < length m
      inside = let x = a.size in omega arith

      bad : v ≡ 0 → ⊥
      bad e = omega arith

      under : Above v (get_or m g 0) → v < top_of G
      under (inl z) = let x = unmarked-set m g v inside z bad in omega arith
      under (inr l) = let x = a.bound g in omega arith

      fallen : Fallen (top_of G) m (set m g v) 1
      fallen = fallen-one (top_of G) m g v inside o bad (under o)

      at : get_or (set m g v) g 0 ≡ v
      at = get_or-set_same m g v 0 inside

      bound : (i : ℕ) → Dec (i ≡ g) → Above v (get_or m g 0) → get_or (set m g v) i 0 + most_count * unmarked (set m g v) ≤ 1 + most_count * (1 + G)
      bound i (yes e) (inl z) = let x = unmarked-set m g v inside z bad in let y = at in let q = ap (λ (k : ℕ). get_or (set m g v) k 0) e in omega arith
      bound i (yes e) (inr l) = let x = fallen.fewer in let y = at in let q = ap (λ (k : ℕ). get_or (set m g v) k 0) e in let w = a.bound g in omega arith
      bound i (no n) p = let x = fallen.fewer in let y = get_or-set_other m g i v 0 n in let w = a.bound i in omega arith

      path : (N : Net) → Wired N I G ps sources counts → Ended N O os oc → (i : ℕ) → i < G → Marked (set m g v) i → Dec (i ≡ g) → OutPath N (I + i) (get_or (set m g v) i 0 - 1)
      path N w e i h k (yes q) =
          let s : u ≡ I + i = same q in
          subst (λ (x : ℕ). OutPath N x (get_or (set m g v) i 0 - 1)) s (subst (λ (x : ℕ). OutPath N u (x - 1)) (sym (ap (λ (y : ℕ). get_or (set m g v) y 0) q ∙ at)) (heads N w e))
        where
          same : i ≡ u - I → u ≡ I + i
          same q = omega arith
      path N w e i h k (no n) =
          let o = get_or-set_other m g i v 0 n in
          subst (λ (x : ℕ). OutPath N (I + i) (x - 1)) (sym o) (a.path N w e i h (λ x. k (o ∙ x)))

  pub push_told : {m m' : List ℕ} {r : ℕ} (u v : ℕ) → u < I + G → 1 ≤ v → v + most_count * unmarked m ≤ 1 + most_count * (2 + G)
      → Heads I G O ps sources counts os oc u v → Heading I G O ps sources counts os oc m → Told I m m' u v r → Push I G O ps sources counts os oc m m' u v r
  push_told {m} {m'} {r} u v h one b heads a (kept e q k) =
      rw e (rw q (record { fallen = fallen-none (top_of G) m; heading = a; low = k }))
  push_told {m} {m'} {r} u v h one b heads a (put e q l z) = rw e (rw q (push_new u v l h z one b heads a))

  -- a sum of pushes fits
  pub left-fit : {m : List ℕ} → G ≤ 1000000 → Heading I G O ps sources counts os oc m → left (top_of G) m ≤ 2000000000000000
  left-fit {m} f a = let x = left-fits (top_of G) m (omega arith) (λ g. let b = a.bound g in omega arith) in let z = a.size in omega arith

  -- ---- the pins of a marked gate

  -- what a pin of a marked gate reads leads to an output
  pub pin-heads : {m : List ℕ} (g j : ℕ) → Wires I G ps sources counts → g < G → Marked m g → j < get_or ps g 0 → Heading I G O ps sources counts os oc m
      → Heads I G O ps sources counts os oc (get_or sources (stride * g + j) 0) (get_or m g 0 + get_or counts (stride * g + j) 0)
  pin-heads {m} g j ws h k l a N w e =
      then (I + g) (pin_at sources counts (stride * g + j)) (get_or m g 0 - 1) (wired-gate w g h) (wired-pin w g j h l) refl (less k) (a.path N w e g h k)
    where
      less : Marked m g → get_or m g 0 + get_or counts (stride * g + j) 0 - 1 ≡ get_or counts (stride * g + j) 0 + (get_or m g 0 - 1)
      less k = go (get_or m g 0) k
        where
          go : (x : ℕ) → ¬ (x ≡ 0) → x + get_or counts (stride * g + j) 0 - 1 ≡ get_or counts (stride * g + j) 0 + (x - 1)
          go zero k = absurd (k refl)
          go (suc x) k = omega arith

  pub pins-none : {m : List ℕ} (g : ℕ) → Heading I G O ps sources counts os oc m → PushPins I G O ps sources counts os oc m m g 0 0
  pins-none {m} g a = record { fallen = fallen-none (top_of G) m; heading = a; pushed = λ j h. absurd (not-suc-le-zero h) }

  pub pins-next : {m m' m'' : List ℕ} {g n r s : ℕ} → PushPins I G O ps sources counts os oc m m' g n r → Push I G O ps sources counts os oc m' m'' (get_or sources (stride * g + n) 0) (get_or m g 0 + get_or counts (stride * g + n) 0) s
      → PushPins I G O ps sources counts os oc m m'' g (n + 1) (r + s)
  pins-next {m = m} {m'' = m''} {g = g} {n = n} a b = record {
    fallen = fallen_trans a.fallen b.fallen;
    heading = b.heading;
    pushed = λ j h. go j h (ℕ_discrete j n);
  }
    where
      go : (j : ℕ) → j < n + 1 → Dec (j ≡ n) → Low I m'' (get_or sources (stride * g + j) 0) (get_or m g 0 + get_or counts (stride * g + j) 0)
      go j h (yes e) = rw e b.low
      go j h (no q) = low-falls b.fallen (get_or sources (stride * g + j) 0) (get_or m g 0 + get_or counts (stride * g + j) 0) (a.pushed j (lower q h))
        where
          lower : ¬ (j ≡ n) → j < n + 1 → j < n
          lower q h = omega arith

  pub pins-at : {m m' : List ℕ} {g n n' r : ℕ} → n ≡ n' → PushPins I G O ps sources counts os oc m m' g n r → PushPins I G O ps sources counts os oc m m' g n' r
  pins-at {m} {m'} {g} {n} {n'} {r} e s = subst (λ (i : ℕ). PushPins I G O ps sources counts os oc m m' g i r) e s

  -- ---- sweeps

  pub heads-none : {m : List ℕ} → Heading I G O ps sources counts os oc m → PushSweep I G O ps sources counts os oc m m 0 0
  heads-none {m} a = record { fallen = fallen-none (top_of G) m; heading = a; pushed = λ e g h. absurd (not-suc-le-zero h) }

  -- one gate more: unmarked, or its pins pushed
  pub heads-next : {m m' m'' : List ℕ} {n r s : ℕ} → PushSweep I G O ps sources counts os oc m m' n r → Fallen (top_of G) m' m'' s → Heading I G O ps sources counts os oc m''
      → (s ≡ 0 → Marked m'' n → Pushed I sources counts m'' n (get_or ps n 0) (get_or m'' n 0)) → PushSweep I G O ps sources counts os oc m m'' (n + 1) (r + s)
  heads-next {m'' = m''} {n = n} {r = r} {s = s} a b h p = record {
    fallen = fallen_trans a.fallen b;
    heading = h;
    pushed = λ e g k. go e g (ℕ_discrete g n) k;
  }
    where
      go : r + s ≡ 0 → (g : ℕ) → Dec (g ≡ n) → g < n + 1 → Marked m'' g → Pushed I sources counts m'' g (get_or ps g 0) (get_or m'' g 0)
      go e g (yes q) k = rw q (p (omega arith))
      go e g (no q) k = subst (λ (l : List ℕ). Marked l g → Pushed I sources counts l g (get_or ps g 0) (get_or l g 0)) (sym (b.same (omega arith))) (a.pushed (omega arith) g (lower q k))
        where
          lower : ¬ (g ≡ n) → g < n + 1 → g < n
          lower q h = omega arith

  pub heads-at : {m m' : List ℕ} {n n' r : ℕ} → n ≡ n' → PushSweep I G O ps sources counts os oc m m' n r → PushSweep I G O ps sources counts os oc m m' n' r
  heads-at {m} {m'} {n} {n'} {r} e s = subst (λ (i : ℕ). PushSweep I G O ps sources counts os oc m m' i r) e s

module _ {I G O : ℕ} {ps sources counts os oc : List ℕ} where
  pub outs-none : {m : List ℕ} → Heading I G O ps sources counts os oc m → PushOuts I G O ps sources counts os oc m m 0 0
  outs-none {m} a = record { fallen = fallen-none (top_of G) m; heading = a; low = λ i h. absurd (not-suc-le-zero h) }

  pub outs-next : {m m' m'' : List ℕ} {n r s : ℕ} → PushOuts I G O ps sources counts os oc m m' n r → Push I G O ps sources counts os oc m' m'' (get_or os n 0) (get_or oc n 0 + 1) s
      → PushOuts I G O ps sources counts os oc m m'' (n + 1) (r + s)
  outs-next {m'' = m''} {n = n} a b = record {
    fallen = fallen_trans a.fallen b.fallen;
    heading = b.heading;
    low = λ i h. go i h (ℕ_discrete i n);
  }
    where
      go : (i : ℕ) → i < n + 1 → Dec (i ≡ n) → Low I m'' (get_or os i 0) (get_or oc i 0 + 1)
      go i h (yes e) = rw e b.low
      go i h (no q) = low-falls b.fallen (get_or os i 0) (get_or oc i 0 + 1) (a.low i (lower q h))
        where
          lower : ¬ (i ≡ n) → i < n + 1 → i < n
          lower q h = omega arith

  pub heading-zeros : (m : List ℕ) → length m ≡ G → ((g : ℕ) → g < G → get_or m g 0 ≡ 0) → Heading I G O ps sources counts os oc m
  heading-zeros m e z = record {
    size = e;
    bound = λ g. let a = all g (dec_lt g G) in let b = unmarked-bound m in omega arith;
    path = λ N w q g h k. absurd (k (z g h));
  }
    where
      all : (g : ℕ) → Dec (g < G) → get_or m g 0 ≡ 0
      all g (yes h) = z g h
      all g (no n) = get_or-eq_default m 0 {n = g} (omega arith)

module _ {I G O : ℕ} {ps sources counts os oc : List ℕ} where
  -- one pin of a marked gate pushed
  pub pins_push : {m m' m'' : List ℕ} {r s : ℕ} (g j base : ℕ) → Wires I G ps sources counts → Counted G O ps counts os oc I → Heading I G O ps sources counts os oc m → g < G → Marked m g → base ≡ get_or m g 0 → j < get_or ps g 0
      → PushPins I G O ps sources counts os oc m m' g j r → Told I m' m'' (get_or sources (stride * g + j) 0) (base + get_or counts (stride * g + j) 0) s
      → PushPins I G O ps sources counts os oc m m'' g (j + 1) (r + s)
  pins_push {m} {m'} {m''} {r} {s} g j base ws cs start h k e l a t =
      let w = get_or counts (stride * g + j) 0 in
      let src = get_or sources (stride * g + j) 0 in
      let b = start.bound g in
      let f = a.fallen.fewer in
      let c = cs.count g j h l in
      pins-next a (push_told src (get_or m g 0 + w) (ws.node g j h l) (some (get_or m g 0) w k) (omega arith) (pin-heads {m = m} g j ws h k l start) a.heading
      (subst (λ (x : ℕ). Told I m' m'' src (x + w) s) e t))
    where
      some : (x w : ℕ) → ¬ (x ≡ 0) → 1 ≤ x + w
      some zero w n = absurd (n refl)
      some (suc x) w n = omega arith

  -- the value fits
  pub pins-fit : {m : List ℕ} (g j : ℕ) → Counted G O ps counts os oc I → Heading I G O ps sources counts os oc m → g < G → j < get_or ps g 0 → get_or m g 0 + get_or counts (stride * g + j) 0 ≤ 2000000000
  pins-fit {m} g j cs start h l =
      let b = start.bound g in
      let c = cs.count g j h l in
      let f = cs.few in
      omega arith

  pub outs_push : {m m' m'' : List ℕ} {r s : ℕ} (i : ℕ) → Counted G O ps counts os oc I → i < O → PushOuts I G O ps sources counts os oc m m' i r
      → Told I m' m'' (get_or os i 0) (get_or oc i 0 + 1) s → PushOuts I G O ps sources counts os oc m m'' (i + 1) (r + s)
  outs_push {m} {m'} i cs h a t =
      let c = cs.out_count i h in
      let u = unmarked-bound m' in
      let z = a.heading.size in
      outs-next a (push_told (get_or os i 0) (get_or oc i 0 + 1) (cs.node i h) (omega arith) (omega arith) (output-heads I G O ps sources counts os oc i h) a.heading t)

module _ {I G O : ℕ} {ps sources counts os oc : List ℕ} where
  pub heads-gate : {m m' m'' : List ℕ} {n r s : ℕ} → PushSweep I G O ps sources counts os oc m m' n r → HeadGate I G O ps sources counts os oc m' m'' n s
      → PushSweep I G O ps sources counts os oc m m'' (n + 1) (r + s)
  heads-gate a b = heads-next a b.fallen b.heading b.pushed

  pub outs-at : {m m' : List ℕ} {n n' r : ℕ} → n ≡ n' → PushOuts I G O ps sources counts os oc m m' n r → PushOuts I G O ps sources counts os oc m m' n' r
  outs-at {m} {m'} {n} {n'} {r} e s = subst (λ (i : ℕ). PushOuts I G O ps sources counts os oc m m' i r) e s

  pub gate-none : {m : List ℕ} (g : ℕ) → get_or m g 0 ≡ 0 → Heading I G O ps sources counts os oc m → HeadGate I G O ps sources counts os oc m m g 0
  gate-none {m} g z a = record { fallen = fallen-none (top_of G) m; heading = a; pushed = λ e k. absurd (k z) }

  pub gate-pins : {m m' : List ℕ} {r : ℕ} (g : ℕ) → PushPins I G O ps sources counts os oc m m' g (get_or ps g 0) r → HeadGate I G O ps sources counts os oc m m' g r
  gate-pins {m} {m'} g a = record {
    fallen = a.fallen;
    heading = a.heading;
    pushed = λ e k. subst (λ (l : List ℕ). Pushed I sources counts m' g (get_or ps g 0) (get_or l g 0)) (sym (a.fallen.same e)) a.pushed;
  }

-- ---- the check

path-leading : {N : Net} {v c : ℕ} → OutPath N v c → Leading N v
path-leading (last o i e f) = Leading.output o i e
path-leading (then u p d g i e f r) = Leading.along u p g i e (path-leading r)

pub heads-all : {I G O : ℕ} {ps sources counts os oc m : List ℕ} {r : Bool} → Heading I G O ps sources counts os oc m
    → ((i : ℕ) → i < O → Low I m (get_or os i 0) (get_or oc i 0 + 1)) → ((g : ℕ) → g < G → Marked m g → Pushed I sources counts m g (get_or ps g 0) (get_or m g 0))
    → Tells r ((g : ℕ) → g < G → Marked m g) → HeadCheck I G O ps sources counts os oc m r
heads-all {I} {G} {O} {ps} {sources} {counts} {os} {oc} {m} {r} a seeds pushed t = record {
  heading = a;
  tells = λ N w e. record {
    holds = λ q v g. let i = gate-wired w v g in subst (Leading N) (sym i.2) (path-leading (a.path N w e i.0 i.1 (t.holds q i.0 i.1)));
    fails = λ q f. t.fails q (λ g h. let p = out-path (f (I + g) (wired-gate w g h)) in (gate-low I m g (p.0 + 1) (low N w e p.1)).0);
  };
  marked = t.holds;
  fewest = λ N w e g c p. let l = (gate-low I m g (c + 1) (low N w e p)).1 in omega arith;
}
  where
    -- a node is low by any path from it to an output
    low : (N : Net) → Wired N I G ps sources counts → Ended N O os oc → {v c : ℕ} → OutPath N v c → Low I m v (c + 1)
    low N w e {v} {c} (last o i q f) =
        let j = pins_in_in os oc 0 O o (subst (λ (l : List Pin). o ∈ l) e i) in
        let z = zero-add j.0 in
        let x : get_or os j.0 0 ≡ v = ap (λ (x : ℕ). get_or os x 0) (sym z) ∙ sym (ap (λ (p : Pin). p.src) j.2) ∙ q in
        let y : get_or oc j.0 0 ≡ c = ap (λ (x : ℕ). get_or oc x 0) (sym z) ∙ sym (ap (λ (p : Pin). p.count) j.2) ∙ sym f in
        low-more I m x (omega arith) (seeds j.0 j.1)
    low N w e {v} {c} (then u p d g i q f r) =
        let k = gate-wired w u g in
        let j = pin-wired w k.0 k.1 p (subst (λ (x : ℕ). p ∈ pins N x) k.2 i) in
        let l = gate-low I m k.0 (d + 1) (subst (λ (x : ℕ). Low I m x (d + 1)) k.2 (low N w e r)) in
        let h = l.1 in
        let y : get_or counts (stride * k.0 + j.0) 0 ≡ p.count = sym (ap (λ (x : Pin). x.count) j.2) in
        low-more I m (sym (ap (λ (x : Pin). x.src) j.2) ∙ q) (omega arith) (pushed k.0 k.1 l.0 j.0 j.1)
