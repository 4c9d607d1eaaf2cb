-- Laws of marks.
use Rattle.std.specs.Prelude.{◌≡◌, refl, List, ℕ, zero, suc, ◌+◌, ◌-◌, ◌≤◌, ◌<◌, length, get_or, set}
use Rattle.std.proofs.Common.{sym, ap, subst, ◌∙◌, arith, get_or-set_same, get_or-set_other}
use Rattle.std.proofs.Math.Decide.{ℕ_discrete}
use Rattle.cover_roots.specs.RootMarks.{IsAt, Among, Marks, left}

pub marks-none : {P : ℕ → Type 0} (m : List ℕ) → ((g : ℕ) → P g → ¬ (get_or m g 0 ≡ 0)) → Marks P m m
marks-none m f = record { kept = λ g h. refl; new = λ g z h. absurd (h z); marked = f }

-- node u is a gate
module _ (I G u : ℕ) (m : List ℕ) (h : I ≤ u) (l : u - I < G) where
  gate-at : (g : ℕ) → IsAt I G u g → g ≡ u - I
  gate-at g p = omega (arith, p.node, h)

  -- it is marked
  pub marks-there : ¬ (get_or m (u - I) 0 ≡ 0) → Marks (IsAt I G u) m m
  marks-there n = marks-none m (λ g p z. n (subst (λ (x : ℕ). get_or m x 0 ≡ 0) (gate-at g p) z))

  -- it gets its mark
  pub marks-one : u - I < length m → get_or m (u - I) 0 ≡ 0 → Marks (IsAt I G u) m (set m (u - I) 1)
  marks-one b z = record { kept = kept; new = λ g e n. new g e n (ℕ_discrete g (u - I)); marked = marked }
    where
      one : get_or (set m (u - I) 1) (u - I) 0 ≡ 1
      one = get_or-set_same m (u - I) 1 0 b

      kept : (g : ℕ) → ¬ (get_or m g 0 ≡ 0) → get_or (set m (u - I) 1) g 0 ≡ get_or m g 0
      kept g n = get_or-set_other m (u - I) g 1 0 (λ e. n (ap (λ (x : ℕ). get_or m x 0) e ∙ z))

      new : (g : ℕ) → get_or m g 0 ≡ 0 → ¬ (get_or (set m (u - I) 1) g 0 ≡ 0) → Dec (g ≡ u - I) → (get_or (set m (u - I) 1) g 0 ≡ 1) × IsAt I G u g
      new g e n (yes q) = (ap (λ (x : ℕ). get_or (set m (u - I) 1) x 0) q ∙ one, record { node = omega (arith, q, h); gate = omega (arith, q, l) })
      new g e n (no q) = absurd (n (get_or-set_other m (u - I) g 1 0 q ∙ e))

      marked : (g : ℕ) → IsAt I G u g → ¬ (get_or (set m (u - I) 1) g 0 ≡ 0)
      marked g p e = omega (arith, sym (ap (λ (x : ℕ). get_or (set m (u - I) 1) x 0) (gate-at g p) ∙ one) ∙ e)

-- marks once set stay
pub marks_stay : {P : ℕ → Type 0} {m m' : List ℕ} → Marks P m m' → (g : ℕ) → ¬ (get_or m g 0 ≡ 0) → ¬ (get_or m' g 0 ≡ 0)
marks_stay a g h z = h (sym (a.kept g h) ∙ z)

-- places that are no gates' stay
pub marks-behind : {P : ℕ → Type 0} {m m' : List ℕ} {n : ℕ} → Marks P m m' → ((g : ℕ) → P g → g < n) → (i : ℕ) → n ≤ i → get_or m' i 0 ≡ get_or m i 0
marks-behind {m = m} {m'} a gate i h = go (ℕ_discrete (get_or m i 0) 0) (ℕ_discrete (get_or m' i 0) 0)
  where
    go : Dec (get_or m i 0 ≡ 0) → Dec (get_or m' i 0 ≡ 0) → get_or m' i 0 ≡ get_or m i 0
    go (no z) d = a.kept i z
    go (yes z) (yes w) = w ∙ sym z
    go (yes z) (no w) = let p = gate i (a.new i z w).1 in absurd (omega (arith, p, h))

-- the nodes at one more place
pub among_none : (I G : ℕ) (nodes : List ℕ) (from : ℕ) (m : List ℕ) → Marks (Among I G nodes from from) m m
among_none I G nodes from m = marks-none m (λ g p. absurd (omega (arith, p.low, p.high)))

module _ {I G : ℕ} {nodes : List ℕ} {from to : ℕ} {m m' m'' : List ℕ} where
  pub among_next : from ≤ to → Marks (Among I G nodes from to) m m' → Marks (IsAt I G (get_or nodes to 0)) m' m'' → Marks (Among I G nodes from (to + 1)) m m''
  among_next l a b = record {
    kept = λ g h. b.kept g (marks_stay a g h) ∙ a.kept g h;
    new = λ g z h. new g z h (ℕ_discrete (get_or m' g 0) 0);
    marked = λ g p. marked g p (ℕ_discrete p.place to);
  }
    where
      new : (g : ℕ) → get_or m g 0 ≡ 0 → ¬ (get_or m'' g 0 ≡ 0) → Dec (get_or m' g 0 ≡ 0) → (get_or m'' g 0 ≡ 1) × Among I G nodes from (to + 1) g
      new g z h (yes e) = let r = b.new g e h in (r.0, record { place = to; low = l; high = omega arith; is_at = r.1 })
      new g z h (no e) =
          let r = a.new g z e in
          let p = r.1 in
          (b.kept g e ∙ r.0, record { place = p.place; low = p.low; high = omega (arith, p.high); is_at = p.is_at })

      marked : (g : ℕ) (p : Among I G nodes from (to + 1) g) → Dec (p.place ≡ to) → ¬ (get_or m'' g 0 ≡ 0)
      marked g p (yes e) = b.marked g (subst (λ (x : ℕ). IsAt I G (get_or nodes x 0) g) e p.is_at)
      marked g p (no e) = marks_stay b g (a.marked g (record { place = p.place; low = p.low; high = omega (arith, p.high, e); is_at = p.is_at }))

pub among-at : {I G : ℕ} {nodes : List ℕ} {from to to' : ℕ} {m m' : List ℕ} → to ≡ to' → Marks (Among I G nodes from to) m m' → Marks (Among I G nodes from to') m m'
among-at {I} {G} {nodes} {from} {m = m} {m'} e a = subst (λ (x : ℕ). Marks (Among I G nodes from x) m m') e a

-- ---- what is left

left_less : (m m' : List ℕ) (n : ℕ) → ((g : ℕ) → g < n → get_or m g 0 ≤ get_or m' g 0) → left m' n ≤ left m n
unfolding left
left_less m m' zero f = omega arith
left_less m m' (suc n) f = let a = f n (omega arith) in let b = left_less m m' n (λ g h. f g (omega (arith, h))) in omega arith

pub left-falls : (m m' : List ℕ) (n g : ℕ) → g < n → ((u : ℕ) → u < n → get_or m u 0 ≤ get_or m' u 0) → get_or m g 0 < 2 → get_or m g 0 < get_or m' g 0 → left m' n < left m n
unfolding left
left-falls m m' zero g h f l s = absurd (omega (arith, h))
left-falls m m' (suc n) g h f l s = go (left-falls m m' n g) (ℕ_discrete g n)
  where
    go : (g < n → ((u : ℕ) → u < n → get_or m u 0 ≤ get_or m' u 0) → get_or m g 0 < 2 → get_or m g 0 < get_or m' g 0 → left m' n < left m n) → Dec (g ≡ n) → left m' (suc n) < left m (suc n)
    go rest (yes e) =
        let a = left_less m m' n (λ u l. f u (omega (arith, l))) in
        let b = ap (λ (x : ℕ). get_or m x 0) e in
        let c = ap (λ (x : ℕ). get_or m' x 0) e in
        omega arith
    go rest (no e) = let a = f n (omega arith) in let b = rest (omega arith) (λ u l. f u (omega (arith, l))) l s in omega arith
