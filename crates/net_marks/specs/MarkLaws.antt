-- Laws of marks.
use Rattle.std.specs.Prelude.{◌≡◌, Bool, true, false, not, List, [], ◌∷◌, ℕ, zero, suc, ◌+◌, ◌-◌, ◌*◌, ◌≤◌, ◌<◌, eqb, length, get_or, set}
use Rattle.std.proofs.Math.Path.{refl}
use Rattle.std.proofs.Common.{sym, ap, ◌∙◌, subst, true≢false, inl, inr, not-suc-le-zero, le_of_suc-le-suc, arith, eqb-true, length-set, get_or-set_same, get_or-set_other}
use Rattle.std.proofs.lemmas.Bool.{false≢true, eqb-false}
use Rattle.std.proofs.Math.Decide.{ℕ_discrete, dec_lt}
use Rattle.sequences.specs.Keep.{keep, length-keep, length-keep_cons, bit_yes, bit_no}
use Rattle.sequences.specs.Tests.{Tells}
use Rattle.net_marks.specs.Marks.{Marked, Known, Low, Above, unmarked, room, left, Grown, Fallen}

pub known-input : (I : ℕ) (m : List ℕ) (u : ℕ) → u < I → Tells true (Known I m u)
known-input I m u h = record { holds = λ e. inl h; fails = λ e. absurd (true≢false e) }

pub known-gate : (I : ℕ) (m : List ℕ) (u : ℕ) → I ≤ u → Tells (not (eqb (get_or m (u - I) 0) 0)) (Known I m u)
known-gate I m u h = go (eqb (get_or m (u - I) 0) 0) refl
  where
    go : (t : Bool) → eqb (get_or m (u - I) 0) 0 ≡ t → Tells (not t) (Known I m u)
    go true e = record { holds = λ q. absurd (false≢true q); fails = λ q. none }
      where
        none : Known I m u → ⊥
        none (inl k) = omega arith
        none (inr (g, s, k)) = k (ap (λ (n : ℕ). get_or m n 0) (same s) ∙ eqb-true (get_or m (u - I) 0) 0 e)
          where
            same : u ≡ I + g → g ≡ u - I
            same s = omega arith
    go false e = record { holds = λ q. inr (u - I, omega arith, eqb-false (get_or m (u - I) 0) 0 e); fails = λ q. absurd (true≢false q) }

-- whether a node is known
pub known? : (I : ℕ) (m : List ℕ) (u : ℕ) → Dec (Known I m u)
known? I m u = go (dec_lt u I) (ℕ_discrete (get_or m (u - I) 0) 0)
  where
    go : Dec (u < I) → Dec (get_or m (u - I) 0 ≡ 0) → Dec (Known I m u)
    go (yes h) d = yes (inl h)
    go (no n) (no k) = yes (inr (u - I, omega arith, k))
    go (no n) (yes z) = no none
      where
        none : Known I m u → ⊥
        none (inl h) = n h
        none (inr (g, e, k)) = k (ap (λ (x : ℕ). get_or m x 0) (same e) ∙ z)
          where
            same : u ≡ I + g → g ≡ u - I
            same e = omega arith

-- ---- first

-- ---- marks grow

pub grown-none : (m : List ℕ) → Grown m m 0
grown-none m = record { size = refl; kept = λ g h. refl; new = omega arith; same = λ e. refl }

pub grown_trans : {m m' m'' : List ℕ} {r s : ℕ} → Grown m m' r → Grown m' m'' s → Grown m m'' (r + s)
grown_trans {m} {m'} {m''} {r} {s} a b = record {
  size = b.size ∙ a.size;
  kept = λ g h. b.kept g (λ z. h (sym (a.kept g h) ∙ z)) ∙ a.kept g h;
  new = let p = a.new in let q = b.new in omega arith;
  same = λ e. b.same (omega arith) ∙ a.same (omega arith);
}

pub unmarked-set : (m : List ℕ) (g v : ℕ) → g < length m → get_or m g 0 ≡ 0 → ¬ (v ≡ 0) → 1 + unmarked (set m g v) ≡ unmarked m
unfolding unmarked
unmarked-set [] g v h z n = absurd (not-suc-le-zero h)
unmarked-set (x ∷ m) zero v h z n =
    let a = length-keep_cons (λ k. ℕ_discrete k 0) x m in
    let b = length-keep_cons (λ k. ℕ_discrete k 0) v m in
    let c = bit_yes z (ℕ_discrete x 0) in
    let d = bit_no n (ℕ_discrete v 0) in
    omega arith
unmarked-set (x ∷ m) (suc g) v h z n =
    let a = length-keep_cons (λ k. ℕ_discrete k 0) x m in
    let b = length-keep_cons (λ k. ℕ_discrete k 0) x (set m g v) in
    let c = unmarked-set m g v (le_of_suc-le-suc h) z n in
    omega arith

unmarked-kept : (m : List ℕ) (g v : ℕ) → g < length m → ¬ (get_or m g 0 ≡ 0) → ¬ (v ≡ 0) → unmarked (set m g v) ≡ unmarked m
unfolding unmarked
unmarked-kept [] g v h z n = absurd (not-suc-le-zero h)
unmarked-kept (x ∷ m) zero v h z n =
    let a = length-keep_cons (λ k. ℕ_discrete k 0) x m in
    let b = length-keep_cons (λ k. ℕ_discrete k 0) v m in
    let c = bit_no z (ℕ_discrete x 0) in
    let d = bit_no n (ℕ_discrete v 0) in
    omega arith
unmarked-kept (x ∷ m) (suc g) v h z n =
    let a = length-keep_cons (λ k. ℕ_discrete k 0) x m in
    let b = length-keep_cons (λ k. ℕ_discrete k 0) x (set m g v) in
    let c = unmarked-kept m g v (le_of_suc-le-suc h) z n in
    omega arith

-- one new mark
pub grown-one : (m : List ℕ) (g v : ℕ) → g < length m → get_or m g 0 ≡ 0 → ¬ (v ≡ 0) → Grown m (set m g v) 1
grown-one m g v h z n = record {
  size = length-set m g v;
  kept = λ i k. get_or-set_other m g i v 0 (λ e. k (ap (λ (x : ℕ). get_or m x 0) e ∙ z));
  new = unmarked-set m g v h z n;
  same = λ e. absurd (one e);
}
  where
    one : ◌≡◌ {A = ℕ} 1 0 → ⊥
    one e = omega arith

pub unmarked-bound : (m : List ℕ) → unmarked m ≤ length m
unfolding unmarked
unmarked-bound m = length-keep (λ n. ℕ_discrete n 0) m

pub zeros-more : (m : List ℕ) (g : ℕ) → g < length m → ((i : ℕ) → i < g → get_or m i 0 ≡ 0) → (i : ℕ) → i < g + 1 → get_or (set m g 0) i 0 ≡ 0
zeros-more m g h f i k = go (ℕ_discrete i g)
  where
    go : Dec (i ≡ g) → get_or (set m g 0) i 0 ≡ 0
    go (yes e) = rw e (get_or-set_same m g 0 0 h)
    go (no n) = get_or-set_other m g i 0 0 n ∙ f i (below n)
      where
        below : ¬ (i ≡ g) → i < g
        below n = omega arith

-- zeros are all unmarked
pub unmarked-zeros : (m : List ℕ) → ((g : ℕ) → g < length m → get_or m g 0 ≡ 0) → unmarked m ≡ length m
unfolding unmarked
unmarked-zeros [] z = unfold keep in refl
unmarked-zeros (x ∷ m) z =
    let a = length-keep_cons (λ k. ℕ_discrete k 0) x m in
    let b = bit_yes (z 0 (omega arith)) (ℕ_discrete x 0) in
    let c = unmarked-zeros m (λ g h. z (suc g) (omega arith)) in
    omega arith

-- of two tests, the second negated
-- where all are marked none is unmarked
pub none-unmarked : (m : List ℕ) → ((g : ℕ) → g < length m → Marked m g) → unmarked m ≡ 0
unfolding unmarked
none-unmarked [] f = unfold keep in refl
none-unmarked (x ∷ m) f =
    let a = length-keep_cons (λ k. ℕ_discrete k 0) x m in
    let b = bit_no (f 0 (omega arith)) (ℕ_discrete x 0) in
    let c = none-unmarked m (λ g h. f (suc g) (omega arith)) in
    omega arith

-- ---- low nodes

pub low-unmarked : (I : ℕ) (m : List ℕ) (u v : ℕ) → I ≤ u → get_or m (u - I) 0 ≡ 0 → ¬ Low I m u v
low-unmarked I m u v h z (inl i) = omega arith
low-unmarked I m u v h z (inr (g, e, k, l)) = k (ap (λ (n : ℕ). get_or m n 0) (same e) ∙ z)
  where
    same : u ≡ I + g → g ≡ u - I
    same e = omega arith

pub low-above : (I : ℕ) (m : List ℕ) (u v : ℕ) → I ≤ u → v < get_or m (u - I) 0 → ¬ Low I m u v
low-above I m u v h z (inl i) = omega arith
low-above I m u v h z (inr (g, e, k, l)) = let q = ap (λ (n : ℕ). get_or m n 0) (same e) in omega arith
  where
    same : u ≡ I + g → g ≡ u - I
    same e = omega arith

pub low-gate : (I : ℕ) (m : List ℕ) (u v : ℕ) → I ≤ u → ¬ (get_or m (u - I) 0 ≡ 0) → get_or m (u - I) 0 ≤ v → Low I m u v
low-gate I m u v h k l = inr (u - I, omega arith, k, l)

-- what is not low is a gate with no mark or a larger one
pub not_low : (I : ℕ) (m : List ℕ) (u v : ℕ) → ¬ Low I m u v → (I ≤ u) × Above v (get_or m (u - I) 0)
not_low I m u v n = (low, go (ℕ_discrete (get_or m (u - I) 0) 0) (dec_lt v (get_or m (u - I) 0)))
  where
    low : I ≤ u
    low = pick (dec_lt u I)
      where
        pick : Dec (u < I) → I ≤ u
        pick (yes h) = absurd (n (inl h))
        pick (no h) = omega arith

    go : Dec (get_or m (u - I) 0 ≡ 0) → Dec (v < get_or m (u - I) 0) → Above v (get_or m (u - I) 0)
    go (yes z) d = inl z
    go (no k) (yes l) = inr l
    go (no k) (no l) = absurd (n (low-gate I m u v low k (omega arith)))

pub low-more : (I : ℕ) (m : List ℕ) {u u' v v' : ℕ} → u ≡ u' → v ≤ v' → Low I m u v → Low I m u' v'
low-more I m e h (inl i) = inl (omega arith)
low-more I m e h (inr (g, q, k, l)) = inr (g, sym e ∙ q, k, omega arith)

-- a gate that is low
pub gate-low : (I : ℕ) (m : List ℕ) (g v : ℕ) → Low I m (I + g) v → Marked m g × (get_or m g 0 ≤ v)
gate-low I m g v (inl i) = absurd (beyond i)
  where
    beyond : I + g < I → ⊥
    beyond i = omega arith
gate-low I m g v (inr (h, e, k, l)) = (subst (Marked m) (same e) k, subst (λ (x : ℕ). get_or m x 0 ≤ v) (same e) l)
  where
    same : I + g ≡ I + h → h ≡ g
    same e = omega arith

-- ---- marks fall

pub fallen-none : (top : ℕ) (m : List ℕ) → Fallen top m m 0
fallen-none top m = record { size = refl; stay = λ g h. h; lower = λ g h. omega arith; fewer = omega arith; new = omega arith; same = λ e. refl }

pub fallen_trans : {top : ℕ} {m m' m'' : List ℕ} {r s : ℕ} → Fallen top m m' r → Fallen top m' m'' s → Fallen top m m'' (r + s)
fallen_trans {top} {m} {m'} {m''} {r} {s} a b = record {
  size = b.size ∙ a.size;
  stay = λ g h. b.stay g (a.stay g h);
  lower = λ g h. let p = a.lower g h in let q = b.lower g (a.stay g h) in omega arith;
  fewer = let p = a.fewer in let q = b.fewer in omega arith;
  new = let p = a.new in let q = b.new in omega arith;
  same = λ e. b.same (omega arith) ∙ a.same (omega arith);
}

-- what is low stays low
pub low-falls : {top I r : ℕ} {m m' : List ℕ} → Fallen top m m' r → (u v : ℕ) → Low I m u v → Low I m' u v
low-falls a u v (inl i) = inl i
low-falls a u v (inr (g, e, k, l)) = inr (g, e, a.stay g k, (let h = a.lower g k in omega arith))

left-set : (top : ℕ) (m : List ℕ) (g v : ℕ) → g < length m → room top (get_or m g 0) + left top (set m g v) ≡ room top v + left top m
unfolding left
left-set top [] g v h = absurd (not-suc-le-zero h)
left-set top (x ∷ m) zero v h = omega arith
left-set top (x ∷ m) (suc g) v h = let a = left-set top m g v (le_of_suc-le-suc h) in omega arith

room-above : (top v x : ℕ) → ¬ (v ≡ 0) → v < top → Above v x → room top v < room top x
unfolding room
room-above top zero x n l a = absurd (n refl)
room-above top (suc v) zero n l a = l
room-above top (suc v) (suc x) n l (inl e) = absurd (bad e)
  where
    bad : suc x ≡ 0 → ⊥
    bad e = omega arith
room-above top (suc v) (suc x) n l (inr h) = h

-- one mark put
pub fallen-one : (top : ℕ) (m : List ℕ) (g v : ℕ) → g < length m → Above v (get_or m g 0) → ¬ (v ≡ 0) → v < top → Fallen top m (set m g v) 1
fallen-one top m g v h a n l = record {
  size = length-set m g v;
  stay = λ i k. stay i k (ℕ_discrete i g);
  lower = λ i k. lower i k (ℕ_discrete i g);
  fewer = fewer (ℕ_discrete (get_or m g 0) 0);
  new = let p = left-set top m g v h in let q = room-above top v (get_or m g 0) n l a in omega arith;
  same = λ e. absurd (one e);
}
  where
    one : ◌≡◌ {A = ℕ} 1 0 → ⊥
    one e = omega arith

    at : get_or (set m g v) g 0 ≡ v
    at = get_or-set_same m g v 0 h

    stay : (i : ℕ) → Marked m i → Dec (i ≡ g) → Marked (set m g v) i
    stay i k (yes e) = λ z. n (sym at ∙ sym (ap (λ (x : ℕ). get_or (set m g v) x 0) e) ∙ z)
    stay i k (no q) = λ z. k (sym (get_or-set_other m g i v 0 q) ∙ z)

    less : Marked m g → Above v (get_or m g 0) → v ≤ get_or m g 0
    less k (inl z) = absurd (k z)
    less k (inr b) = omega arith

    lower : (i : ℕ) → Marked m i → Dec (i ≡ g) → get_or (set m g v) i 0 ≤ get_or m i 0
    lower i k (yes e) = rw e (let b = less (subst (Marked m) e k) a in let c = at in omega arith)
    lower i k (no q) = let o = get_or-set_other m g i v 0 q in omega arith

    fewer : Dec (get_or m g 0 ≡ 0) → unmarked (set m g v) ≤ unmarked m
    fewer (yes z) = let b = unmarked-set m g v h z n in omega arith
    fewer (no k) = let b = unmarked-kept m g v h k n in omega arith

-- where no mark and not `top` is above a bound, what is left fits
pub left-fits : (top : ℕ) (m : List ℕ) → top ≤ 2000000000 → ((g : ℕ) → get_or m g 0 ≤ 2000000000) → left top m ≤ 2000000000 * length m
unfolding left room
left-fits top [] h f = omega arith
left-fits top (x ∷ m) h f = let a = left-fits top m h (λ g. f (suc g)) in let b = part x (f 0) in omega arith
  where
    part : (x : ℕ) → x ≤ 2000000000 → room top x ≤ 2000000000
    part zero l = h
    part (suc x) l = l
