-- Laws of places: the array by node, raised lags, and the marks of long chains.
use Rattle.std.specs.Prelude.{◌≡◌, refl, Bool, true, false, cond, List, ℕ, zero, suc, ◌+◌, ◌-◌, ◌≤◌, ◌<◌, eqb, ltb, leb, ℤ, pos, negsuc, ◌+ℤ◌, length, get_or, set, replicate}
use Rattle.std.proofs.Common.{sym, ap, subst, ◌∙◌, zero-add, add-zero, arith, eqb-true, ltb-true, ltb-false, leb-true, leb-false, le-ltb, lt-ltb, length-set, get_or-set_same, get_or-set_other, SFits, to_z, of_z}
use Rattle.std.proofs.Math.Decide.{ℕ_discrete}
use Rattle.std.proofs.lemmas.Bool.{eqb-false}
use Rattle.std.proofs.lemmas.List.{length-replicate, get_or-replicate}
use Rattle.std.specs.Int.Signed.{mag}
use Rattle.std.specs.Int.{w64}
use Rattle.sequences.specs.TestLaws.{tells_yes, tells_no}
use Rattle.integers.specs.Parts.{up, dn, ints, +-parts}
use Rattle.signed.specs.RangeLaws.{back, fits-of}
use Rattle.sequences.specs.Tests.{Tells}
use Rattle.cover_links.specs.LinkPlaces.{place_from, place_in, Spotted, Found, base, raise, raised_at, level_of, leaf_in, LutFed, LutsFed, LeafLong, LutLong, LongAt, NoneLong, Marked, Same, most, LeafAsked, LutsPlaced}

-- ---- places by node

step-here : (roots : List ℕ) (i n u : ℕ) → 0 < n → get_or roots i 0 ≡ u → place_from roots i n u ≡ 0
unfolding place_from
step-here roots i zero u h e = absurd (omega (arith, h))
step-here roots i (suc n) u h e = go (eqb (get_or roots i 0) u) refl
  where
    go : (b : Bool) → eqb (get_or roots i 0) u ≡ b → cond b 0 (suc (place_from roots (suc i) n u)) ≡ 0
    go true q = refl
    go false q = absurd (eqb-false (get_or roots i 0) u q e)

step-next : (roots : List ℕ) (i n m u : ℕ) → n ≡ suc m → ¬ (get_or roots i 0 ≡ u) → place_from roots i n u ≡ suc (place_from roots (suc i) m u)
unfolding place_from
step-next roots i zero m u h e = absurd (none h)
  where
    none : 0 ≡ suc m → ⊥
    none q = omega arith
step-next roots i (suc n) m u h e = go (eqb (get_or roots i 0) u) refl ∙ ap (λ (k : ℕ). suc (place_from roots (suc i) k u)) same
  where
    same : n ≡ m
    same = omega arith

    go : (b : Bool) → eqb (get_or roots i 0) u ≡ b → cond b 0 (suc (place_from roots (suc i) n u)) ≡ suc (place_from roots (suc i) n u)
    go true q = absurd (e (eqb-true (get_or roots i 0) u q))
    go false q = refl

step-none : (roots : List ℕ) (i n u : ℕ) → n ≡ 0 → place_from roots i n u ≡ 0
unfolding place_from
step-none roots i zero u h = refl
step-none roots i (suc n) u h = absurd (omega (arith, h))

module _ (roots : List ℕ) (n : ℕ) where
  -- the array by node, from the last root back to the one at place i
  abbrev pub Filled : ℕ → List ℕ → Type 0
  Filled i spots = (u : ℕ) → u < length spots → get_or spots u 0 ≡ i + place_from roots i (n - i) u

  pub filled_none : (m : ℕ) → Filled n (replicate m n)
  filled_none m u h =
      let l : u < m = omega (arith, h, length-replicate m n) in
      let z = step-none roots n (n - n) u (omega arith) in
      get_or-replicate {A = ℕ} m u n 0 l ∙ omega (arith, z)

  pub filled_next : (i : ℕ) (spots : List ℕ) → i < n → Filled (i + 1) spots → Filled i (set spots (get_or roots i 0) i)
  filled_next i spots h f u k = go (ℕ_discrete u (get_or roots i 0))
    where
      l : u < length spots
      l = omega (arith, k, length-set spots (get_or roots i 0) i)

      go : Dec (u ≡ get_or roots i 0) → get_or (set spots (get_or roots i 0) i) u 0 ≡ i + place_from roots i (n - i) u
      go (yes e) =
          let z = step-here roots i (n - i) u (omega arith) (sym e) in
          ap (λ (x : ℕ). get_or (set spots x i) u 0) (sym e) ∙ get_or-set_same spots u i 0 l ∙ omega (arith, z)
      go (no e) =
          let one : suc i ≡ i + 1 = omega arith in
          let z = step-next roots i (n - i) (n - (i + 1)) u (omega arith) (λ q. e (sym q)) in
          let q : place_from roots (suc i) (n - (i + 1)) u ≡ place_from roots (i + 1) (n - (i + 1)) u = ap (λ (x : ℕ). place_from roots x (n - (i + 1)) u) one in
          get_or-set_other spots (get_or roots i 0) u i 0 e ∙ omega (arith, f u l, z, q)

  pub filled-all : (i : ℕ) (spots : List ℕ) → i ≤ 0 → Filled i spots → Spotted roots n spots
  filled-all i spots h f = record { each = at }
    where
      at : (u : ℕ) → u < length spots → get_or spots u 0 ≡ place_in roots n u
      at u k =
          let z : i ≡ 0 = omega arith in
          let e : n - i ≡ n = omega arith in
          f u k ∙ ap (λ (x : ℕ). x + place_from roots x (n - i) u) z ∙ zero-add (place_from roots 0 (n - i) u) ∙ ap (λ (x : ℕ). place_from roots 0 x u) e

-- a place found is below n
pub found-input : (I : ℕ) (spots : List ℕ) (n u : ℕ) → u < I → Tells true (Found I spots n u)
found-input I spots n u h = tells_yes (λ k. absurd (low h k))
  where
    low : u < I → I ≤ u → ⊥
    low a b = omega arith

pub found-gate : (I : ℕ) (spots : List ℕ) (n u r : ℕ) → I ≤ u → r ≡ get_or spots u 0 → Tells (ltb r n) (Found I spots n u)
found-gate I spots n u r h e = go (ltb r n) refl
  where
    go : (t : Bool) → ltb r n ≡ t → Tells t (Found I spots n u)
    go true q = tells_yes (λ k. let a = ltb-true r n q in omega arith)
    go false q = tells_no (λ f. let a = ltb-false r n q in let b = f h in absurd (omega (arith, a, b, e)))

-- ---- raised lags

pub lag-parts : (z : ℤ) → mag z ≤ 128 → (up z ≤ 128) × (dn z ≤ 129)
lag-parts (pos n) h = (h, omega arith)
lag-parts (negsuc n) h = (omega arith, omega arith)

pub raise-is : (z : ℤ) → mag z ≤ 128 → (z +ℤ pos 256) ≡ pos (raise z)
raise-is z h = let p = lag-parts z h in let q = +-parts z (pos 256) in omega (arith, ints, p.0, p.1, q)

pub raise-small : (z : ℤ) → mag z ≤ 128 → raise z ≤ 384
raise-small z h = let p = lag-parts z h in omega (arith, p.0, p.1)

pub lag-fits : (z : ℤ) → mag z ≤ 128 → SFits w64 z
lag-fits z h = fits-of z 128 (omega arith) h

pub raise-fits : (z : ℤ) → mag z ≤ 128 → SFits w64 (pos (raise z))
raise-fits z h = let s = raise-small z h in fits-of (pos (raise z)) 384 (omega arith) s

-- the stored sum
pub raise-back : (z : ℤ) → mag z ≤ 128 → to_z w64 (of_z w64 (to_z w64 (of_z w64 z) +ℤ pos 256)) ≡ pos (raise z)
raise-back z h = rw (back z (lag-fits z h)) (rw (raise-is z h) (back (pos (raise z)) (raise-fits z h)))

module _ (I : ℕ) (spots : List ℕ) (lags : List ℤ) (u : ℕ) where
  pub level-input : u < I → base ≡ level_of I spots lags u
  level-input h = rw (lt-ltb u I h) refl

  pub level-gate : (r : ℕ) → I ≤ u → r ≡ raised_at lags (get_or spots u 0) → r ≡ level_of I spots lags u
  level-gate r h e = rw (le-ltb u I h) e

-- ---- registers

pub tells-enough : (a b x y : ℕ) → a ≡ x → b ≡ y → Tells (leb a b) (x ≤ y)
tells-enough a b x y e f = go (leb a b) refl
  where
    go : (t : Bool) → leb a b ≡ t → Tells t (x ≤ y)
    go true q = let h = leb-true a b q in tells_yes (omega arith)
    go false q = tells_no (λ h. absurd (omega (arith, leb-false a b q, h, e, f)))

-- a leaf of fed LUTs
pub leaf-asked : {I : ℕ} {spots sizes nodes backs : List ℕ} {lags : List ℤ} {n : ℕ} → LutsPlaced spots sizes nodes backs lags n → LutsFed I spots sizes nodes n
    → (i j : ℕ) → i < n → j < get_or sizes i 0 → LeafAsked I spots nodes backs n i j
leaf-asked w f i j h k =
    let s = w.leaf_room.leaves i h in
    let a = w.leaf_room.at_nodes in
    let b = w.at_backs in
    record { at_node = omega arith; at_back = omega arith; at_spot = w.leaf_room.node i j h k; found = f i h j k; back = w.back i j h k }

-- ---- chains

unmarked : {x : Bool} → x ≡ true → x ≡ false → ⊥
unmarked t f = cc

module _ (I : ℕ) (spots nodes backs : List ℕ) (lags : List ℤ) (i j : ℕ) (ends : List Bool) where
  pub long-input : leaf_in nodes i j < I → Tells false (LeafLong (Marked ends) I spots nodes backs lags i j)
  long-input h = tells_no (λ l. let g = l.gate in absurd (omega (arith, h, g)))

  pub long-unmarked : (k : ℕ) → k ≡ get_or spots (leaf_in nodes i j) 0 → get_or ends k false ≡ false → Tells false (LeafLong (Marked ends) I spots nodes backs lags i j)
  long-unmarked k e z = tells_no (λ l. unmarked l.feeder (ap (λ (x : ℕ). get_or ends x false) (sym e) ∙ z))

  pub long-marked : (k a b : ℕ) → I ≤ leaf_in nodes i j → k ≡ get_or spots (leaf_in nodes i j) 0 → get_or ends k false ≡ true → a ≡ raised_at lags k → b ≡ raised_at lags i
      → Tells (eqb a (leaf_in backs i j + b)) (LeafLong (Marked ends) I spots nodes backs lags i j)
  long-marked k a b g e m p q = go (eqb a (leaf_in backs i j + b)) refl
    where
      same : a ≡ raised_at lags (get_or spots (leaf_in nodes i j) 0)
      same = p ∙ ap (raised_at lags) e

      go : (t : Bool) → eqb a (leaf_in backs i j + b) ≡ t → Tells t (LeafLong (Marked ends) I spots nodes backs lags i j)
      go true z = tells_yes (record {
        gate = g;
        joined = sym same ∙ eqb-true a (leaf_in backs i j + b) z ∙ ap (λ (x : ℕ). leaf_in backs i j + x) q;
        feeder = ap (λ (y : ℕ). get_or ends y false) (sym e) ∙ m;
      })
      go false z = tells_no (λ l. eqb-false a (leaf_in backs i j + b) z (same ∙ l.joined ∙ ap (λ (x : ℕ). leaf_in backs i j + x) (sym q)))

module _ (I : ℕ) (spots sizes nodes backs : List ℕ) (lags : List ℤ) (n : ℕ) where
  -- what holds of the LUTs that feed LUT i
  pub long-map : (P Q : ℕ → Type 0) → ((k : ℕ) → k < n → P k → Q k) → (i : ℕ) → LutFed I spots sizes nodes n i
      → LutLong P I spots sizes nodes backs lags i → LutLong Q I spots sizes nodes backs lags i
  long-map P Q f i fed (j, h, l) = (
    j,
    h,
    record {
      gate = l.gate;
      joined = l.joined;
      feeder = f (get_or spots (leaf_in nodes i j) 0) (fed j h l.gate) l.feeder;
    },
  )

  -- the marks tell which LUTs end a chain of m + 1 LUTs
  abbrev pub Told : List Bool → ℕ → Type 0
  Told ends m = (i : ℕ) → i < n → Tells (get_or ends i false) (LongAt I spots sizes nodes backs lags m i)

  pub told-first : n ≤ most → Told (replicate most true) 0
  unfolding LongAt
  told-first h i k = rw (get_or-replicate {A = Bool} most i true false (omega arith)) (tells_yes tt)

  told-next : (ends next : List Bool) (m : ℕ) → LutsFed I spots sizes nodes n → Told ends m
      → ((i : ℕ) → i < n → Tells (get_or next i false) (LutLong (Marked ends) I spots sizes nodes backs lags i)) → Told next (m + 1)
  told-next ends next m fed t r i h = subst (λ (k : ℕ). Tells (get_or next i false) (LongAt I spots sizes nodes backs lags k i)) one (step i h)
    where
      one : suc m ≡ m + 1
      one = omega arith

      marked : {P : Type 0} (x : Bool) → Tells x P → P → x ≡ true
      marked true t p = refl
      marked false t p = absurd (t.fails refl p)

      step : (i : ℕ) → i < n → Tells (get_or next i false) (LongAt I spots sizes nodes backs lags (suc m) i)
      step i h = unfold LongAt in (record {
        holds = λ x. long-map (Marked ends) (LongAt I spots sizes nodes backs lags m) (λ k l. (t k l).holds) i (fed i h) ((r i h).holds x);
        fails = λ e c. (r i h).fails e (long-map (LongAt I spots sizes nodes backs lags m) (Marked ends) (λ k l p. marked (get_or ends k false) (t k l) p) i (fed i h) c);
      })

  pub told_more : (ends next : List Bool) (luts : ℕ) → 1 ≤ luts → LutsFed I spots sizes nodes n → Told ends (luts - 1)
      → ((i : ℕ) → i < n → Tells (get_or next i false) (LutLong (Marked ends) I spots sizes nodes backs lags i)) → Told next (luts + 1 - 1)
  told_more ends next luts h fed t r = subst (Told next) (same h) (told-next ends next (luts - 1) fed t r)
    where
      same : 1 ≤ luts → luts - 1 + 1 ≡ luts + 1 - 1
      same k = omega arith

  -- marks that a round leaves as they are stay so
  pub told-still : (ends next : List Bool) (luts period : ℕ) → 1 ≤ luts → luts ≤ period + 1 → LutsFed I spots sizes nodes n → Told ends (luts - 1)
      → ((i : ℕ) → i < n → Tells (get_or next i false) (LutLong (Marked ends) I spots sizes nodes backs lags i)) → Same ends next n → Told ends period
  told-still ends next luts period h k fed t r same = subst (Told ends) (sums h k) (go (period + 1 - luts))
    where
      sums : 1 ≤ luts → luts ≤ period + 1 → luts - 1 + (period + 1 - luts) ≡ period
      sums h k = omega arith

      again : (i : ℕ) → i < n → Tells (get_or ends i false) (LutLong (Marked ends) I spots sizes nodes backs lags i)
      again i l = subst (λ (x : Bool). Tells x (LutLong (Marked ends) I spots sizes nodes backs lags i)) (sym (same i l)) (r i l)

      one : (d : ℕ) → luts - 1 + d + 1 ≡ luts - 1 + suc d
      one d = omega arith

      go : (d : ℕ) → Told ends (luts - 1 + d)
      go zero = subst (Told ends) (sym (add-zero (luts - 1))) t
      go (suc d) = subst (Told ends) (one d) (told-next ends ends (luts - 1 + d) fed (go d) again)

  pub told_none : (ends : List Bool) (m : ℕ) (r : Bool) → Told ends m → Tells r ((i : ℕ) → i < n → get_or ends i false ≡ false) → Tells r (NoneLong I spots sizes nodes backs lags n m)
  told_none ends m r t s = record {
    holds = λ e i h. (t i h).fails (s.holds e i h);
    fails = λ e f. s.fails e (λ i h. not_marked (get_or ends i false) (λ x. f i h ((t i h).holds x)));
  }
    where
      not_marked : (x : Bool) → ¬ (x ≡ true) → x ≡ false
      not_marked true n = absurd (n refl)
      not_marked false n = refl
