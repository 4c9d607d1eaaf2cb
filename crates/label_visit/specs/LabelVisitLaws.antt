-- The ways out of a visit.
use Rattle.std.specs.Prelude.{◌≡◌, Bool, true, false, Ok, Err, List, ℤ, pos, ◌+ℤ◌, ◌-ℤ◌, length, set, ◌≤ℤ◌, ◌<ℤ◌}
use Rattle.std.proofs.Common.{sym, ◌∙◌, subst, arith}
use Rattle.std.proofs.Math.Path.{refl}
use Prim.Native.Nat.{ℕ, zero, suc, ◌+◌, ◌*◌, ◌≤◌, ◌<◌}
use Rattle.std.proofs.Math.Decide.{ℕ_discrete}
use Rattle.std.proofs.Math.ListN.{get_or}
use Rattle.integers.specs.Parts.{up, ints, +-parts, sub_parts}
use Rattle.integers.specs.Order.{≤ℤ_antisym}
use Rattle.net_model.specs.Arrays.{stride}
use Rattle.signed.specs.Range.{Small, label_in}
use Rattle.signed.specs.RangeLaws.{other-zero}
use Rattle.label_theory.specs.Labels.{Mode}
use Rattle.label_theory.specs.Forced.{Falling}
use Rattle.label_theory.specs.Near.{TrialCut}
use Rattle.cut_circuit.specs.Circuit.{Circuit}
use Rattle.label_visit.specs.LabelVisits.{PinMax, higher, level, Kept, Raised, Changed, Fine, left, Answered, Visited}
use Rattle.label_visit.specs.declared.PastCeiling.{PastCeiling}
use Rattle.label_visit.specs.BoundLaws.{sane_of, kept_same, kept_then, kept-bounds, kept-p, kept_more, past_top}
use Rattle.label_visit.specs.ReadyLaws.{changed-set, changed_then, raised-changed, changed-small}

module _ (M : Mode) (δ : ℕ) (C : Circuit) (k φ : ℕ) (tops : List ℕ) (ls : List ℤ) (g : ℕ) (p : ℤ) where
  -- labels above g's place do not change what is left there
  left-same : {v : ℕ} {q : ℤ} {ls' : List ℤ} → Changed ls ls' v q → (n : ℕ) → ((m : ℕ) → m < n → ¬ (C.inputs + m ≡ v)) → left C φ tops ls' n ≡ left C φ tops ls n
  unfolding left
  left-same c zero f = refl
  left-same c (suc n) f = rw (c.other (C.inputs + n) (f n (omega arith))) (let e = left-same c n (λ m h. f m (omega arith)) in omega arith)

  -- **what is left falls where a label rises, not past its ceiling**
  pub left-falls : {q : ℤ} {ls' : List ℤ} → Changed ls ls' (C.inputs + g) q → label_in ls (C.inputs + g) <ℤ q → q ≤ℤ pos (φ * get_or tops g 0) → (n : ℕ) → g < n
      → left C φ tops ls' n < left C φ tops ls n
  unfolding left
  left-falls c lt le zero h = absurd (omega (arith, h))
  left-falls {q} {ls'} c lt le (suc n) h = go (λ x. left-falls c lt le n x) (ℕ_discrete n g)
    where
      here-falls : up (pos (φ * get_or tops g 0) -ℤ q) < up (pos (φ * get_or tops g 0) -ℤ label_in ls (C.inputs + g))
      here-falls =
          let s = sub_parts (pos (φ * get_or tops g 0)) q in
          let z = other-zero (pos (φ * get_or tops g 0) -ℤ q) 0 (omega (arith, ints, s)) in
          omega (arith, ints, s, sub_parts (pos (φ * get_or tops g 0)) (label_in ls (C.inputs + g)))

      go : (g < n → left C φ tops ls' n < left C φ tops ls n) → Dec (n ≡ g) → up (pos (φ * get_or tops n 0) -ℤ label_in ls' (C.inputs + n)) + left C φ tops ls' n < up (pos (φ * get_or tops n 0) -ℤ label_in ls (C.inputs + n)) + left C φ tops ls n
      go rest (yes e) = rw e (rw c.at (let a = left-same c g (λ m l f. omega (arith, l, f)) in let b = here-falls in omega arith))
      go rest (no ne) = rw (c.other (C.inputs + n) (λ f. ne (omega (arith, f)))) (let a = rest (omega arith) in omega arith)

  fine_of : {v : ℕ} {q : ℤ} {ls' : List ℤ} → Fine C ls → Small q → Changed ls ls' v q → Fine C ls'
  fine_of f s c = record { size = c.size ∙ f.size; small = changed-small f.small s c }

  -- the pins' largest stays p where the gate's own label is set to p
  pinmax_changed : {ls' : List ℤ} → PinMax C ls φ g p → label_in ls (C.inputs + g) ≤ℤ p → Changed ls ls' (C.inputs + g) p → PinMax C ls' φ g p
  pinmax_changed {ls'} m lo c = record {
    above = λ j l. above (get_or C.sources (stride * g + j) 0) (get_or C.counts (stride * g + j) 0) (m.above j l) (ℕ_discrete (get_or C.sources (stride * g + j) 0) (C.inputs + g));
    pin = m.pin;
    is_pin = m.is_pin;
    attained = attained (get_or C.sources (stride * g + m.pin) 0) (get_or C.counts (stride * g + m.pin) 0) m.attained (ℕ_discrete (get_or C.sources (stride * g + m.pin) 0) (C.inputs + g));
  }
    where
      above : (s w : ℕ) → (label_in ls s -ℤ pos (φ * w)) ≤ℤ p → Dec (s ≡ C.inputs + g) → (label_in ls' s -ℤ pos (φ * w)) ≤ℤ p
      above s w h (yes e) = rw e (rw c.at (omega (arith, ints, sub_parts p (pos (φ * w)))))
      above s w h (no n) = rw (c.other s n) h

      same : (x : ℤ) (w : ℕ) → x ≤ℤ p → (x -ℤ pos (φ * w)) ≡ p → (p -ℤ pos (φ * w)) ≡ p
      same x w h e = ≤ℤ_antisym (omega (arith, ints, sub_parts p (pos (φ * w)))) (omega (arith, ints, e, sub_parts p (pos (φ * w)), sub_parts x (pos (φ * w))))

      attained : (s w : ℕ) → (label_in ls s -ℤ pos (φ * w)) ≡ p → Dec (s ≡ C.inputs + g) → (label_in ls' s -ℤ pos (φ * w)) ≡ p
      attained s w h (yes e) = rw e (rw c.at (same (label_in ls (C.inputs + g)) w lo (subst (λ (x : ℕ). (label_in ls x -ℤ pos (φ * w)) ≡ p) e h)))
      attained s w h (no n) = rw (c.other s n) h

  -- **the label is higher than the pins: nothing can change**
  pub visit_higher : Fine C ls → PinMax C ls φ g p → (p +ℤ pos 1) ≤ℤ label_in ls (C.inputs + g) → Visited M δ C k φ tops ls ls g (Ok false)
  visit_higher f m l = record {
    fine = f;
    keeps = kept_same ls;
    same = λ e. refl;
    quiet = λ e. higher p m l;
    less = omega arith;
    falls = λ e. cc;
    refuted = tt;
  }

  module _ (f : Fine C ls) (h : g < C.gates) (m : PinMax C ls φ g p) (lo : label_in ls (C.inputs + g) ≤ℤ p) where
    inside : C.inputs + g < length ls
    inside = let e = f.size in omega arith

    -- **past the ceiling at once**
    pub visit_past : pos (φ * get_or tops g 0) <ℤ p → (e : PastCeiling) → Visited M δ C k φ tops ls ls g (Err e)
    visit_past o e = record {
      fine = f;
      keeps = kept_same ls;
      same = λ i. refl;
      quiet = λ i. cc;
      less = omega arith;
      falls = λ i. cc;
      refuted = λ b. past_top M (set ls (C.inputs + g) p) g h (kept-bounds {δ = δ} (kept-p ls g p h inside m) b) (rw (changed-set ls (C.inputs + g) p inside).at o);
    }

    module _ (s : Small p) (ls' : List ℤ) (rose : Bool) (R : Raised ls ls' (C.inputs + g) p rose) (q : Bool) (a : Answered M δ C k φ ls' g p q) where
      changed : Changed ls ls' (C.inputs + g) p
      changed = raised-changed inside R

      kept : Kept M δ C k φ ls ls'
      kept = go rose R
        where
          go : (b : Bool) → Raised ls ls' (C.inputs + g) p b → Kept M δ C k φ ls ls'
          go false R = subst (Kept M δ C k φ ls) (sym (R.there refl).1) (kept_same ls)
          go true R = subst (Kept M δ C k φ ls) (sym (R.lower refl).1) (kept-p ls g p h inside m)

      no_more : p ≤ℤ pos (φ * get_or tops g 0) → left C φ tops ls' C.gates ≤ left C φ tops ls C.gates
      no_more u = go rose R
        where
          go : (b : Bool) → Raised ls ls' (C.inputs + g) p b → left C φ tops ls' C.gates ≤ left C φ tops ls C.gates
          go false R = rw (R.there refl).1 (omega arith)
          go true R = let d = left-falls changed (R.lower refl).0 u C.gates h in omega arith

      max : PinMax C ls' φ g p
      max = pinmax_changed m lo changed

      inside' : C.inputs + g < length ls'
      inside' = let e = changed.size in let i = inside in omega arith

      -- **a cut of height p is there**
      pub visit_cut : q ≡ true → p ≤ℤ pos (φ * get_or tops g 0) → Visited M δ C k φ tops ls ls' g (Ok rose)
      visit_cut few u = record {
        fine = fine_of f s changed;
        keeps = kept;
        same = λ e. (R.there (cc)).1;
        quiet = λ e.
            let t = R.there (cc) in
            level p m t.0 (λ N S. subst (λ (x : List ℤ). Falling N φ (label_in x) → TrialCut M N k φ δ (label_in x) (C.inputs + g) p) t.1 (a.some N (sane_of S) few));
        less = no_more u;
        falls = λ e. left-falls changed (R.lower (cc)).0 u C.gates h;
        refuted = tt;
      }

      -- **no cut of height p, and room for p + 1**
      pub visit_lift : q ≡ false → p <ℤ pos (φ * get_or tops g 0) → Small (p +ℤ pos 1) → (ls'' : List ℤ) → ls'' ≡ set ls' (C.inputs + g) (p +ℤ pos 1) → Visited M δ C k φ tops ls ls'' g (Ok true)
      visit_lift many u s' ls'' e =
          let c = changed_then changed (subst (λ (x : List ℤ). Changed ls' x (C.inputs + g) (p +ℤ pos 1)) (sym e) (changed-set ls' (C.inputs + g) (p +ℤ pos 1) inside')) in
          record {
            fine = fine_of f s' c;
            keeps = kept_then kept (subst (Kept M δ C k φ ls') (sym e) (kept_more ls' g q p h inside' max a many));
            same = λ i. cc;
            quiet = λ i. cc;
            less = let d = left-falls c (omega (arith, ints, +-parts p (pos 1))) (omega (arith, ints, +-parts p (pos 1))) C.gates h in omega arith;
            falls = λ i. left-falls c (omega (arith, ints, +-parts p (pos 1))) (omega (arith, ints, +-parts p (pos 1))) C.gates h;
            refuted = tt;
          }

      -- **no cut of height p, and p is the ceiling**
      pub visit_over : q ≡ false → p ≤ℤ pos (φ * get_or tops g 0) → pos (φ * get_or tops g 0) ≤ℤ p → (e : PastCeiling) → Visited M δ C k φ tops ls ls' g (Err e)
      visit_over many t u e = record {
        fine = fine_of f s changed;
        keeps = kept;
        same = λ i. cc;
        quiet = λ i. cc;
        less = no_more t;
        falls = λ i. cc;
        refuted = λ b.
            past_top M (set ls' (C.inputs + g) (p +ℤ pos 1)) g h (kept-bounds (kept_then kept (kept_more ls' g q p h inside' max a many)) b)
            (rw (changed-set ls' (C.inputs + g) (p +ℤ pos 1) inside').at (omega (arith, ints, +-parts p (pos 1))));
      }
