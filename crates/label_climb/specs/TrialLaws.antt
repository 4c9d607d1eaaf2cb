-- Laws of a trial: labels raised by up to d that all rose further were a lower bound, so past a ceiling they refute.
use Rattle.std.specs.Prelude.{◌≡◌, refl, List, Some, Result, Err, ◌⊎◌, ℕ, ◌+◌, ◌≤◌, ◌<◌, ℤ, pos, ◌+ℤ◌, ◌-ℤ◌, length, set, ◌≤ℤ◌, ◌<ℤ◌}
use Rattle.std.proofs.Common.{sym, ◌∙◌, subst, inl, inr, mul-le-mul_right, arith, length-set, get_or-set_same, get_or-set_other, ext_get_or}
use Rattle.std.proofs.Math.Decide.{ℕ_discrete, dec_lt}
use Rattle.std.specs.Int.Signed.{≤ℤ_refl}
use Rattle.integers.specs.Parts.{ints, +-parts, sub_parts}
use Rattle.net_model.specs.Net.{Net, IsGate, IsInput}
use Rattle.label_theory.specs.Labels.{Mode}
use Rattle.label_theory.specs.Lower.{input_or_gate}
use Rattle.label_theory.specs.Near.{Rose}
use Rattle.label_bounds.specs.NearLaws.{bound-near, near-bound, jump}
use Rattle.signed.specs.Range.{Small, room, label_in}
use Rattle.signed.specs.RangeLaws.{small-between}
use Rattle.cut_circuit.specs.Circuit.{Circuit}
use Rattle.cut_circuit.specs.declared.Extent.{Extent}
use Rattle.label_visit.specs.declared.PastCeiling.{PastCeiling}
use Rattle.label_visit.specs.LabelVisits.{Suits, Bounds, Kept, Refuted, Fine, Ready, Ceilings, wiring, tops_in}
use Rattle.label_visit.specs.TopLaws.{capped}
use Rattle.label_visit.specs.BoundLaws.{sane_of, past_top}
use Rattle.label_pass.specs.Passes.{Progress}
use Rattle.label_climb.specs.Trials.{Copied, Nudge, Nudged, Hoisted, RoseFurther, AllRose, Accepted, Roomy, farthest}

-- ---- labels raised
pub hoisted_none : (old ls : List ℤ) (from d : ℕ) → Hoisted old ls ls from from d
hoisted_none old ls from d = record { size = refl; before = λ u h. refl; behind = λ u h. refl; between = λ u h l. inl refl }

pub hoisted_one : (old ls : List ℤ) (v d : ℕ) (z : ℤ) → v < length ls → label_in old v <ℤ label_in ls v → Nudge (label_in ls v) d z → Hoisted old ls (set ls v z) v (v + 1) d
hoisted_one old ls v d z h a n = record {
  size = length-set ls v z;
  before = λ u l. get_or-set_other ls v u z (pos 0) (λ e. omega (arith, e, l));
  behind = λ u l. get_or-set_other ls v u z (pos 0) (λ e. omega (arith, e, l));
  between = λ u l m. go u (ℕ_discrete u v);
}
  where
    go : (u : ℕ) → Dec (u ≡ v) → Nudged old ls (set ls v z) d u
    go u (yes e) = rw e (inr (a, subst (Nudge (label_in ls v) d) (sym (get_or-set_same ls v z (pos 0) h)) n))
    go u (no e) = inl (get_or-set_other ls v u z (pos 0) e)

pub hoisted_skip : (old ls : List ℤ) (v d : ℕ) → Hoisted old ls ls v (v + 1) d
hoisted_skip old ls v d = record { size = refl; before = λ u h. refl; behind = λ u h. refl; between = λ u h l. inl refl }

pub hoisted_next : {old ls ls' ls'' : List ℤ} {from i d : ℕ} → from ≤ i → Hoisted old ls ls' from i d → Hoisted old ls' ls'' i (i + 1) d → Hoisted old ls ls'' from (i + 1) d
hoisted_next {old} {ls} {ls'} {ls''} {from} {i} {d} l a b = record {
  size = b.size ∙ a.size;
  before = λ u h. b.before u (omega arith) ∙ a.before u h;
  behind = λ u h. b.behind u h ∙ a.behind u (omega arith);
  between = λ u h m. go u h m (dec_lt u i);
}
  where
    go : (u : ℕ) → from ≤ u → u < i + 1 → Dec (u < i) → Nudged old ls ls'' d u
    go u h m (yes q) = subst (λ (x : ℤ). (x ≡ label_in ls u) ⊎ ((label_in old u <ℤ label_in ls u) × Nudge (label_in ls u) d x)) (sym (b.before u q)) (a.between u h q)
    go u h m (no q) = subst (λ (x : ℤ). (label_in ls'' u ≡ x) ⊎ ((label_in old u <ℤ x) × Nudge x d (label_in ls'' u))) (a.behind u (omega arith)) (b.between u (omega arith) m)

pub hoisted_small : {old ls ls' : List ℤ} {from to d : ℕ} → Hoisted old ls ls' from to d → ((u : ℕ) → Small (label_in ls u)) → (u : ℕ) → Small (label_in ls' u)
hoisted_small {old} {ls} {ls'} {from} {to} {d} a s u = go (dec_lt u from) (dec_lt u to)
  where
    raised : Nudged old ls ls' d u → Small (label_in ls' u)
    raised (inl e) = subst Small (sym e) (s u)
    raised (inr (x, n)) = n.small

    go : Dec (u < from) → Dec (u < to) → Small (label_in ls' u)
    go (yes h) t = subst Small (sym (a.before u h)) (s u)
    go (no h) (yes l) = raised (a.between u (omega arith) l)
    go (no h) (no l) = subst Small (sym (a.behind u (omega arith))) (s u)

pub hoisted_at : {old ls ls' : List ℤ} {from i j d : ℕ} → i ≡ j → Hoisted old ls ls' from i d → Hoisted old ls ls' from j d
hoisted_at {old} {ls} {ls'} {from} {d = d} e a = subst (λ (x : ℕ). Hoisted old ls ls' from x d) e a

-- a sum that is below 2^40, or none
pub nudge_up : (z : ℤ) (d : ℕ) → Small z → (z +ℤ pos d) <ℤ pos room → Nudge z d (z +ℤ pos d)
nudge_up z d s h = record {
  small = small-between z (pos room) (z +ℤ pos d) s (record { size = omega arith }) (omega (arith, ints, +-parts z (pos d))) (omega (arith, ints));
  most = ≤ℤ_refl (z +ℤ pos d);
}

pub nudge_none : (z : ℤ) (d : ℕ) → Small z → Nudge z d z
nudge_none z d s = record { small = s; most = omega (arith, ints, +-parts z (pos d)) }

-- the labels of a trial may be swept
pub hoisted_ready : {s : Extent} {old ls ls' : List ℤ} {from to d φ k : ℕ} → Hoisted old ls ls' from to d → Ready s ls φ k → Ready s ls' φ k
hoisted_ready a y = record { size = a.size ∙ y.size; small = hoisted_small a y.small; shift = y.shift; least = y.least; limit = y.limit; fits = y.fits }

-- ---- labels kept and given back
pub copied_none : (from to : List ℤ) → Copied from to to 0
copied_none from to = record { size = refl; at = λ u h. absurd (omega (arith, h)) }

pub copied_next : {from to to' : List ℤ} {i : ℕ} {z : ℤ} → z ≡ label_in from i → i < length to → Copied from to to' i → Copied from to (set to' i z) (i + 1)
copied_next {from} {to} {to'} {i} {z} e h a = record { size = length-set to' i z ∙ a.size; at = λ u l. go u l (ℕ_discrete u i) }
  where
    go : (u : ℕ) → u < i + 1 → Dec (u ≡ i) → label_in (set to' i z) u ≡ label_in from u
    go u l (yes q) = rw q (get_or-set_same to' i z (pos 0) (let t = a.size in omega arith) ∙ e)
    go u l (no q) = get_or-set_other to' i u z (pos 0) q ∙ a.at u (omega arith)

pub copied_at : {from to to' : List ℤ} {i j : ℕ} → i ≡ j → Copied from to to' i → Copied from to to' j
copied_at {from} {to} {to'} e a = subst (Copied from to to') e a

-- **labels copied there and back are as before**
pub restored : {ls sv sv' ls' ls'' : List ℤ} {n : ℕ} → length ls ≡ n → length ls' ≡ length ls → Copied ls sv sv' n → Copied sv' ls' ls'' n → ls'' ≡ ls
restored {ls} {sv} {sv'} {ls'} {ls''} {n} l e a b = ext_get_or (pos 0) ls'' ls (b.size ∙ e) (λ i h. let q = b.size in b.at i (omega arith) ∙ a.at i (omega arith))

-- ---- labels that rose further
pub rose-enough : (old sv ls : List ℤ) (d v : ℕ) → (label_in sv v +ℤ pos 1) ≤ℤ (label_in ls v -ℤ pos d) → RoseFurther old sv ls d v
rose-enough old sv ls d v h = record { further = λ a. omega (arith, ints, +-parts (label_in sv v) (pos 1), +-parts (label_in sv v) (pos d), sub_parts (label_in ls v) (pos d)) }

pub rose-not : (old sv ls : List ℤ) (d v : ℕ) → label_in sv v ≤ℤ label_in old v → RoseFurther old sv ls d v
rose-not old sv ls d v h = record { further = λ a. absurd (omega (arith, ints, a)) }

pub all_none : {old sv ls : List ℤ} {from d : ℕ} → AllRose old sv ls from from d
all_none = record { at = λ u h l. absurd (omega (arith, h, l)) }

pub all-next : {old sv ls : List ℤ} {from i d : ℕ} → AllRose old sv ls from i d → RoseFurther old sv ls d i → AllRose old sv ls from (i + 1) d
all-next {old} {sv} {ls} {from} {i} {d} a r = record { at = λ u h l. go u h l (ℕ_discrete u i) }
  where
    go : (u : ℕ) → from ≤ u → u < i + 1 → Dec (u ≡ i) → RoseFurther old sv ls d u
    go u h l (yes e) = subst (RoseFurther old sv ls d) (sym e) r
    go u h l (no e) = a.at u h (omega arith)

pub all-at : {old sv ls : List ℤ} {from i j d : ℕ} → i ≡ j → AllRose old sv ls from i d → AllRose old sv ls from j d
all-at {old} {sv} {ls} {from} {d = d} e a = subst (λ (x : ℕ). AllRose old sv ls from x d) e a

-- ---- **a trial accepted refutes**
module _ {M : Mode} {C : Circuit} {k : ℕ} {tops : List ℕ} {old ls sv m m' : List ℤ} {d : ℕ} where
  rose-all : {N : Net} → Suits M C k tops N → ((u : ℕ) → u < C.inputs + C.gates → label_in sv u ≡ label_in ls u) → Hoisted old ls m C.inputs (C.inputs + C.gates) d
      → AllRose old sv m' C.inputs (C.inputs + C.gates) d → Rose N (label_in ls) (label_in m) (label_in m') d
  rose-all {N} S e h r v n = go (input_or_gate N v n)
    where
      same : label_in m v ≡ label_in ls v → label_in m v ≤ℤ label_in ls v
      same q = omega (arith, ints)

      go : IsInput N v ⊎ IsGate N v → (label_in m v ≤ℤ label_in ls v) ⊎ ((label_in m v ≤ℤ (label_in ls v +ℤ pos d)) × ((label_in ls v +ℤ pos d) <ℤ label_in m' v))
      go (inl i) = inl (same (h.before v (let q = S.holds.inputs in omega arith)))
      go (inr g) = gate (h.between v low high)
        where
          low : C.inputs ≤ v
          low = let q = S.holds.inputs in let a = g.low in omega arith

          high : v < C.inputs + C.gates
          high = let q = S.holds.inputs in let t = S.holds.gates in let a = g.high in omega arith

          gate : Nudged old ls m d v → (label_in m v ≤ℤ label_in ls v) ⊎ ((label_in m v ≤ℤ (label_in ls v +ℤ pos d)) × ((label_in ls v +ℤ pos d) <ℤ label_in m' v))
          gate (inl q) = inl (same q)
          gate (inr (a, n)) = inr (n.most, subst (λ (x : ℤ). label_in old v <ℤ x → (x +ℤ pos d) <ℤ label_in m' v) (e v high) (r.at v low high).further a)

module _ {M : Mode} {C : Circuit} {k φ : ℕ} {tops : List ℕ} {old ls sv m m' : List ℤ} {d : ℕ} where
  trial_bounds : ((u : ℕ) → u < C.inputs + C.gates → label_in sv u ≡ label_in ls u) → Hoisted old ls m C.inputs (C.inputs + C.gates) d → Kept M d C k φ m m'
      → AllRose old sv m' C.inputs (C.inputs + C.gates) d → Bounds M C k φ tops ls → Bounds M C k φ tops m'
  trial_bounds e h K r b N S =
      near-bound (λ u i. let q : u < C.inputs = let t = S.holds.inputs in omega arith in K.inputs u q ∙ (h.before u q ∙ (b N S).inputs u i))
      (jump d (bound-near (b N S)) (rose-all S e h r) (K.near N (sane_of S)))

  pub trial_refutes : ((u : ℕ) → u < C.inputs + C.gates → label_in sv u ≡ label_in ls u) → Hoisted old ls m C.inputs (C.inputs + C.gates) d → Kept M d C k φ m m'
      → Accepted C.inputs C.gates φ old sv m' tops d → Bounds M C k φ tops ls → Refuted M C k φ tops
  trial_refutes e h K a b = past_top M m' a.over.gate a.over.is_gate (trial_bounds e h K a.rose b) a.over.above

-- ---- the ceilings of a trial
pub caps_suit : (s : Extent) (net : List ℕ) (φ : ℕ) → Roomy (s.inputs + s.gates) φ → Ceilings (wiring s net) φ (tops_in s net (Some farthest))
caps_suit s net φ d = capped s net φ farthest (let b = mul-le-mul_right farthest d.period in omega arith)

-- ---- sweeps and a trial that refutes
pub leapt_past : {M : Mode} {δ : ℕ} {C : Circuit} {k φ : ℕ} {tops order : List ℕ} {ls ls' ls'' : List ℤ} {t : Result ℕ PastCeiling} {e : PastCeiling} → Progress M δ C k φ tops order ls ls' t → ls'' ≡ ls'
    → (Bounds M C k φ tops ls' → Refuted M C k φ tops) → Progress M δ C k φ tops order ls ls'' (Err e)
leapt_past {M} {δ} {C} {k} {φ} {tops} {order} {ls} {ls'} {ls''} p e f = record {
  most = tt;
  fine = subst (Fine C) (sym e) p.fine;
  keeps = subst (Kept M δ C k φ ls) (sym e) p.keeps;
  quiet = tt;
  less = rw e p.less;
  falls = tt;
  refuted = λ b. f (Rattle.label_visit.specs.BoundLaws.kept-bounds p.keeps b);
}

pub leapt_same : {M : Mode} {δ : ℕ} {C : Circuit} {k φ : ℕ} {tops order : List ℕ} {ls ls' ls'' : List ℤ} {t : Result ℕ PastCeiling} → Progress M δ C k φ tops order ls ls' t → ls'' ≡ ls' → Progress M δ C k φ tops order ls ls'' t
leapt_same {M} {δ} {C} {k} {φ} {tops} {order} {ls} {ls'} {ls''} {t} p e = subst (λ (x : List ℤ). Progress M δ C k φ tops order ls x t) (sym e) p
