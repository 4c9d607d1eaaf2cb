-- Laws of labels at the start.
use Rattle.std.specs.Prelude.{◌≡◌, List, ◌++◌, ℕ, suc, ◌+◌, ◌-◌, ◌*◌, ◌/◌, ◌≤◌, ◌<◌, ℤ, pos, negsuc, ◌-ℤ◌, length, get_or, take, drop, replicate, ◌≤ℤ◌}
use Rattle.std.proofs.Common.{sym, ap, ◌∙◌, subst, div-lt_iff_lt-mul, mul-le-mul_left, mul_comm, le-div_iff_mul-le, arith}
use Rattle.std.proofs.Math.Decide.{ℕ_discrete, dec_lt}
use Rattle.std.proofs.Math.ListN.{get_or-eq_default}
use Rattle.std.proofs.Math.ListN.{get_or-append}
use Rattle.std.proofs.lemmas.List.{length-replicate, length-append, length-drop, length-take-le, get_or-append_right, get_or-replicate, get_or-take, get_or-drop}
use borrow.Rule.Slice.PartMut.{put_mid}
use Rattle.integers.specs.Parts.{ints, sub_parts}
use Rattle.integers.proofs.Height.{height-parts}
use Rattle.net_model.specs.Net.{Net, IsGate}
use Rattle.net_model.specs.Arrays.{stride}
use Rattle.net_model.specs.ArrayLaws.{pin_at}
use Rattle.cone_theory.specs.Reach.{reach_of}
use Rattle.label_theory.specs.Labels.{Labelling}
use Rattle.label_bounds.specs.Floor.{floor, floor-pin}
use Rattle.signed.specs.Range.{Small, room, label_in}
use Rattle.signed.specs.RangeLaws.{small-between}
use Rattle.cut_circuit.specs.Circuit.{Circuit}
use Rattle.cut_circuit.specs.Bridge.{gate-of}
use Rattle.cut_circuit.specs.declared.Extent.{Extent}
use Rattle.label_visit.specs.LabelVisits.{Sane, PinMax, Changed, Fine, wiring, Ready}
use Rattle.label_visit.specs.BoundLaws.{is-pin}
use Rattle.label_visit.specs.ReadyLaws.{changed-small}
use Rattle.label_start.specs.Starts.{Filled, Started, Floored, Startable, Begun}

-- a part of the labels filled
pub filled_mid : {ls ys : List ℤ} {from to : ℕ} {y z : ℤ} → y ≡ z → from ≤ to → to ≤ length ls → ys ≡ replicate (length (take (to - from) (drop from ls))) y → Filled ls (put_mid from (to - from) ls ys) from to z
filled_mid {ls} {ys} {from} {to} {y} {z} same h l e =
    let some : length (take (to - from) (drop from ls)) ≡ to - from = length-take-le (to - from) (drop from ls) (omega (arith, length-drop from ls)) in
    let len : length ys ≡ to - from = ap length e ∙ length-replicate (length (take (to - from) (drop from ls))) y ∙ some in
    let front : length (take from ls) ≡ from = length-take-le from ls (omega arith) in
    let rest = drop (to - from) (drop from ls) in
    record {
      size = omega (arith, front, len, length-append (take from ls) (ys ++ rest), length-append ys rest, length-drop (to - from) (drop from ls), length-drop from ls);
      between = λ u a b.
          get_or-append_right (take from ls) (ys ++ rest) from u (pos 0) front a ∙ get_or-append ys rest (pos 0) (u - from) (omega arith)
          ∙ ap (λ (x : List ℤ). get_or x (u - from) (pos 0)) e ∙ get_or-replicate (length (take (to - from) (drop from ls))) (u - from) y (pos 0) (omega arith) ∙ same;
      before = λ u a. get_or-append (take from ls) (ys ++ rest) (pos 0) u (omega arith) ∙ get_or-take from ls u (pos 0) a;
      behind = λ u a.
          get_or-append_right (take from ls) (ys ++ rest) from u (pos 0) front (omega arith) ∙ get_or-append_right ys rest (to - from) (u - from) (pos 0) len (omega arith)
          ∙ get_or-drop (to - from) (drop from ls) (u - from - (to - from)) (pos 0) ∙ get_or-drop from ls (to - from + (u - from - (to - from))) (pos 0)
          ∙ ap (λ (x : ℕ). get_or ls x (pos 0)) (omega arith);
    }

pub started : {I G : ℕ} {ls ls' ls'' : List ℤ} {low : ℤ} → length ls ≡ I + G → Small low → Filled ls ls' 0 I (pos 1) → Filled ls' ls'' I (I + G) low → Started I G ls'' low
started {I} {G} {ls} {ls'} {ls''} {low} e s a b = record {
  size = b.size ∙ (a.size ∙ e);
  inputs = inputs;
  gates = b.between;
  small = λ u. small u (dec_lt u I) (dec_lt u (I + G));
}
  where
    inputs : (u : ℕ) → u < I → label_in ls'' u ≡ pos 1
    inputs u h = b.before u h ∙ a.between u (omega arith) h

    small : (u : ℕ) → Dec (u < I) → Dec (u < I + G) → Small (label_in ls'' u)
    small u (yes h) d = subst Small (sym (inputs u h)) (record { size = omega arith })
    small u (no h) (yes l) = subst Small (sym (b.between u (omega arith) l)) s
    small u (no h) (no l) = subst Small (sym (get_or-eq_default ls'' (pos 0) {n = u} (let q = b.size in let q' = a.size in omega arith))) (record { size = omega arith })

-- **The labels at the start are floors.**
pub start_floored : {C : Circuit} {k φ : ℕ} {ls : List ℤ} {m : ℕ} {low : ℤ} → 1 ≤ k → m ≡ C.border / k → low ≡ (pos 1 -ℤ pos (φ * m)) → Started C.inputs C.gates ls low → Floored C k φ ls
start_floored {C} {k} {φ} {ls} {m} {low} one em e s = record {
  fine = record { size = s.size; small = s.small };
  floors = λ N S. record { inputs = λ u i. s.inputs u (let h = S.holds.inputs in omega arith); below = below N S };
}
  where
    below : (N : Net) → Sane C k N → (lab : ℕ → ℤ) → Labelling N k φ lab → (u : ℕ) → IsGate N u → label_in ls u ≤ℤ lab u
    below N S lab l u g =
        let hi = S.holds.inputs in
        let hg = S.holds.gates in
        let far : reach_of N ≤ m = rw em ((le-div_iff_mul-le one).1 (let b = S.border in rw (mul_comm (reach_of N) k) b)) in
        let x = s.gates u (let a = g.low in omega arith) (let a = g.high in omega arith) in
        let f = floor k φ S.sound S.ranked lab l u g in
        let r = mul-le-mul_left φ far in
        rw (x ∙ e) (omega (arith, ints, height-parts φ (pos 0) (reach_of N), sub_parts (pos 1) (pos (φ * m))))

-- **They stay floors where one becomes the highest of its gate's pins.**
pub floored_next : {C : Circuit} {k φ g : ℕ} {p : ℤ} {ls ls' : List ℤ} → g < C.gates → Small p → PinMax C ls φ g p → Changed ls ls' (C.inputs + g) p → Floored C k φ ls → Floored C k φ ls'
floored_next {C} {k} {φ} {g} {p} {ls} {ls'} h s m c F = record {
  fine = record { size = c.size ∙ F.fine.size; small = changed-small F.fine.small s c };
  floors = λ N S. record {
    inputs = λ u i. c.other u (λ e. let a = S.holds.inputs in omega (arith, e, a, i)) ∙ (F.floors N S).inputs u i;
    below = λ lab l u gu. below N S lab l u gu (ℕ_discrete u (C.inputs + g));
  };
}
  where
    below : (N : Net) → Sane C k N → (lab : ℕ → ℤ) → Labelling N k φ lab → (u : ℕ) → IsGate N u → Dec (u ≡ C.inputs + g) → label_in ls' u ≤ℤ lab u
    below N S lab l u gu (yes e) =
        let q = pin_at C.sources C.counts (stride * g + m.pin) in
        let a = floor-pin S.sound (F.floors N S) (C.inputs + g) q (gate-of S.holds g h) (is-pin S.holds g m.pin h m.is_pin) lab l in
        rw (e, c.at, ← m.attained) a
    below N S lab l u gu (no n) = rw (c.other u n) ((F.floors N S).below lab l u gu)

-- **With 0 at the inputs they are a lower bound.**
pub floored_begun : {C : Circuit} {k φ n : ℕ} {ls ls' : List ℤ} → n ≡ C.inputs → Floored C k φ ls → Filled ls ls' 0 n (pos 0) → Begun C k φ ls'
floored_begun {C} {k} {φ} {n} {ls} {ls'} e F f = record {
  fine = record { size = f.size ∙ F.fine.size; small = λ u. small u (dec_lt u n) };
  bounds = λ N S. record {
    inputs = λ u i. f.between u (omega arith) (let h = S.holds.inputs in omega arith);
    below = λ lab l u g. rw (f.behind u (let h = S.holds.inputs in let a = g.low in omega arith)) ((F.floors N S).below lab l u g);
  };
}
  where
    small : (u : ℕ) → Dec (u < n) → Small (label_in ls' u)
    small u (yes h) = subst Small (sym (f.between u (omega arith) h)) (record { size = omega arith })
    small u (no h) = subst Small (sym (f.behind u (omega arith))) (F.fine.small u)

-- ---- sizes
pub ready-start : {s : Extent} {net : List ℕ} {ls ls' : List ℤ} {φ k : ℕ} → Startable s net ls φ k → Fine (wiring s net) ls' → Ready s ls' φ k
ready-start z f = record { size = f.size; small = f.small; shift = z.shift; least = z.least; limit = z.limit; fits = z.fits }

-- the floor is small
pub small_low : (n : ℕ) → n ≤ room → Small (pos 1 -ℤ pos n)
small_low n h =
    small-between (negsuc room) (pos 1) (pos 1 -ℤ pos n) (record { size = omega arith }) (record { size = omega arith })
    (omega (arith, ints, sub_parts (pos 1) (pos n))) (omega (arith, ints, sub_parts (pos 1) (pos n)))

-- φ times the floor's reach
pub low-shift : (φ b k w : ℕ) → 1 ≤ k → b < w → φ * w ≤ room → φ * (b / k) ≤ room
low-shift φ b k w one h r = let a = mul-le-mul_left φ (let e = mul-le-mul_left (suc b) one in let d : b / k < suc b = (div-lt_iff_lt-mul one).1 (omega arith) in let x : b / k ≤ w = omega arith in x) in omega arith
