-- Laws of depths: pin by pin, gate by gate, and the levels that they are.
use Rattle.std.specs.Prelude.{◌≡◌, refl, ℕ, max, ◌+◌, ◌-◌, ◌*◌, ◌≤◌, ◌<◌}
use Rattle.std.proofs.Math.Path.{sym, subst}
use Rattle.std.proofs.Common.{ap, ◌∙◌, zero-le, le_trans}
use mathlib.Core.List.{List}
use Rattle.std.proofs.Math.Decide.{ℕ_discrete, dec_lt}
use native.Mathlib.Omega.{arith}
use Rattle.std.proofs.Math.ListN.{get_or}
use Rattle.sequences.specs.Member.{◌∈◌}
use Rattle.net_model.specs.Net.{Net, Pin, IsGate, pins}
use Rattle.net_model.specs.Arrays.{stride}
use Rattle.net_model.specs.ArrayLaws.{pins_in_in}
use Rattle.net_model.specs.Wired.{Wires}
use Rattle.net_model.specs.Checks.{Drives}
use Rattle.cone_theory.specs.CopyOrder.{Levels, levels}
use Rattle.cut_circuit.specs.Circuit.{Circuit, Layout}
use Rattle.cut_circuit.specs.Bridge.{Holds}
use Rattle.cut_circuit.specs.Packed.{packed_of}
use Rattle.cut_circuit.specs.declared.Extent.{Extent}
use Rattle.label_visit.specs.LabelVisits.{wiring}
use Rattle.label_lines.specs.Lines.{DepthsRead, Deepest, DepthsHeld, Rises, Levelled, LongestTold}

-- a circuit's layout has its wires
pub layout-wires : {s : Extent} {net slots : List ℕ} → Layout (packed_of s net slots) → Wires s.inputs s.gates net (wiring s net).sources (wiring s net).counts
layout-wires L = record { sizes = L.pins; room = L.sources; room' = L.counts; pins = L.few; node = L.source }

-- ---- pin by pin
module _ (so co ds : List ℕ) (at : ℕ) where
  pub deepest_none : Deepest so co ds at 0 0
  deepest_none = record { above = λ j h. absurd (omega (arith, h)) }

  pub deepest_next : {n d r : ℕ} → Deepest so co ds at n d → d ≤ r → (get_or co (at + n) 0 ≡ 0 → get_or ds (get_or so (at + n) 0) 0 ≤ r) → Deepest so co ds at (n + 1) r
  deepest_next {n} {d} {r} D le f = record { above = λ j h. go j h (ℕ_discrete j n) }
    where
      go : (j : ℕ) → j < n + 1 → Dec (j ≡ n) → get_or co (at + j) 0 ≡ 0 → get_or ds (get_or so (at + j) 0) 0 ≤ r
      go j h (yes e) = rw e f
      go j h (no m) = λ z. le_trans (D.above j (omega arith) z) le

  pub deepest_at : {m n r : ℕ} → m ≡ n → Deepest so co ds at m r → Deepest so co ds at n r
  deepest_at {r = r} e D = subst (λ (x : ℕ). Deepest so co ds at x r) e D

pub gate-read : {s : Extent} {net ds : List ℕ} → DepthsHeld s net ds → (g : ℕ) → g < s.gates → DepthsRead (wiring s net).sources (wiring s net).counts ds (stride * g) (get_or net g 0)
gate-read R g h = record {
  source = λ j l. let a = R.wires.pins g h in let b = R.wires.room in omega arith;
  count = λ j l. let a = R.wires.pins g h in let b = R.wires.room' in omega arith;
  node = λ j l. let a = R.wires.node g j h l in let b = R.size in omega arith;
}

pub gate-rises : {s : Extent} {net ds : List ℕ} {g d : ℕ} → Deepest (wiring s net).sources (wiring s net).counts ds (stride * g) (get_or net g 0) d → d < get_or ds (s.inputs + g) 0
    → get_or ds (s.inputs + g) 0 ≤ s.gates → Rises (wiring s net) ds g
gate-rises D lt le = record { some = omega arith; most = le; above = λ j h z. let a = D.above j h z in omega arith }

-- ---- gate by gate
module _ {C : Circuit} {ds : List ℕ} {least : ℕ} where
  pub levelled_none : least ≤ C.gates → Levelled C ds 0 least least
  levelled_none h = record { place = zero-le; least = omega arith; most = h; rises = λ g l. absurd (omega (arith, l)); below = λ g l. absurd (omega (arith, l)) }

  pub levelled_next : {n r t : ℕ} → n < C.gates → Levelled C ds n least r → Rises C ds n → t ≡ max r (get_or ds (C.inputs + n) 0) → Levelled C ds (n + 1) least t
  levelled_next {n} {r} {t} h L R e = record {
    place = omega arith;
    least = let a = L.least in omega (arith, e);
    most = let a = L.most in let b = R.most in omega (arith, e);
    rises = λ g l. rises g l (ℕ_discrete g n);
    below = λ g l. below g l (ℕ_discrete g n);
  }
    where
      rises : (g : ℕ) → g < n + 1 → Dec (g ≡ n) → Rises C ds g
      rises g l (yes q) = rw q R
      rises g l (no m) = L.rises g (omega arith)

      below : (g : ℕ) → g < n + 1 → Dec (g ≡ n) → get_or ds (C.inputs + g) 0 ≤ t
      below g l (yes q) = rw q (omega (arith, e))
      below g l (no m) = let a = L.below g (omega arith) in omega (arith, e)

-- ---- levels

-- x between two bounds, else 0
pick : {A B : Type 0} → Dec A → Dec B → ℕ → ℕ
pick (yes a) d x = 0
pick (no n) (yes b) x = x
pick (no n) (no m) x = 0

pick-below : {A B : Type 0} (a : Dec A) (b : Dec B) {x r : ℕ} → (¬ A → B → x ≤ r) → pick a b x ≤ r
unfolding pick
pick-below (yes a) d f = zero-le
pick-below (no n) (yes b) f = f n b
pick-below (no n) (no m) f = zero-le

pick_is : {A B : Type 0} (a : Dec A) (b : Dec B) {x : ℕ} → ¬ A → B → pick a b x ≡ x
unfolding pick
pick_is (yes a) d n h = absurd (n a)
pick_is (no n) (yes b) m h = refl
pick_is (no n) (no m) l h = absurd (m h)

pick-none : {A B : Type 0} (a : Dec A) (b : Dec B) (x : ℕ) → (¬ A → ¬ B) → pick a b x ≡ 0
unfolding pick
pick-none (yes a) d x f = refl
pick-none (no n) (yes b) x f = absurd (f n b)
pick-none (no n) (no m) x f = refl

module _ {C : Circuit} {ds : List ℕ} {least r : ℕ} (L : Levelled C ds C.gates least r) {N : Net} (H : Holds C N) where
  level : ℕ → ℕ
  level v = pick (dec_lt v C.inputs) (dec_lt v (C.inputs + C.gates)) (get_or ds v 0)

  -- the depth of a gate
  depth-of : (v : ℕ) → ¬ (v < C.inputs) → v < C.inputs + C.gates → C.inputs + (v - C.inputs) ≡ v
  depth-of v n h = omega arith

  level-below : (v : ℕ) → level v ≤ r
  unfolding level
  level-below v = pick-below (dec_lt v C.inputs) (dec_lt v (C.inputs + C.gates)) (λ n h.
      subst (λ (x : ℕ). get_or ds x 0 ≤ r) (depth-of v n h) (L.below (v - C.inputs) (omega arith)))

  level-gate : (v : ℕ) → IsGate N v → level v ≡ get_or ds v 0
  unfolding level
  level-gate v g = pick_is (dec_lt v C.inputs) (dec_lt v (C.inputs + C.gates)) (let a = g.low in let b = H.inputs in omega arith) (let a = g.high in let b = H.inputs in let d = H.gates in omega arith)

  gate-rise : (v : ℕ) → IsGate N v → (Rises C ds (v - C.inputs)) × (C.inputs + (v - C.inputs) ≡ v)
  gate-rise v g =
      let a = g.low in
      let b = g.high in
      let d = H.inputs in
      let e = H.gates in
      (L.rises (v - C.inputs) (omega arith), omega arith)

  level-rises : {u v : ℕ} → Drives N u v → level u < level v
  unfolding level
  level-rises {u} {v} d =
      let t = gate-rise v d.gate in
      let g = v - C.inputs in
      let a = d.gate.low in
      let b = d.gate.high in
      let hi = H.inputs in
      let hg = H.gates in
      let p = pins_in_in C.sources C.counts (stride * g) (get_or C.pins g 0) d.pin
      (subst (λ (m : List Pin). d.pin ∈ m) (H.lists g (omega arith)) (subst (λ (x : ℕ). d.pin ∈ pins N x) (sym t.1) d.is_pin)) in
      let src : get_or C.sources (stride * g + p.0) 0 ≡ u = sym (ap (λ (x : Pin). x.src) p.2) ∙ d.source in
      let free : get_or C.counts (stride * g + p.0) 0 ≡ 0 = sym (ap (λ (x : Pin). x.count) p.2) ∙ d.free in
      let up : get_or ds u 0 < get_or ds v 0 = subst (λ (x : ℕ). get_or ds x 0 < get_or ds v 0) src (subst (λ (x : ℕ). get_or ds (get_or C.sources (stride * g + p.0) 0) 0 < get_or ds x 0) t.1 (t.0.above p.0 p.1 free)) in
      let some : 1 ≤ get_or ds v 0 = subst (λ (x : ℕ). 1 ≤ get_or ds x 0) t.1 t.0.some in
      let e = level-gate v d.gate in
      let low : level u ≤ get_or ds v 0 - 1 = pick-below (dec_lt u C.inputs) (dec_lt u (C.inputs + C.gates)) (λ n h. omega arith) in
      omega arith

  -- **The depths are levels.**
  depth-levels : Levels N
  unfolding level
  depth-levels = record {
    level = level;
    rises = level-rises;
    bound = λ v. let a = level-below v in let b = L.most in let h = H.gates in omega arith;
    gate = λ v g. let t = gate-rise v g in let e = level-gate v g in let s : 1 ≤ get_or ds v 0 = subst (λ (x : ℕ). 1 ≤ get_or ds x 0) t.1 t.0.some in omega arith;
    input = λ v n. pick-none (dec_lt v C.inputs) (dec_lt v (C.inputs + C.gates)) (get_or ds v 0) (λ m h. n (record { low = let b = H.inputs in omega arith; high = let b = H.inputs in let d = H.gates in omega arith }));
  }

pub line-told : {C : Circuit} {ds : List ℕ} {least n r : ℕ} → n ≡ C.gates → Levelled C ds n least r → LongestTold C least r
unfolding depth-levels level
line-told {C} {ds} {least} {n} {r} e L = told (subst (λ (x : ℕ). Levelled C ds x least r) e L)
  where
    told : Levelled C ds C.gates least r → LongestTold C least r
    told L = record { least = L.least; most = L.most; levels = λ N H l. (depth-levels L H, level-below L H) }

-- no line has more gates than there are
pub line-gates : {C : Circuit} {least : ℕ} → least ≤ C.gates → LongestTold C least C.gates
line-gates h = record { least = h; most = omega arith; levels = λ N H l. (levels l, λ v. let a = (levels l).bound v in let b = H.gates in omega arith) }
