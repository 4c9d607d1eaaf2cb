-- From places to the definitions of checks 16, 17 and 18, for each net and all tables.
use Rattle.std.specs.Prelude.{◌≡◌, Bool, true, false, cond, List, eqb, ℤ, ◌+ℤ◌, ◌-ℤ◌, length, ◌≤ℤ◌}
use Rattle.std.proofs.Math.Path.{refl, sym, ap, subst}
use Rattle.std.proofs.Common.{◌∙◌, add-zero, zero-add, eqb-true, le-ltb, lt-ltb}
use Prim.Native.Nat.{ℕ, zero, suc, ◌+◌, ◌-◌, ◌*◌, ◌≤◌, ◌<◌}
use Rattle.std.proofs.Math.Decide.{dec_le}
use native.Mathlib.Omega.{arith}
use Rattle.std.proofs.Math.IntN.{pos}
use Rattle.std.proofs.Math.ListN.{get_or}
use Rattle.std.specs.Int.Signed.{mag}
use Rattle.limits.specs.Limits.{most_inputs, most_gates, most_nodes}
use Rattle.integers.specs.Parts.{ints, +-parts, sub_parts}
use Rattle.sequences.specs.Member.{◌∈◌}
use Rattle.net_model.specs.Net.{Net, Pin, size, IsGate}
use Rattle.net_model.specs.Copies.{Copy}
use Rattle.net_model.specs.Arrays.{stride, copy_at, pins_in}
use Rattle.net_model.specs.ArrayLaws.{length-pins_in, pin_at, get_or_pins_in, pins_in_in, in_pins_in, copies_from_in, in_copies_from}
use Rattle.cover_theory.specs.Covers.{Lut, Cover, lut, lag_of, registers, output, output_registers, Chain, one, more}
use Rattle.cover_theory.specs.Key.{Entry, HasLut, place_of, as_lut, as_cover}
use Rattle.cover_period.specs.Written.{no_entry, lut-as_cover, luts-as_cover, place_of_is}
use Rattle.cover_records.specs.Marking.{AllFed, EnoughRegisters, ShortChains}
use Rattle.cover_records.specs.MarkingDecided.{shorter}
use Rattle.cover_records.specs.Held.{Held, WellHeld, held, lut_at, luts_from, luts_in}
use Rattle.cover_records.specs.HeldLaws.{length-luts_in, get_or_luts_in, luts_in_in, in_luts_in, root-lut_at, leaves-lut_at, lag-lut_at}
use Rattle.cover_links.specs.LinkPlaces.{place_from, place_in, Spotted, Found, leaf_in, LutsFed, OutputsFed, base, raise, raised_at, level_of, LutsEnough, OutputsEnough, LeafLong, LongAt, NoneLong, most, LutsPlaced, LutsJoined}
use Rattle.cover_links.specs.Links.{Linking, unfed, short, long, linked, LinksTold}
use Rattle.cover_links.specs.LinkPlaceLaws.{lag-parts, level-input, level-gate}

-- ---- places

place_of_luts_from : (a : Held) (i n u : ℕ) → place_of (luts_from a i n) u ≡ place_from a.roots i n u
unfolding place_of luts_from lut_at place_from
place_of_luts_from a i zero u = refl
place_of_luts_from a i (suc n) u = ap (λ (x : ℕ). cond (eqb (get_or a.roots i 0) u) 0 (suc x)) (place_of_luts_from a (suc i) n u)

pub place_of_luts_in : (a : Held) (n u : ℕ) → place_of (luts_in a n) u ≡ place_in a.roots n u
unfolding luts_in
place_of_luts_in a n u = place_of_luts_from a 0 n u

-- the root at the place found
root_from : (roots : List ℕ) (i n u : ℕ) → place_from roots i n u < n → get_or roots (i + place_from roots i n u) 0 ≡ u
unfolding place_from
root_from roots i zero u h = absurd (omega (arith, h))
root_from roots i (suc n) u h = go (eqb (get_or roots i 0) u) refl (root_from roots (suc i) n u) h
  where
    go : (b : Bool) → eqb (get_or roots i 0) u ≡ b → (place_from roots (suc i) n u < n → get_or roots (suc i + place_from roots (suc i) n u) 0 ≡ u)
        → cond b 0 (suc (place_from roots (suc i) n u)) < suc n → get_or roots (i + cond b 0 (suc (place_from roots (suc i) n u))) 0 ≡ u
    go true q ih h = ap (λ (k : ℕ). get_or roots k 0) (add-zero i) ∙ eqb-true (get_or roots i 0) u q
    go false q ih h =
        let e : i + suc (place_from roots (suc i) n u) ≡ suc i + place_from roots (suc i) n u = omega arith in
        ap (λ (k : ℕ). get_or roots k 0) e ∙ ih (omega (arith, h))

pub found-has : (a : Held) (n u : ℕ) → place_in a.roots n u < n → HasLut (luts_in a n) u
found-has a n u h =
    let k = place_in a.roots n u in
    let r : get_or a.roots k 0 ≡ u = ap (λ (x : ℕ). get_or a.roots x 0) (sym (zero-add k)) ∙ root_from a.roots 0 n u h in
    (lut_at a k, in_luts_in a n k h, root-lut_at a k ∙ r)

pub has-found : (a : Held) (n u : ℕ) → HasLut (luts_in a n) u → place_in a.roots n u < n
has-found a n u h =
    let r = place_of_is (luts_in a n) u h in
    let e = place_of_luts_in a n u in
    let l = length-luts_in a n in
    omega (arith, r.0, e, l)

-- ---- leaves

pub leaf_in_lem : (a : Held) (i j : ℕ) → j < get_or a.sizes i 0 → copy_at a.nodes a.backs (stride * i + j) ∈ (lut_at a i).leaves
leaf_in_lem a i j h =
    subst (λ (l : List Copy). copy_at a.nodes a.backs (stride * i + j) ∈ l) (sym (leaves-lut_at a i))
    (in_copies_from a.nodes a.backs (stride * i) (get_or a.sizes i 0) (stride * i + j) (omega arith) (omega arith))

pub in_leaf : (a : Held) (i : ℕ) (y : Copy) → y ∈ (lut_at a i).leaves → (j : ℕ) × (j < get_or a.sizes i 0) × (y ≡ copy_at a.nodes a.backs (stride * i + j))
in_leaf a i y m =
    let r = copies_from_in a.nodes a.backs (stride * i) (get_or a.sizes i 0) y (subst (λ (l : List Copy). y ∈ l) (leaves-lut_at a i) m) in
    let e : r.0 ≡ stride * i + (r.0 - stride * i) = omega (arith, r.1) in
    (r.0 - stride * i, omega (arith, r.1, r.2), r.3 ∙ ap (copy_at a.nodes a.backs) e)

-- ---- what check 13 leaves true suffices

pub well_held_wired : {I G k n : ℕ} (a : Held) → WellHeld I G k n a → I ≤ most_inputs → G ≤ most_gates → k ≤ stride → n ≤ most → LutsJoined I G a.roots a.sizes a.nodes a.backs a.lags n
well_held_wired a w i g k f = record {
  inputs = i;
  gates = g;
  few = f;
  at_roots = w.at_roots;
  at_sizes = w.at_sizes;
  at_nodes = w.at_nodes;
  at_backs = w.at_backs;
  leaves = λ j h. let s = w.few j h in omega arith;
  lag_room = record { at_lags = w.at_lags; lag = w.lag };
  low = w.low;
  high = w.high;
  node = w.node;
  back = w.back;
}

-- ---- registers, by raised lags

module _ (b : ℕ) (r q : ℤ) (small : mag r ≤ 128) (small' : mag q ≤ 128) where
  enough-to : pos 0 ≤ℤ ((pos b +ℤ r) -ℤ q) → raise q ≤ b + raise r
  enough-to h =
      let u = lag-parts r small in
      let v = lag-parts q small' in
      omega (arith, ints, h, sub_parts (pos b +ℤ r) q, +-parts (pos b) r, u.0, u.1, v.0, v.1)

  enough-from : raise q ≤ b + raise r → pos 0 ≤ℤ ((pos b +ℤ r) -ℤ q)
  enough-from h =
      let u = lag-parts r small in
      let v = lag-parts q small' in
      omega (arith, ints, h, sub_parts (pos b +ℤ r) q, +-parts (pos b) r, u.0, u.1, v.0, v.1)

  none-to : ((pos b +ℤ r) -ℤ q) ≡ pos 0 → raise q ≡ b + raise r
  none-to h =
      let u = lag-parts r small in
      let v = lag-parts q small' in
      omega (arith, ints, h, sub_parts (pos b +ℤ r) q, +-parts (pos b) r, u.0, u.1, v.0, v.1)

  none_from : raise q ≡ b + raise r → ((pos b +ℤ r) -ℤ q) ≡ pos 0
  none_from h =
      let u = lag-parts r small in
      let v = lag-parts q small' in
      omega (arith, ints, h, sub_parts (pos b +ℤ r) q, +-parts (pos b) r, u.0, u.1, v.0, v.1)

output-to : (c : ℕ) (q : ℤ) → mag q ≤ 128 → pos 0 ≤ℤ (pos c -ℤ q) → raise q ≤ c + base
output-to c q s h = let v = lag-parts q s in omega (arith, ints, h, sub_parts (pos c) q, v.0, v.1)

output-from : (c : ℕ) (q : ℤ) → mag q ≤ 128 → raise q ≤ c + base → pos 0 ≤ℤ (pos c -ℤ q)
output-from c q s h = let v = lag-parts q s in omega (arith, ints, h, sub_parts (pos c) q, v.0, v.1)

-- the array by node has room for every node
pub node-room : {I G : ℕ} {roots sizes nodes backs : List ℕ} {lags : List ℤ} {n l : ℕ} → LutsJoined I G roots sizes nodes backs lags n → l ≡ most_nodes → I + G ≤ l
node-room w e = let a = w.inputs in let b = w.gates in omega arith

-- what the functions ask of the arrays, with the array by node
pub luts-placed : {I G : ℕ} {roots sizes nodes backs : List ℕ} {lags : List ℤ} {n : ℕ} (spots : List ℕ) → LutsJoined I G roots sizes nodes backs lags n → I + G ≤ length spots
    → LutsPlaced spots sizes nodes backs lags n
luts-placed spots w h = record {
  leaf_room = record { few = w.few; at_sizes = w.at_sizes; at_nodes = w.at_nodes; leaves = w.leaves; node = λ i j a b. let c = w.node i j a b in omega arith };
  lag_room = w.lag_room;
  at_backs = w.at_backs;
  back = w.back;
}

-- a source's lag: small, and the level when raised
record Source (I : ℕ) (spots : List ℕ) (lags : List ℤ) (u : ℕ) (q : ℤ) : Type 0 where
  level : raise q ≡ level_of I spots lags u
  small : mag q ≤ 128

module _
    {I G : ℕ} {outs delays : List ℕ} {O : ℕ} {roots sizes nodes backs : List ℕ} {lags : List ℤ} {n period : ℕ}
    (p : Linking I G outs delays O roots sizes nodes backs lags n period) {spots : List ℕ} (spotted : Spotted roots n spots) (room : I + G ≤ length spots)
    (N : Net) (inputs : N.inputs ≡ I) (all : size N ≡ I + G) (outputs : N.outputs ≡ pins_in outs delays 0 O) (tables : List ℕ) where
  abbrev a : Held
  a = held roots sizes nodes backs lags tables

  abbrev es : List Entry
  es = luts_in a n

  abbrev K : Cover
  K = as_cover N es

  -- the place by node is that of the definitions
  place_is : (u : ℕ) → u < I + G → place_of es u ≡ get_or spots u 0
  place_is u h = place_of_luts_in a n u ∙ sym (spotted.each u (omega arith))

  spot_has : (u : ℕ) → u < I + G → get_or spots u 0 < n → HasLut es u
  spot_has u h k = found-has a n u (omega (arith, k, spotted.each u (omega arith)))

  has_spot : (u : ℕ) → u < I + G → HasLut es u → get_or spots u 0 < n
  has_spot u h k = omega (arith, has-found a n u k, spotted.each u (omega arith))

  is-gate : (u : ℕ) → I ≤ u → u < I + G → IsGate N u
  is-gate u l h = record { low = omega arith; high = omega arith }

  gate-low : {u : ℕ} → IsGate N u → I ≤ u
  gate-low g = let l = g.low in omega arith

  out_of : (o : Pin) → o ∈ N.outputs → (k : ℕ) × (k < O) × (o ≡ pin_at outs delays k)
  out_of o m =
      let r = pins_in_in outs delays 0 O o (subst (λ (l : List Pin). o ∈ l) outputs m) in
      (r.0, r.1, r.2 ∙ ap (pin_at outs delays) (zero-add r.0))

  of-out : (k : ℕ) → k < O → pin_at outs delays k ∈ N.outputs
  of-out k h =
      subst (λ (l : List Pin). pin_at outs delays k ∈ l) (sym outputs)
      (subst (λ (x : ℕ). pin_at outs delays x ∈ pins_in outs delays 0 O) (zero-add k) (in_pins_in outs delays 0 O k h))

  -- 16
  all-fed : LutsFed I spots sizes nodes n → OutputsFed I spots n outs O → AllFed N es
  all-fed f g = record { leaves = at_leaf_lem; outputs = at-output }
    where
      at_leaf_lem : (e : Entry) → e ∈ es → (y : Copy) → y ∈ e.leaves → IsGate N y.node → HasLut es y.node
      at_leaf_lem e m y l t =
          let r = luts_in_in a n e m in
          let s = in_leaf a r.0 y (subst (λ (x : Entry). y ∈ x.leaves) r.2 l) in
          let q : y.node ≡ leaf_in nodes r.0 s.0 = ap (λ (x : Copy). x.node) s.2 in
          subst (HasLut es) (sym q) (spot_has (leaf_in nodes r.0 s.0) (p.luts.node r.0 s.0 r.1 s.1) (f r.0 r.1 s.0 s.1 (let b = gate-low t in omega arith)))

      at-output : (o : Pin) → o ∈ N.outputs → IsGate N o.src → HasLut es o.src
      at-output o m t =
          let r = out_of o m in
          let q : o.src ≡ get_or outs r.0 0 = ap (λ (x : Pin). x.src) r.2 in
          subst (HasLut es) (sym q) (spot_has (get_or outs r.0 0) (p.out r.0 r.1) (g r.0 r.1 (let b = gate-low t in omega arith)))

  fed-luts : AllFed N es → LutsFed I spots sizes nodes n
  fed-luts f i h j k l =
      has_spot (leaf_in nodes i j) (p.luts.node i j h k)
      (f.leaves (lut_at a i) (in_luts_in a n i h) (copy_at nodes backs (stride * i + j)) (leaf_in_lem a i j k) (is-gate (leaf_in nodes i j) l (p.luts.node i j h k)))

  fed-outputs : AllFed N es → OutputsFed I spots n outs O
  fed-outputs f o h l = has_spot (get_or outs o 0) (p.out o h) (f.outputs (pin_at outs delays o) (of-out o h) (is-gate (get_or outs o 0) l (p.out o h)))

  -- the LUTs of the cover
  lut-at : (i : ℕ) → i < n → lut K i ≡ as_lut (lut_at a i)
  lut-at i h = lut-as_cover N es i ∙ ap as_lut (get_or_luts_in a n i no_entry h)

  lag-at : (i : ℕ) → i < n → (lut K i).lag ≡ get_or lags i (pos 0)
  lag-at i h = ap (λ (x : Lut). x.lag) (lut-at i h) ∙ lag-lut_at a i

  listed : (i : ℕ) → i < length es → i < n
  listed i h = let l = length-luts_in a n in omega arith

  cover-leaf : (i : ℕ) → i < n → (y : Copy) → y ∈ (lut K i).leaves → (j : ℕ) × (j < get_or sizes i 0) × (y ≡ copy_at nodes backs (stride * i + j))
  cover-leaf i h y m = in_leaf a i y (subst (λ (x : Lut). y ∈ x.leaves) (lut-at i h) m)

  leaf-cover : (i j : ℕ) → i < n → j < get_or sizes i 0 → copy_at nodes backs (stride * i + j) ∈ (lut K i).leaves
  leaf-cover i j h k = subst (λ (x : Lut). copy_at nodes backs (stride * i + j) ∈ x.leaves) (sym (lut-at i h)) (leaf_in_lem a i j k)

  -- the lag of a source found
  source : (u : ℕ) → u < I + G → Found I spots n u → Source I spots lags u (lag_of N K u (place_of es u))
  source u b f = go (dec_le I u)
    where
      go : Dec (I ≤ u) → Source I spots lags u (lag_of N K u (place_of es u))
      go (no k) = subst (Source I spots lags u) (sym (ap (λ (b : Bool). cond b (pos 0) (lut K (place_of es u)).lag) (lt-ltb u N.inputs (omega (arith, inputs, k)))))
          (record { level = level-input I spots lags u (omega (arith, k)); small = omega arith })
      go (yes k) =
          let h = f k in
          let e : lag_of N K u (place_of es u) ≡ get_or lags (get_or spots u 0) (pos 0) =
          ap (λ (b : Bool). cond b (pos 0) (lut K (place_of es u)).lag) (le-ltb u N.inputs (omega (arith, inputs, k)))
          ∙ ap (λ (x : ℕ). (lut K x).lag) (place_is u b) ∙ lag-at (get_or spots u 0) h in
          subst (Source I spots lags u) (sym e)
          (record { level = level-gate I spots lags u (raised_at lags (get_or spots u 0)) k refl; small = p.luts.lag_room.lag (get_or spots u 0) h })

  -- the registers of leaf j of LUT i
  leaf-registers : (i j : ℕ) → i < n → registers N K i (copy_at nodes backs (stride * i + j))
      ≡ ((pos (leaf_in backs i j) +ℤ get_or lags i (pos 0)) -ℤ lag_of N K (leaf_in nodes i j) (place_of es (leaf_in nodes i j)))
  leaf-registers i j h = ap (λ (z : ℤ). (pos (leaf_in backs i j) +ℤ z) -ℤ lag_of N K (leaf_in nodes i j) (place_of es (leaf_in nodes i j))) (lag-at i h)

  output-at : (o : ℕ) → o < O → output N o ≡ pin_at outs delays o
  output-at o h =
      ap (λ (l : List Pin). get_or l o (record { src = 0; count = 0 })) outputs ∙ get_or_pins_in outs delays 0 O o (record { src = 0; count = 0 }) h
      ∙ ap (pin_at outs delays) (zero-add o)

  output-registers : (o : ℕ) → o < O → output_registers N K o ≡ (pos (get_or delays o 0) -ℤ lag_of N K (get_or outs o 0) (place_of es (get_or outs o 0)))
  output-registers o h = ap (λ (x : Pin). pos x.count -ℤ lag_of N K x.src (place_of es x.src)) (output-at o h)

  -- 17
  module _ (f : LutsFed I spots sizes nodes n) where
    leaf-source : (i j : ℕ) → i < n → j < get_or sizes i 0 → Source I spots lags (leaf_in nodes i j) (lag_of N K (leaf_in nodes i j) (place_of es (leaf_in nodes i j)))
    leaf-source i j h k = source (leaf_in nodes i j) (p.luts.node i j h k) (f i h j k)

    leaves-enough : LutsEnough I spots sizes nodes backs lags n → (i : ℕ) → i < length es → (y : Copy) → y ∈ (lut K i).leaves → pos 0 ≤ℤ registers N K i y
    leaves-enough e i l y m =
        let h = listed i l in
        let r = cover-leaf i h y m in
        let s = leaf-source i r.0 h r.1 in
        let v = e i h r.0 r.1 in
        subst (λ (x : Copy). pos 0 ≤ℤ registers N K i x) (sym r.2) (subst (λ (z : ℤ). pos 0 ≤ℤ z) (sym (leaf-registers i r.0 h))
        (enough-from (leaf_in backs i r.0) (get_or lags i (pos 0)) (lag_of N K (leaf_in nodes i r.0) (place_of es (leaf_in nodes i r.0))) (p.luts.lag_room.lag i h) s.small
        (omega (arith, s.level, v))))

    enough-leaves : EnoughRegisters N es → LutsEnough I spots sizes nodes backs lags n
    enough-leaves e i h j k =
        let s = leaf-source i j h k in
        let v = subst (λ (z : ℤ). pos 0 ≤ℤ z) (leaf-registers i j h) (e.leaves i (let l = length-luts_in a n in omega arith) (copy_at nodes backs (stride * i + j)) (leaf-cover i j h k)) in
        let w = enough-to (leaf_in backs i j) (get_or lags i (pos 0)) (lag_of N K (leaf_in nodes i j) (place_of es (leaf_in nodes i j))) (p.luts.lag_room.lag i h) s.small v in
        omega (arith, s.level, w)

    -- 18
    chain_long : (m i : ℕ) → i < n → Chain N K i (suc m) → LongAt I spots sizes nodes backs lags m i
    unfolding LongAt
    chain_long zero i h c = tt
    chain_long (suc m) i h (one e) = absurd (never e)
      where
        never : suc (suc m) ≡ 1 → ⊥
        never q = omega arith
    chain_long (suc m) i h (more y k b g r e c) = go (chain_long m)
      where
        go : ((i : ℕ) → i < n → Chain N K i (suc m) → LongAt I spots sizes nodes backs lags m i)
            → (j : ℕ) × (j < get_or sizes i 0) × LeafLong (LongAt I spots sizes nodes backs lags m) I spots nodes backs lags i j
        go rest =
            let t = cover-leaf i h y b in
            let j = t.0 in
            let s = leaf-source i j h t.1 in
            let u : y.node ≡ leaf_in nodes i j = ap (λ (x : Copy). x.node) t.2 in
            let low : I ≤ leaf_in nodes i j = let l = gate-low g in omega arith in
            let z = sym (leaf-registers i j h) ∙ subst (λ (x : Copy). registers N K i x ≡ pos 0) t.2 r in
            let w = none-to (leaf_in backs i j) (get_or lags i (pos 0)) (lag_of N K (leaf_in nodes i j) (place_of es (leaf_in nodes i j))) (p.luts.lag_room.lag i h) s.small z in
            let v = level-gate I spots lags (leaf_in nodes i j) (raised_at lags (get_or spots (leaf_in nodes i j) 0)) low refl in
            let x : place_of es y.node ≡ get_or spots (leaf_in nodes i j) 0 = ap (place_of es) u ∙ place_is (leaf_in nodes i j) (p.luts.node i j h t.1) in
            let d : k ≡ suc m = omega arith in (
              j,
              t.1,
              record {
                gate = low;
                joined = v ∙ sym s.level ∙ w;
                feeder = rest (get_or spots (leaf_in nodes i j) 0) (f i h j t.1 low) (subst (λ (x : ℕ). Chain N K x (suc m)) x (subst (Chain N K (place_of es y.node)) d c));
              },
            )

    long_chain : (m i : ℕ) → i < n → LongAt I spots sizes nodes backs lags m i → Chain N K i (suc m)
    unfolding LongAt
    long_chain zero i h c = one refl
    long_chain (suc m) i h (j, k, l) = go (long_chain m)
      where
        go : ((i : ℕ) → i < n → LongAt I spots sizes nodes backs lags m i → Chain N K i (suc m)) → Chain N K i (suc (suc m))
        go rest =
            let s = leaf-source i j h k in
            let v = level-gate I spots lags (leaf_in nodes i j) (raised_at lags (get_or spots (leaf_in nodes i j) 0)) l.gate refl in
            let w = none_from (leaf_in backs i j) (get_or lags i (pos 0)) (lag_of N K (leaf_in nodes i j) (place_of es (leaf_in nodes i j))) (p.luts.lag_room.lag i h) s.small (s.level ∙ sym v ∙ l.joined) in
            more (copy_at nodes backs (stride * i + j)) (suc m) (leaf-cover i j h k) (is-gate (leaf_in nodes i j) l.gate (p.luts.node i j h k)) (leaf-registers i j h ∙ w) refl
            (subst (λ (x : ℕ). Chain N K x (suc m)) (sym (place_is (leaf_in nodes i j) (p.luts.node i j h k))) (rest (get_or spots (leaf_in nodes i j) 0) (f i h j k l.gate) l.feeder))

    short-chains : NoneLong I spots sizes nodes backs lags n period → ShortChains N period es
    short-chains e i m h c = go (dec_le m period)
      where
        in_list : i < n
        in_list = let l = length-luts_in a n in let q = luts-as_cover N es in omega arith

        go : Dec (m ≤ period) → m ≤ period
        go (yes k) = k
        go (no k) = absurd (e i in_list (chain_long period i in_list (shorter N K period (omega arith) c)))

    none-long : ShortChains N period es → NoneLong I spots sizes nodes backs lags n period
    none-long e i h c = self (e i (suc period) (let l = length-luts_in a n in let q = luts-as_cover N es in omega arith) (long_chain period i h c))
      where
        self : suc period ≤ period → ⊥
        self k = omega arith

  module _ (g : OutputsFed I spots n outs O) where
    outs-enough : OutputsEnough I spots lags outs delays O → (o : ℕ) → o < length N.outputs → pos 0 ≤ℤ output_registers N K o
    outs-enough e o l =
        let h : o < O = let k = ap length outputs in let q = length-pins_in outs delays 0 O in omega arith in
        let s = source (get_or outs o 0) (p.out o h) (g o h) in
        let v = e o h in
        subst (λ (z : ℤ). pos 0 ≤ℤ z) (sym (output-registers o h))
        (output-from (get_or delays o 0) (lag_of N K (get_or outs o 0) (place_of es (get_or outs o 0))) s.small (omega (arith, s.level, v)))

    enough-outs : EnoughRegisters N es → OutputsEnough I spots lags outs delays O
    enough-outs e o h =
        let s = source (get_or outs o 0) (p.out o h) (g o h) in
        let v = subst (λ (z : ℤ). pos 0 ≤ℤ z) (output-registers o h) (e.outputs o (let k = ap length outputs in let q = length-pins_in outs delays 0 O in omega arith)) in
        let w = output-to (get_or delays o 0) (lag_of N K (get_or outs o 0) (place_of es (get_or outs o 0))) s.small v in
        omega (arith, s.level, w)

-- ---- the answers

module _
    {I G : ℕ} {outs delays : List ℕ} {O : ℕ} {roots sizes nodes backs : List ℕ} {lags : List ℤ} {n period : ℕ}
    (p : Linking I G outs delays O roots sizes nodes backs lags n period) {spots : List ℕ} (spotted : Spotted roots n spots) (room : I + G ≤ length spots) where
  pub told-unfed-leaf : ¬ LutsFed I spots sizes nodes n → LinksTold I G outs delays O roots sizes nodes backs lags n period 16
  told-unfed-leaf f = record { tells = λ N i s o t. unfed refl (λ x. f (fed-luts p spotted room N i s o t x)) }

  pub told-unfed-output : ¬ OutputsFed I spots n outs O → LinksTold I G outs delays O roots sizes nodes backs lags n period 16
  told-unfed-output f = record { tells = λ N i s o t. unfed refl (λ x. f (fed-outputs p spotted room N i s o t x)) }

  module _ (f : LutsFed I spots sizes nodes n) (g : OutputsFed I spots n outs O) where
    pub told-short-leaf : ¬ LutsEnough I spots sizes nodes backs lags n → LinksTold I G outs delays O roots sizes nodes backs lags n period 17
    told-short-leaf e = record { tells = λ N i s o t. short refl (all-fed p spotted room N i s o t f g) (λ x. e (enough-leaves p spotted room N i s o t f x)) }

    pub told-short-output : ¬ OutputsEnough I spots lags outs delays O → LinksTold I G outs delays O roots sizes nodes backs lags n period 17
    told-short-output e = record { tells = λ N i s o t. short refl (all-fed p spotted room N i s o t f g) (λ x. e (enough-outs p spotted room N i s o t g x)) }

    module _ (d : LutsEnough I spots sizes nodes backs lags n) (e : OutputsEnough I spots lags outs delays O) where
      enough : (N : Net) → N.inputs ≡ I → size N ≡ I + G → N.outputs ≡ pins_in outs delays 0 O → (tables : List ℕ)
          → EnoughRegisters N (luts_in (held roots sizes nodes backs lags tables) n)
      enough N i s o t = record { leaves = leaves-enough p spotted room N i s o t f d; outputs = outs-enough p spotted room N i s o t g e }

      pub told-long : ¬ NoneLong I spots sizes nodes backs lags n period → LinksTold I G outs delays O roots sizes nodes backs lags n period 18
      told-long c = record { tells = λ N i s o t. long refl (all-fed p spotted room N i s o t f g) (enough N i s o t) (λ x. c (none-long p spotted room N i s o t f x)) }

      pub told-linked : NoneLong I spots sizes nodes backs lags n period → LinksTold I G outs delays O roots sizes nodes backs lags n period 0
      told-linked c = record { tells = λ N i s o t. linked refl (all-fed p spotted room N i s o t f g) (enough N i s o t) (short-chains p spotted room N i s o t f c) }
