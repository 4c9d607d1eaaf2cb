-- From labels to a cover: LUTs with cuts no higher than their labels and the lags of their labels form a cover, and it meets φ.
use Rattle.std.specs.Prelude.{◌≡◌, refl, Bool, true, false, cond, List, [], ◌∷◌, map, ◌⊎◌, ℕ, zero, suc, ◌+◌, ◌*◌, ◌≤◌, ◌<◌, eqb, ℤ, ◌+ℤ◌, ◌-ℤ◌, neg_ℤ, get_or, ◌≤ℤ◌}
use Rattle.std.proofs.Math.Path.{sym, subst, ap}
use Rattle.std.proofs.Common.{◌∙◌, inl, inr, suc-le-suc, zero-le, le_trans, mul-add, eqb-true}
use Rattle.std.proofs.Math.Decide.{ℕ_discrete}
use native.Mathlib.Omega.{arith}
use Rattle.std.proofs.lemmas.Bool.{eqb-false}
use Rattle.std.proofs.Math.IntN.{pos}
use Rattle.std.proofs.Math.ListN.{length, get_or-map}
use Rattle.std.proofs.lemmas.List.{length-map}
use Rattle.integers.specs.Parts.{up, dn, ints, +-parts, sub_parts, neg_parts, scale}
use Rattle.integers.specs.Lag.{lag, place}
use Rattle.integers.proofs.Lag.{lag-parts, lag-step, place-pos, place_le}
use Rattle.integers.proofs.Cover.{lag-leaf, place-leaf, lag-input, lag-output}
use Rattle.integers.specs.Height.{height}
use Rattle.sequences.specs.Member.{◌∈◌, here, there, not_in_nil, in_get_or}
use Rattle.net_model.specs.Net.{Net, Pin, IsGate, IsInput, IsNode}
use Rattle.net_model.specs.Checks.{Sound}
use Rattle.net_model.specs.Copies.{Copy, copy, IsCone, IsLeaves, IsCut, Cut}
use Rattle.cone_theory.specs.Part.{cone_determined}
use Rattle.label_theory.specs.Labels.{Mode, plain, forward, Inside, Low, LowCutIn, OutputsMet}
use Rattle.label_theory.specs.Lower.{input_or_gate, leaf-node}
use Rattle.cover_theory.specs.Covers.{Lut, Cover, lut, lag_of, registers, output_registers, output, RootedAt, IsCover, Chain, one, more, Meets}
use Rattle.cover_theory.specs.Forward.{LagInside, Suited}
use Rattle.cover_theory.specs.Key.{Entry, HasLut, place_of, as_lut, as_cover}
use Rattle.cover_theory.proofs.CoverLabels.{lag-gate, lag-input as lag_of-input}

abbrev pub no_entry : Entry
no_entry = record { root = 0; leaves = []; lag = pos 0; table = 0 }

-- LUT i of the cover is entry i of the record
pub lut-as_cover : (N : Net) (es : List Entry) (i : ℕ) → lut (as_cover N es) i ≡ as_lut (get_or es i no_entry)
lut-as_cover N es i = get_or-map as_lut es i no_entry

pub luts-as_cover : (N : Net) (es : List Entry) → length (as_cover N es).luts ≡ length es
luts-as_cover N es = length-map es as_lut

-- the entry found at a root's place has that root
pub place_of_is : (es : List Entry) (u : ℕ) → HasLut es u → (place_of es u < length es) × ((get_or es (place_of es u) no_entry).root ≡ u)
unfolding place_of
place_of_is [] u (e, m, r) = absurd (not_in_nil m)
place_of_is (x ∷ es) u h = go (eqb x.root u) refl (place_of_is es u) h
  where
    rest : HasLut (x ∷ es) u → ¬ (x.root ≡ u) → HasLut es u
    rest (e, here p, r) n = absurd (n (ap (λ (z : Entry). z.root) (sym p) ∙ r))
    rest (e, there m, r) n = (e, m, r)

    go : (b : Bool) → eqb x.root u ≡ b → (HasLut es u → (place_of es u < length es) × ((get_or es (place_of es u) no_entry).root ≡ u)) → HasLut (x ∷ es) u
        → (cond b 0 (suc (place_of es u)) < suc (length es)) × ((get_or (x ∷ es) (cond b 0 (suc (place_of es u))) no_entry).root ≡ u)
    go true e ih h = (suc-le-suc zero-le, eqb-true x.root u e)
    go false e ih h = let r = ih (rest h (eqb-false x.root u e)) in (suc-le-suc r.0, r.1)

-- label + φ·d ≤ φ says that lag + d ≤ 0
pub near-lag : (M : Mode) (φ : ℕ) → 1 ≤ φ → (z : ℤ) (x : Copy) → Inside M φ z x → LagInside M (lag φ z) x
near-lag plain φ pos_φ z x i = tt
near-lag forward φ pos_φ z x i =
    let p = lag-parts φ pos_φ z in
    let a = lag-step φ (lag φ z +ℤ pos x.back) (pos 0)
    (omega (
      arith,
      ints,
      p.0,
      p.1,
      +-parts z (pos (φ * x.back)),
      scale φ (+-parts (lag φ z) (pos x.back)),
      mul-add φ (up (lag φ z +ℤ pos x.back)) (dn (lag φ z) + 0),
      mul-add φ (dn (lag φ z +ℤ pos x.back)) (up (lag φ z) + x.back),
      mul-add φ (up (lag φ z)) x.back,
      mul-add φ (dn (lag φ z)) 0,
    )) in
    a

-- What makes entries a cover for given labels: each is a gate with a cut no higher than its label and its label's lag; gate leaves and gate sources have entries.
pub record LabelledIn (M : Mode) (N : Net) (k φ : ℕ) (lab : ℕ → ℤ) (es : List Entry) : Type 0 where
  pub gate : (e : Entry) → e ∈ es → IsGate N e.root
  pub cut : (e : Entry) → e ∈ es → (K : LowCutIn M N k φ lab e.root (lab e.root)) × (e.leaves ≡ K.leaves)
  pub lags : (e : Entry) → e ∈ es → e.lag ≡ lag φ (lab e.root)
  pub closed : (e : Entry) → e ∈ es → (y : Copy) → y ∈ e.leaves → IsGate N y.node → HasLut es y.node
  pub sources : (o : Pin) → o ∈ N.outputs → IsGate N o.src → HasLut es o.src

abbrev pub Labelled : Net → ℕ → ℕ → (ℕ → ℤ) → List Entry → Type 0
Labelled = LabelledIn plain

module _ {M : Mode} {N : Net} {k φ : ℕ} (sound : Sound N) (pos_φ : 1 ≤ φ) {lab : ℕ → ℤ} (zeros : (v : ℕ) → IsInput N v → lab v ≡ pos 0) {es : List Entry} (w : LabelledIn M N k φ lab es) where
  entry : ℕ → Entry
  entry i = get_or es i no_entry

  listed : {i : ℕ} → i < length (as_cover N es).luts → i < length es
  listed {i} h = let e = luts-as_cover N es in omega arith

  in_es : {i : ℕ} → i < length (as_cover N es).luts → entry i ∈ es
  unfolding entry
  in_es {i} h = in_get_or es i no_entry (listed h)

  is_cut : (e : Entry) → e ∈ es → IsCut N k e.root e.leaves
  is_cut e m =
      let K = (w.cut e m).0 in
      subst (IsCut N k e.root) (sym (w.cut e m).1) (record { cone = K.cone; is_cone = K.is_cone; is_leaves = K.is_leaves; few = K.few })

  -- a leaf of an entry is no higher than the entry's label
  low : (e : Entry) → e ∈ es → (y : Copy) → y ∈ e.leaves → height φ (lab y.node) y.back ≤ℤ lab e.root
  low e m y h = (w.cut e m).0.allowed y (subst (λ (L : List Copy). y ∈ L) (w.cut e m).1 h)

  leaf_kind : (e : Entry) → e ∈ es → (y : Copy) → y ∈ e.leaves → IsInput N y.node ⊎ IsGate N y.node
  leaf_kind e m y h = input_or_gate N y.node (leaf-node sound (w.cut e m).0.is_leaves (subst (λ (L : List Copy). y ∈ L) (w.cut e m).1 h))

  rooted : (u : ℕ) → HasLut es u → RootedAt (as_cover N es) u (place_of es u)
  rooted u h =
      let r = place_of_is es u h in
      let n = luts-as_cover N es in
      record { listed = omega (arith, r.0); rooted = ap (λ (z : Lut). z.root) (lut-as_cover N es (place_of es u)) ∙ r.1 }

  -- the lag of the LUT found for a gate is that of its label
  found-lag : (u : ℕ) → HasLut es u → (lut (as_cover N es) (place_of es u)).lag ≡ lag φ (lab u)
  unfolding entry
  found-lag u h =
      let r = place_of_is es u h in
      ap (λ (z : Lut). z.lag) (lut-as_cover N es (place_of es u)) ∙ w.lags (entry (place_of es u)) (in_get_or es (place_of es u) no_entry r.0)
      ∙ ap (λ (v : ℕ). lag φ (lab v)) r.1

  -- the registers of a leaf, by its kind
  leaf-gate : (i : ℕ) → i < length (as_cover N es).luts → (y : Copy) → y ∈ (entry i).leaves → IsGate N y.node
      → registers N (as_cover N es) i y ≡ ((pos y.back +ℤ lag φ (lab (entry i).root)) -ℤ lag φ (lab y.node))
  unfolding entry
  leaf-gate i h y m g =
      let own : (lut (as_cover N es) i).lag ≡ lag φ (lab (entry i).root) = ap (λ (z : Lut). z.lag) (lut-as_cover N es i) ∙ w.lags (entry i) (in_es h) in
      let other : lag_of N (as_cover N es) y.node (place_of es y.node) ≡ lag φ (lab y.node) =
      lag-gate N (as_cover N es) y.node (place_of es y.node) g ∙ found-lag y.node (w.closed (entry i) (in_es h) y m g) in
      ap (λ (r : ℤ). (pos y.back +ℤ r) -ℤ lag_of N (as_cover N es) y.node (place_of es y.node)) own
      ∙ ap (λ (q : ℤ). (pos y.back +ℤ lag φ (lab (entry i).root)) -ℤ q) other

  leaf-input : (i : ℕ) → i < length (as_cover N es).luts → (y : Copy) → IsInput N y.node
      → registers N (as_cover N es) i y ≡ ((pos y.back +ℤ lag φ (lab (entry i).root)) -ℤ pos 0)
  unfolding entry
  leaf-input i h y n =
      let own : (lut (as_cover N es) i).lag ≡ lag φ (lab (entry i).root) = ap (λ (z : Lut). z.lag) (lut-as_cover N es i) ∙ w.lags (entry i) (in_es h) in
      ap (λ (r : ℤ). (pos y.back +ℤ r) -ℤ lag_of N (as_cover N es) y.node (place_of es y.node)) own
      ∙ ap (λ (q : ℤ). (pos y.back +ℤ lag φ (lab (entry i).root)) -ℤ q) (lag_of-input N (as_cover N es) y.node (place_of es y.node) n)

  enough : (i : ℕ) → i < length (as_cover N es).luts → (y : Copy) → y ∈ (entry i).leaves → pos 0 ≤ℤ registers N (as_cover N es) i y
  enough i h y m = go (leaf_kind (entry i) (in_es h) y m)
    where
      l : ℤ
      l = lab (entry i).root

      go : IsInput N y.node ⊎ IsGate N y.node → pos 0 ≤ℤ registers N (as_cover N es) i y
      go (inl n) =
          let a = lag-input φ pos_φ y.back l (subst (λ (b : ℤ). height φ b y.back ≤ℤ l) (zeros y.node n) (low (entry i) (in_es h) y m)) in
          subst (λ (q : ℤ). pos 0 ≤ℤ q) (sym (leaf-input i h y n))
          (omega (arith, ints, sub_parts (pos y.back +ℤ lag φ l) (pos 0), +-parts (pos y.back) (lag φ l), neg_parts (pos y.back)))
      go (inr g) =
          let a = lag-leaf φ pos_φ y.back (lab y.node) l (low (entry i) (in_es h) y m) in
          subst (λ (q : ℤ). pos 0 ≤ℤ q) (sym (leaf-gate i h y m g))
          (omega (arith, ints, sub_parts (pos y.back +ℤ lag φ l) (lag φ (lab y.node)), +-parts (pos y.back) (lag φ l), +-parts (lag φ l) (pos y.back)))

  own-leaves : (i : ℕ) {y : Copy} → y ∈ (lut (as_cover N es) i).leaves → y ∈ (entry i).leaves
  unfolding entry
  own-leaves i {y} m = subst (λ (z : Lut). y ∈ z.leaves) (lut-as_cover N es i) m

  output-enough : OutputsMet N φ lab → (n : ℕ) → n < length N.outputs → pos 0 ≤ℤ output_registers N (as_cover N es) n
  output-enough met n h = go (input_or_gate N o.src (sound.output o i))
    where
      o : Pin
      o = output N n

      i : o ∈ N.outputs
      i = in_get_or N.outputs n (record { src = 0; count = 0 }) h

      go : IsInput N o.src ⊎ IsGate N o.src → pos 0 ≤ℤ output_registers N (as_cover N es) n
      go (inl j) =
          subst (λ (q : ℤ). pos 0 ≤ℤ q) (sym (ap (λ (q : ℤ). pos o.count -ℤ q) (lag_of-input N (as_cover N es) o.src (place_of es o.src) j)))
          (omega (arith, ints, sub_parts (pos o.count) (pos 0)))
      go (inr g) =
          let a = lag-output φ pos_φ o.count (lab o.src) (met o i) in
          let e = lag-gate N (as_cover N es) o.src (place_of es o.src) g ∙ found-lag o.src (w.sources o i g) in
          subst (λ (q : ℤ). pos 0 ≤ℤ q) (sym (ap (λ (q : ℤ). pos o.count -ℤ q) e))
          (omega (arith, ints, sub_parts (pos o.count) (lag φ (lab o.src))))

  -- **Labelled entries are a cover in the general sense.**
  pub labelled-cover : OutputsMet N φ lab → IsCover N k (as_cover N es)
  unfolding entry
  labelled-cover met = record {
    gates = λ i h. subst (λ (z : Lut). IsGate N z.root) (sym (lut-as_cover N es i)) (w.gate (entry i) (in_es h));
    cuts = λ i h. subst (λ (z : Lut). IsCut N k z.root z.leaves) (sym (lut-as_cover N es i)) (is_cut (entry i) (in_es h));
    fed = λ i h y m g. rooted y.node (w.closed (entry i) (in_es h) y (own-leaves i m) g);
    leaf_registers = λ i h y m. enough i h y (own-leaves i m);
    names = λ n h g. rooted (output N n).src (w.sources (output N n) (in_get_or N.outputs n (record { src = 0; count = 0 }) h) g);
    output_registers = output-enough met;
  }

  -- a chain has at most as many LUTs as the place of its last one's label
  chain_place : {i n : ℕ} → i < length (as_cover N es).luts → Chain N (as_cover N es) i n → n ≤ place φ (lab (entry i).root)
  chain_place {i} {n} h (one e) = let a = place-pos φ pos_φ (lab (entry i).root) in omega arith
  chain_place {i} {n} h (more y m k' g r e c) =
      let j = place_of es y.node in
      let mine = own-leaves i k' in
      let has = w.closed (entry i) (in_es h) y mine g in
      let rest = chain_place (rooted y.node has).listed c in
      let same : (entry j).root ≡ y.node = unfold entry in (place_of_is es y.node has).1 in
      let q : lag φ (lab y.node) ≡ (lag φ (lab (entry i).root) +ℤ pos y.back) = equal i h y mine g r in
      let a = place-leaf φ pos_φ y.back (lab y.node) (lab (entry i).root) (low (entry i) (in_es h) y mine) q in
      let b : m ≤ place φ (lab y.node) = subst (λ (v : ℕ). m ≤ place φ (lab v)) same rest in
      omega arith
    where
      equal : (i : ℕ) → i < length (as_cover N es).luts → (y : Copy) → y ∈ (entry i).leaves → IsGate N y.node → registers N (as_cover N es) i y ≡ pos 0
          → lag φ (lab y.node) ≡ (lag φ (lab (entry i).root) +ℤ pos y.back)
      equal i h y m g r =
          let z = sym (leaf-gate i h y m g) ∙ r in
          omega (
            arith,
            ints,
            sub_parts (pos y.back +ℤ lag φ (lab (entry i).root)) (lag φ (lab y.node)),
            +-parts (pos y.back) (lag φ (lab (entry i).root)),
            +-parts (lag φ (lab (entry i).root)) (pos y.back),
          )

  -- **It meets φ.**
  pub labelled-meets : Meets N (as_cover N es) φ
  labelled-meets i n h c = le_trans (chain_place h c) (place_le φ pos_φ (lab (entry i).root))

  -- **It suits the mode.**
  pub labelled-suited : Suited M N (as_cover N es)
  unfolding entry
  labelled-suited i h C ic il x m =
      let e = entry i in
      let J = (w.cut e (in_es h)).0 in
      let same = lut-as_cover N es i in
      let cone : IsCone N e.root C = subst (λ (z : Lut). IsCone N z.root C) same ic in
      let leaves : IsLeaves N C J.leaves = subst (IsLeaves N C) (w.cut e (in_es h)).1 (subst (λ (z : Lut). IsLeaves N C z.leaves) same il) in
      subst (λ (z : Lut). LagInside M z.lag x) (sym same)
      (subst (λ (r : ℤ). LagInside M r x) (sym (w.lags e (in_es h))) (near-lag M φ pos_φ (lab e.root) x (J.inside x (cone_determined cone J.is_cone leaves J.is_leaves x m))))
