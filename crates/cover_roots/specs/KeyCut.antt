-- The cut that the engine tells at a gate's own label is the one that every key of the net has there.
use Rattle.std.specs.Prelude.{◌≡◌, refl, Bool, true, false, ◌⊎◌, List, [], ◌∷◌, ℕ, zero, suc, ◌+◌, ◌*◌, ◌≤◌, ◌<◌, ℤ, pos, ◌-ℤ◌, length, get_or, ◌≤ℤ◌}
use Rattle.std.proofs.Common.{sym, ap, subst, ◌∙◌, inl, inr, add-zero, arith}
use Rattle.std.proofs.Math.Path.{fun_ext}
use Rattle.integers.specs.Order.{≤ℤ_trans}
use Rattle.integers.specs.Parts.{ints, +-parts, sub_parts}
use Rattle.integers.proofs.Height.{height-parts}
use Rattle.net_model.specs.Net.{Net, IsGate, IsInput}
use Rattle.net_model.specs.Checks.{Sound}
use Rattle.net_model.specs.Copies.{copy, Chosen}
use Rattle.net_model.specs.Arrays.{stride, copies_from}
use Rattle.cone_theory.specs.Ranks.{Ranked}
use Rattle.cone_theory.specs.Reach.{reach_of}
use Rattle.cut_theory.specs.Choice.{chosen-leaves}
use Rattle.label_theory.specs.Labels.{Mode, Inside, Low, LowCutIn, LeastIn}
use Rattle.label_theory.specs.Modes.{Topped, Bordered, labelling-top}
use Rattle.label_theory.specs.Lower.{input_or_gate}
use Rattle.label_theory.proofs.Pins.{pin_lemma, pin-input}
use Rattle.label_theory.specs.Forced.{Falling, separation-cut}
use Rattle.cut_circuit.specs.Packed.{packed_of}
use Rattle.cut_circuit.specs.declared.Extent.{Extent}
use Rattle.cut_circuit.specs.Bridge.{Holds, gate-of}
use Rattle.signed.specs.Range.{label_in}
use Rattle.cut_question.specs.Question.{Asks, Takes, Separated, Decides, Written}
use Rattle.cut_question.specs.ChosenCut.{told-cut, told_chosen}
use Rattle.label_aim.specs.Aims.{BorderTold, Bordering}
use Rattle.label_aim.specs.AimLaws.{bordered, bordering_is}
use Rattle.cover_roots.specs.Choosing.{Asking, Keyed}

-- **The least labelling does not fall along pins.**
least-falling : {M : Mode} {N : Net} {k φ : ℕ} {lab : ℕ → ℤ} → Sound N → LeastIn M N k φ lab → Falling N φ lab
least-falling {M} {N} {k} {φ} {lab} s l v g p i = go (input_or_gate N p.src (s.pin v g p i))
  where
    go : IsInput N p.src ⊎ IsGate N p.src → (lab p.src -ℤ pos (φ * p.count)) ≤ℤ lab v
    go (inl n) =
        let a = pin-input N k φ s lab v p l.labelling g i n in
        let e = l.labelling.inputs p.src n in
        omega (arith, ints, height-parts φ (pos 0) p.count, sub_parts (lab p.src) (pos (φ * p.count)))
    go (inr gs) =
        let B = pin_lemma N k φ s lab v p l.labelling g i gs in
        let a = ≤ℤ_trans (l.least B.label B.labelling p.src gs) B.at in
        omega (arith, ints, +-parts (lab v) (pos (φ * p.count)), sub_parts (lab p.src) (pos (φ * p.count)))

-- a separation with fewest leaves and smallest cone has the leaves of the chosen cut
separated_leaves : (M : Mode) {N : Net} {v φ k r border : ℕ} {lab : ℕ → ℤ} {h : ℤ} (w : Separated N v φ lab h border k r) → Ranked N → Bordered (Inside M φ h) (k * reach_of N) border → Falling N φ lab
    → {K : LowCutIn M N k φ lab v h} → Chosen N k v (Low φ lab h) (Inside M φ h) K → w.parted.leaves ≡ K.leaves
unfolding told-cut separation-cut
separated_leaves M w R near falling c = chosen-leaves (told_chosen w falling M near R) c

-- ---- what is asked of `chosen`, and what it tells

holds_of : {s : Extent} {net : List ℕ} (b : ℕ) (slots : List ℕ) {N : Net} → Holds (packed_of s net []) N → Holds (packed_of (bordered s b) net slots) N
holds_of b slots H = record { inputs = H.inputs; gates = H.gates; lists = H.lists }

module _ {M : Mode} {φ : ℕ} {h : ℤ} {s e : Extent} (B : Bordering M φ h s e) {net slots : List ℕ} {ls : List ℤ} {k : ℕ} where
  pub asks_of : (g : ℕ) → Asking (packed_of s net []) ls φ k → g < s.gates → Asks (packed_of e net slots) ls φ k g
  asks_of g a l =
      subst (λ (x : Extent). Asks (packed_of x net slots) ls φ k g) (sym (bordering_is B))
      (record { labels = a.labels; small = a.small; shift = a.shift; gate = l; least = a.least; limit = a.few; fits = a.fits })

  pub takes_of : {nodes backs : List ℕ} → Asking (packed_of s net []) ls φ k → length nodes ≡ stride → length backs ≡ stride → Takes (packed_of e net slots) k nodes backs
  takes_of {nodes} {backs} a p q =
      subst (λ (x : Extent). Takes (packed_of x net slots) k nodes backs) (sym (bordering_is B))
      (record { net = a.net; holds = holds_of e.border slots a.holds; ranked = a.ranked; loopless = a.loopless; at_nodes = omega (arith, a.few, p); at_backs = omega (arith, a.few, q) })

module _ {M : Mode} (s : Extent) (net slots : List ℕ) (b : ℕ) {ls : List ℤ} {φ k : ℕ} (g : ℕ) (gate : g < s.gates) (c : Keyed M (packed_of s net []) ls φ k) where
  abbrev v : ℕ
  v = s.inputs + g

  label_is : c.key.label ≡ label_in ls
  label_is = fun_ext c.label

  is_gate : IsGate c.net v
  is_gate = gate-of c.holds g gate

  module _ {h : ℤ} (e : h ≡ label_in ls v) (border : BorderTold M φ h s.border b) where
    -- the border says what the mode asks of members
    near : Bordered (Inside M φ h) (k * reach_of c.net) b
    near = border.bordered _ c.border (subst (Topped M φ) (c.label v ∙ sym e) (labelling-top c.key.least.labelling v is_gate))

    key-cut : LowCutIn M c.net k φ (label_in ls) v h
    key-cut =
        subst (LowCutIn M c.net k φ (label_in ls) v) (sym e)
        (subst (λ (lab : ℕ → ℤ). LowCutIn M c.net k φ lab v (lab v)) label_is (c.key.cut v is_gate))

    -- **There is a cut,**
    pub told-few : {found : Bool} → Decides (packed_of (bordered s b) net slots) ls φ k g h found → found ≡ true
    told-few {found = true} a = refl
    told-few {found = false} a = absurd (a.none c.net (holds_of b slots c.holds) c.ranked c.loopless M h near refl key-cut)

    -- **and its leaves are the key's.**
    pub told-leaves : {r : ℕ} {nodes backs : List ℕ} → r ≤ k → Written (packed_of (bordered s b) net slots) ls φ k g h nodes backs r → copies_from nodes backs 0 r ≡ c.key.leaves v
    told-leaves {r} {nodes} {backs} few w =
        let x = w.leaves c.net (holds_of b slots c.holds) c.ranked c.loopless few in
        let y = subst (λ (z : ℤ). (p : Separated c.net v φ (label_in ls) z b k r) × (p.parted.leaves ≡ copies_from nodes backs 0 r)) e x in
        let z = subst (λ (lab : ℕ → ℤ). (p : Separated c.net v φ lab (lab v) b k r) × (p.parted.leaves ≡ copies_from nodes backs 0 r)) (sym label_is) y in
        let t = subst (λ (z : ℤ). Bordered (Inside M φ z) (k * reach_of c.net) b) (e ∙ sym (c.label v)) near in
        sym z.1 ∙ separated_leaves M z.0 c.ranked t (least-falling c.sound c.key.least) (c.key.chosen v is_gate) ∙ sym (c.key.is_leaves v is_gate)

-- copies at other places that have the same nodes and d's
pub copies-same : (nodes backs nodes' backs' : List ℕ) (at at' n : ℕ) → ((i : ℕ) → i < n → get_or nodes (at + i) 0 ≡ get_or nodes' (at' + i) 0)
    → ((i : ℕ) → i < n → get_or backs (at + i) 0 ≡ get_or backs' (at' + i) 0) → copies_from nodes backs at n ≡ copies_from nodes' backs' at' n
unfolding copies_from
copies-same nodes backs nodes' backs' at at' zero f g = refl
copies-same nodes backs nodes' backs' at at' (suc n) f g =
    λ i. copy (first nodes nodes' f i) (first backs backs' g i) ∷ copies-same nodes backs nodes' backs' (suc at) (suc at') n (next nodes nodes' f) (next backs backs' g) i
  where
    first : (xs ys : List ℕ) → ((i : ℕ) → i < suc n → get_or xs (at + i) 0 ≡ get_or ys (at' + i) 0) → get_or xs at 0 ≡ get_or ys at' 0
    first xs ys f = ap (λ (x : ℕ). get_or xs x 0) (sym (add-zero at)) ∙ f 0 (omega arith) ∙ ap (λ (x : ℕ). get_or ys x 0) (add-zero at')

    next : (xs ys : List ℕ) → ((i : ℕ) → i < suc n → get_or xs (at + i) 0 ≡ get_or ys (at' + i) 0) → (i : ℕ) → i < n → get_or xs (suc at + i) 0 ≡ get_or ys (suc at' + i) 0
    next xs ys f i h = ap (λ (x : ℕ). get_or xs x 0) (omega arith) ∙ f (suc i) (omega arith) ∙ ap (λ (x : ℕ). get_or ys x 0) (omega arith)
