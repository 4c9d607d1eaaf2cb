-- Lower bounds of all labellings: where one has a cut of its own height at every gate it is the least labelling; where a gate has none it may be raised; above a ceiling it refutes.
use Rattle.std.specs.Prelude.{◌≡◌, ◌⊎◌, ℕ, suc, ◌+◌, ◌*◌, ◌≤◌, ◌<◌, ℤ, ◌+ℤ◌, ◌-ℤ◌, ◌≤ℤ◌, ◌<ℤ◌}
use Rattle.std.proofs.Math.Path.{refl, subst}
use Rattle.std.proofs.Common.{sym, ap, inl, inr, arith}
use mathlib.Core.List.{List, [], ◌∷◌}
use Rattle.std.proofs.Math.Decide.{ℕ_discrete}
use Rattle.std.proofs.Math.IntN.{pos}
use lib.ListN.{length}
use Rattle.std.specs.Int.Signed.{≤ℤ_refl}
use Rattle.integers.specs.Parts.{ints, +-parts, sub_parts, scale}
use Rattle.integers.specs.Order.{≤ℤ_trans, ≤ℤ_total, ≤ℤ_antisym}
use Rattle.integers.specs.Height.{height}
use Rattle.integers.proofs.Height.{height-parts}
use Rattle.sequences.specs.Member.{◌∈◌, here, there, not_in_nil}
use Rattle.net_model.specs.Net.{Net, Pin, IsGate, IsInput, IsNode, pins}
use Rattle.net_model.specs.Checks.{Sound, Fits}
use Rattle.net_model.specs.Copies.{Copy, copy, Feeds, Leads, IsCone, Leaf, IsLeaves, Cut}
use Rattle.net_model.specs.Tables.{feeding}
use Rattle.cone_theory.specs.Basics.{leaves_of, leaves-distinct, feeds_in}
use Rattle.sequences.specs.Distinct.{pigeonhole}
use Rattle.label_theory.specs.Labels.{Low, Mode, plain, Inside, LowCutIn, LabellingIn, LeastIn, OutputsMet}
use Rattle.label_theory.specs.Modes.{Topped, topped-inside}
use Rattle.label_theory.specs.Lower.{Under, InputsZero, input_or_gate, relabel, replace, replace-same, replace-other, replace-inputs}
use Rattle.label_theory.proofs.Pins.{BelowIn, pin_lemma, pin-input, OutPath, ceiling}

-- `lo` is 0 at inputs and nowhere above any labelling
pub record LowerBoundIn (M : Mode) (N : Net) (k φ : ℕ) (lo : ℕ → ℤ) : Type 0 where
  pub inputs : InputsZero N lo
  pub below : (lab : ℕ → ℤ) → LabellingIn M N k φ lab → Under N lo lab

abbrev pub LowerBound : Net → ℕ → ℕ → (ℕ → ℤ) → Type 0
LowerBound = LowerBoundIn plain

-- every gate has a cut of the height of its number
abbrev pub SettledIn : Mode → Net → ℕ → ℕ → (ℕ → ℤ) → Type 0
SettledIn M N k φ lo = (v : ℕ) → IsGate N v → LowCutIn M N k φ lo v (lo v)

abbrev pub Settled : Net → ℕ → ℕ → (ℕ → ℤ) → Type 0
Settled = SettledIn plain

-- **A settled lower bound is the least labelling.**
pub settled-least : {M : Mode} {N : Net} (k φ : ℕ) {lo : ℕ → ℤ} → LowerBoundIn M N k φ lo → SettledIn M N k φ lo → LeastIn M N k φ lo
settled-least k φ b s = record { labelling = record { inputs = b.inputs; gates = s }; least = b.below }

module _ {M : Mode} (N : Net) (k φ : ℕ) (sound : Sound N) where
  -- a gate without a cut of its number's height: every labelling is above it there
  pub above : (lo : ℕ → ℤ) (v : ℕ) → LowerBoundIn M N k φ lo → IsGate N v → ¬ LowCutIn M N k φ lo v (lo v) → (lab : ℕ → ℤ) → LabellingIn M N k φ lab → lo v <ℤ lab v
  above lo v b g n lab l = go (≤ℤ_total (lab v) (lo v))
    where
      go : (lab v ≤ℤ lo v) ⊎ (lo v <ℤ lab v) → lo v <ℤ lab v
      go (inl h) = absurd (n (subst (LowCutIn M N k φ lo v) (≤ℤ_antisym h (b.below lab l v g)) (relabel N k φ sound M v b.inputs l.inputs (b.below lab l) (l.gates v g))))
      go (inr h) = h

  -- a gate's number may be replaced by anything that every labelling reaches there
  pub raised : (lo : ℕ → ℤ) (v : ℕ) (h : ℤ) → LowerBoundIn M N k φ lo → IsGate N v → ((lab : ℕ → ℤ) → LabellingIn M N k φ lab → h ≤ℤ lab v) → LowerBoundIn M N k φ (replace lo v h)
  raised lo v h b g f = record { inputs = replace-inputs N k φ sound lo v h g b.inputs; below = λ lab l u i. go lab l u i (ℕ_discrete u v) }
    where
      go : (lab : ℕ → ℤ) → LabellingIn M N k φ lab → (u : ℕ) → IsGate N u → Dec (u ≡ v) → replace lo v h u ≤ℤ lab u
      go lab l u i (yes e) = rw e (rw (replace-same lo v h) (f lab l))
      go lab l u i (no n) = rw (replace-other lo v h u n) (b.below lab l u i)

  -- **Raise**: without a cut of its number's height a gate's number may rise by 1.
  pub raise : (lo : ℕ → ℤ) (v : ℕ) → LowerBoundIn M N k φ lo → IsGate N v → ¬ LowCutIn M N k φ lo v (lo v) → LowerBoundIn M N k φ (replace lo v (lo v +ℤ pos 1))
  raise lo v b g n = raised lo v (lo v +ℤ pos 1) b g (λ lab l. let a = above lo v b g n lab l in omega (arith, ints, +-parts (lo v) (pos 1)))

  -- **A lower bound above a ceiling refutes**: no labelling meets the outputs.
  pub refutes : (lo : ℕ → ℤ) (v c : ℕ) → LowerBoundIn M N k φ lo → IsGate N v → OutPath N v c → pos (φ * suc c) <ℤ lo v
      → (lab : ℕ → ℤ) → LabellingIn M N k φ lab → ¬ OutputsMet N φ lab
  refutes lo v c b g path h lab l m =
      let B = ceiling N k φ sound lab l m g path in
      let a = B.at in
      let d = b.below B.label B.labelling v g in
      omega (arith, ints)

-- ---- the new label of a visited gate is p or p + 1

module _ (N : Net) (k φ : ℕ) (sound : Sound N) where
  -- p is at least lo(u) − φ·w for each pin (u, w) of v
  abbrev pub PinsReach : (ℕ → ℤ) → ℕ → ℤ → Type 0
  PinsReach lo v p = (q : Pin) → q ∈ pins N v → (lo q.src -ℤ pos (φ * q.count)) ≤ℤ p

module _ {M : Mode} (N : Net) (k φ : ℕ) (sound : Sound N) where
  -- **every labelling reaches lo(u) − φ·w at v**, for each pin (u, w) of v
  pub pin-bound : (lo : ℕ → ℤ) (v : ℕ) (q : Pin) → LowerBoundIn M N k φ lo → IsGate N v → q ∈ pins N v → (lab : ℕ → ℤ) → LabellingIn M N k φ lab
      → (lo q.src -ℤ pos (φ * q.count)) ≤ℤ lab v
  pin-bound lo v q b g i lab l = go (input_or_gate N q.src (sound.pin v g q i))
    where
      go : IsInput N q.src ⊎ IsGate N q.src → (lo q.src -ℤ pos (φ * q.count)) ≤ℤ lab v
      go (inl h) =
          let a = pin-input N k φ sound lab v q l g i h in
          let z = b.inputs q.src h in
          omega (arith, ints, height-parts φ (pos 0) q.count, sub_parts (lo q.src) (pos (φ * q.count)))
      go (inr h) =
          let B = pin_lemma N k φ sound lab v q l g i h in
          let a = B.at in
          let d = b.below B.label B.labelling q.src h in
          omega (arith, ints, +-parts (lab v) (pos (φ * q.count)), sub_parts (lo q.src) (pos (φ * q.count)))

module _ (N : Net) (k φ : ℕ) (sound : Sound N) where
  -- the cone of the gate alone
  alone : ℕ → List Copy
  alone v = copy v 0 ∷ []

  alone-cone : (v : ℕ) → IsGate N v → IsCone N v (alone v)
  unfolding alone
  alone-cone v g = record { gates = gates; root = here refl; leads = leads }
    where
      gates : (c : Copy) → c ∈ copy v 0 ∷ [] → IsGate N c.node
      gates c (here e) = rw e g
      gates c (there h) = absurd (not_in_nil h)

      leads : (c : Copy) → c ∈ copy v 0 ∷ [] → Leads N (copy v 0 ∷ []) (copy v 0) c
      leads c (here e) = Leads.stop e
      leads c (there h) = absurd (not_in_nil h)

  -- **The gate alone is a k-cut of height p + 1.**
  pub alone-cut : (M : Mode) (lo : ℕ → ℤ) (v : ℕ) (p : ℤ) → Fits N k → IsGate N v → PinsReach N k φ sound lo v p → Topped M φ (p +ℤ pos 1) → LowCutIn M N k φ lo v (p +ℤ pos 1)
  unfolding alone
  alone-cut M lo v p fits g reach top = record {
    cone = alone v;
    leaves = (leaves_of N (alone v)).0;
    is_cone = alone-cone v g;
    is_leaves = (leaves_of N (alone v)).1;
    few = few;
    allowed = λ y h. allowed y ((leaves_of N (alone v)).1.sound y h);
    inside = members;
  }
    where
      members : (x : Copy) → x ∈ copy v 0 ∷ [] → Inside M φ (p +ℤ pos 1) x
      members x (here e) = subst (Inside M φ (p +ℤ pos 1)) (sym e) (topped-inside M φ (p +ℤ pos 1) v top)
      members x (there h) = absurd (not_in_nil h)

      root-of : (y : Copy) → (l : Leaf N (alone v) y) → Feeds N y (copy v 0)
      root-of y l = go l.member l.is_member l.feeds
        where
          go : (m : Copy) → m ∈ copy v 0 ∷ [] → Feeds N y m → Feeds N y (copy v 0)
          go m (here e) f = subst (Feeds N y) e f
          go m (there h) f = absurd (not_in_nil h)

      few : length (leaves_of N (alone v)).0 ≤ k
      few =
          let a = pigeonhole (leaves-distinct (leaves_of N (alone v)).1) (λ y h. feeds_in (root-of y ((leaves_of N (alone v)).1.sound y h))) in
          let b = fits v g in
          let c = lib.ListN.length-map (pins N v) (λ (q : Pin). copy q.src (0 + q.count)) in
          omega arith

      allowed : (y : Copy) → Leaf N (alone v) y → height φ (lo y.node) y.back ≤ℤ (p +ℤ pos 1)
      allowed y l =
          let f = root-of y l in
          let q = f.pin in
          let a = reach q f.is_pin in
          let e : y.back ≡ q.count = let d = f.depth in omega arith in
          let t : lo y.node ≡ lo q.src = ap lo f.source in
          omega (arith, ints, height-parts φ (lo y.node) y.back, scale φ e, sub_parts (lo q.src) (pos (φ * q.count)), +-parts p (pos 1))

  -- its leaves are what feeds the gate
  pub alone-leaves : (M : Mode) (lo : ℕ → ℤ) (v : ℕ) (p : ℤ) (fits : Fits N k) (g : IsGate N v) (reach : PinsReach N k φ sound lo v p) (top : Topped M φ (p +ℤ pos 1))
      → (leaves_of N (copy v 0 ∷ [])).0 ≡ (alone-cut M lo v p fits g reach top).leaves
  unfolding alone-cut alone
  alone-leaves M lo v p fits g reach top = refl
