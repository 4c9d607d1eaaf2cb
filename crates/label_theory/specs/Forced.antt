-- The cut question as a separation: every cut no higher than a threshold contains the forced set, and what separates the forced set from inputs and from copies
-- beyond the border with fewest leaves answers it. The border is a parameter: for document 01 it is the reach.
use Rattle.std.specs.Prelude.{◌≡◌, refl, List, [], ◌∷◌, ◌⊎◌, ℕ, zero, suc, ◌+◌, ◌*◌, ◌≤◌, ◌<◌, ℤ, pos, ◌+ℤ◌, ◌-ℤ◌, length, ◌≤ℤ◌}
use Rattle.std.proofs.Common.{sym, subst, ap, ◌∙◌, inl, inr, arith}
use Rattle.integers.specs.Parts.{ints, sub_parts, scale}
use Rattle.integers.specs.Order.{≤ℤ?}
use Rattle.integers.specs.Height.{height}
use Rattle.integers.proofs.Height.{height-parts}
use Rattle.sequences.specs.Member.{◌∈◌, Within}
use Rattle.sequences.specs.Decide.{dec_stable}
use Rattle.net_model.specs.Net.{Net, Pin, IsGate, pins}
use Rattle.net_model.specs.Copies.{Copy, copy, Feeds, Leads, stop, step, IsCone, Leaf, IsLeaves, Cut, Chosen}
use Rattle.cone_theory.specs.Basics.{member?}
use Rattle.cone_theory.specs.Ranks.{Ranked}
use Rattle.cone_theory.specs.Reach.{reach_of, cut-reach}
use Rattle.label_theory.specs.Labels.{Low, Mode, Inside, LowCutIn}
use Rattle.label_theory.specs.Modes.{Bordered}

-- The copies that every cut with allowed leaves has in its cone: the root's, and what feeds one of them and is no allowed leaf.
pub data Forced (N : Net) (v : ℕ) (Allowed : Copy → Type 0) : Copy → Type 0 where
  root : {x : Copy} → x ≡ copy v 0 → Forced N v Allowed x
  behind : {y : Copy} (x : Copy) → Forced N v Allowed x → Feeds N y x → ¬ Allowed y → Forced N v Allowed y

-- A cone of v that contains the copies S and none beyond the border.
pub record Separation (N : Net) (v : ℕ) (S : List Copy) (border : ℕ) (C : List Copy) : Type 0 where
  pub is_cone : IsCone N v C
  pub contains : Within S C
  pub near : (x : Copy) → x ∈ C → x.back ≤ border

-- S lists the forced copies
pub record ForcedSet (N : Net) (v : ℕ) (Allowed : Copy → Type 0) (S : List Copy) : Type 0 where
  pub sound : (x : Copy) → x ∈ S → Forced N v Allowed x
  pub complete : (x : Copy) → Forced N v Allowed x → x ∈ S

module _ {N : Net} {v : ℕ} {A B : Copy → Type 0} {n : ℕ} (K : Cut N n v A B) where
  -- **Every cut contains the forced set.**
  pub forced-inside : {x : Copy} → Forced N v A x → x ∈ K.cone
  forced-inside (root e) = rw e K.is_cone.root
  forced-inside {x = y} (behind x f h na) = dec_stable (member? y K.cone) (λ out. na (K.allowed y (K.is_leaves.complete y (record {
    outside = out;
    member = x;
    is_member = forced-inside f;
    feeds = h;
  }))))

  -- so its cone is a separation, where the border leaves room for it
  pub cut-separates : {S : List Copy} (border : ℕ) → ForcedSet N v A S → ((x : Copy) → x ∈ K.cone → x.back ≤ border) → Separation N v S border K.cone
  cut-separates border s near = record { is_cone = K.is_cone; contains = λ x m. forced-inside (s.sound x m); near = near }

-- **With a border that is, up to the reach, what is asked of members, a cut is a separation.**
pub reach-separates : {N : Net} (R : Ranked N) {v k : ℕ} {A B : Copy → Type 0} {S : List Copy} (border : ℕ) → Bordered B (k * reach_of N) border → (K : Cut N k v A B) → ForcedSet N v A S → Separation N v S border K.cone
reach-separates {N} R {k = k} border near K s = cut-separates K border s (λ x m. near.within x (K.inside x m) (let a = cut-reach R K x m in omega arith))

-- **No cut**: where every separation has more than k leaves there is none.
pub no_cut_lem : {N : Net} (R : Ranked N) {v k : ℕ} {A B : Copy → Type 0} {S : List Copy} (border : ℕ) → Bordered B (k * reach_of N) border → ForcedSet N v A S
    → ((C L : List Copy) → Separation N v S border C → IsLeaves N C L → k < length L) → ¬ Cut N k v A B
no_cut_lem R border near s more K = let a = more K.cone K.leaves (reach-separates R border near K s) K.is_leaves in let b = K.few in omega arith

-- ---- labels that do not fall along pins

-- what a gate reads is, shifted by its registers, no higher than the gate
abbrev pub Falling : Net → ℕ → (ℕ → ℤ) → Type 0
Falling N φ lab = (v : ℕ) → IsGate N v → (p : Pin) → p ∈ pins N v → (lab p.src -ℤ pos (φ * p.count)) ≤ℤ lab v

-- then a copy behind an allowed one is allowed
pub behind-allowed : (N : Net) (φ : ℕ) (lab : ℕ → ℤ) (h : ℤ) {y x : Copy} → Falling N φ lab → Feeds N y x → Low φ lab h x → Low φ lab h y
behind-allowed N φ lab h {y} {x} f e a =
    let q = e.pin in
    let b = f x.node e.gate q e.is_pin in
    let s : lab y.node ≡ lab q.src = ap lab e.source in
    let d : y.back ≡ x.back + q.count = e.depth in
    omega (arith, ints, height-parts φ (lab y.node) y.back, height-parts φ (lab x.node) x.back, sub_parts (lab q.src) (pos (φ * q.count)), scale φ d)

module _ (N : Net) (v φ : ℕ) (lab : ℕ → ℤ) (h : ℤ) (S C : List Copy) (border : ℕ) (falling : Falling N φ lab) (s : ForcedSet N v (Low φ lab h) S)
    (sep : Separation N v S border C) where
  allowed? : (y : Copy) → Dec (Low φ lab h y)
  allowed? y = ≤ℤ? (height φ (lab y.node) y.back) h

  -- what feeds a forced copy is forced or allowed
  next : (y x : Copy) → Feeds N y x → (x ∈ S) ⊎ Low φ lab h x → (y ∈ S) ⊎ Low φ lab h y
  next y x f (inr a) = inr (behind-allowed N φ lab h falling f a)
  next y x f (inl m) = go (allowed? y)
    where
      go : Dec (Low φ lab h y) → (y ∈ S) ⊎ Low φ lab h y
      go (yes a) = inr a
      go (no n) = inl (s.complete y (behind x (s.sound x m) f n))

  -- every member is forced or allowed
  member_kind : {x : Copy} → Leads N C (copy v 0) x → (x ∈ S) ⊎ Low φ lab h x
  member_kind (stop e) = inl (s.complete _ (root e))
  member_kind {x} (step z m f l) = next x z f (member_kind l)

  -- **every leaf is allowed**
  pub leaf-allowed : (y : Copy) → Leaf N C y → Low φ lab h y
  leaf-allowed y l = go (next y l.member l.feeds (member_kind (sep.is_cone.leads l.member l.is_member)))
    where
      go : (y ∈ S) ⊎ Low φ lab h y → Low φ lab h y
      go (inl m) = absurd (l.outside (sep.contains y m))
      go (inr a) = a

  -- **A separation with few leaves is a cut.**
  unfoldable pub separation-cut : (M : Mode) {reach : ℕ} → Bordered (Inside M φ h) reach border → (k : ℕ) {L : List Copy} → IsLeaves N C L → length L ≤ k → LowCutIn M N k φ lab v h
  separation-cut M near k {L} l few = record {
    cone = C;
    leaves = L;
    is_cone = sep.is_cone;
    is_leaves = l;
    few = few;
    allowed = λ y m. leaf-allowed y (l.sound y m);
    inside = λ x m. near.inside x (sep.near x m);
  }

  -- **The separation with fewest leaves and smallest cone is the chosen cut.**
  pub separation-chosen : (R : Ranked N) (M : Mode) (k : ℕ) (near : Bordered (Inside M φ h) (k * reach_of N) border) {L : List Copy} (l : IsLeaves N C L) (few : length L ≤ k)
      → ((C' L' : List Copy) → Separation N v S border C' → IsLeaves N C' L' → length L ≤ length L')
      → ((C' L' : List Copy) → Separation N v S border C' → IsLeaves N C' L' → length L' ≡ length L → Within C C')
      → Chosen N k v (Low φ lab h) (Inside M φ h) (separation-cut M near k l few)
  unfolding separation-cut
  separation-chosen R M k near l few fewest smallest = record {
    fewest = λ J. fewest J.cone J.leaves (reach-separates R border near J s) J.is_leaves;
    smallest = λ J e. smallest J.cone J.leaves (reach-separates R border near J s) J.is_leaves e;
  }
