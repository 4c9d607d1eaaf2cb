-- Units of flow: each copy outside the forced set carries none, or one that came in by one of its pins, at a terminal from outside. A unit leaves its
-- copy into the forced set, and the copy is an entry, or to its successor, the one copy whose inflow pin reads it. A copy that waits
-- for its unit to be taken on counts as one more entry.
use Rattle.std.specs.Prelude.{◌≡◌, ◌⊎◌, List, ℕ, suc, ◌<◌}
use Rattle.std.proofs.Common.{sym, ap, subst, ◌∙◌, arith}
use Rattle.sequences.specs.Member.{◌∈◌}
use Rattle.sequences.specs.Distinct.{Distinct}
use Rattle.cut_flow.specs.Graph.{Graph, Feeding}

-- The unit of x came in by pin j: `flow x` is 0 for none, j + 1 for pin j, and any positive number at a terminal.
pub record Fed (G : Graph) (flow : ℕ → ℕ) (x j : ℕ) : Type 0 where
  pub pin : flow x ≡ suc j
  pub below : j < G.pins x

-- x is a successor of y.
pub record Next (G : Graph) (flow : ℕ → ℕ) (y x : ℕ) : Type 0 where
  pub by : ℕ
  pub fed : Fed G flow x by
  pub source : G.source x by ≡ y

pub record State (G : Graph) (flow : ℕ → ℕ) (E : List ℕ) : Type 0 where
  pub inflow : (x : ℕ) → 0 < flow x → G.terminal x ≡ 0 → (j : ℕ) × Fed G flow x j
  pub carried : (x j : ℕ) → Fed G flow x j → 0 < flow (G.source x j)
  pub apart : (x : ℕ) → 0 < flow x → G.forced x ≡ 0
  pub single : (x y i j : ℕ) → Fed G flow x i → Fed G flow y j → G.source x i ≡ G.source y j → x ≡ y
  pub distinct : Distinct E
  pub entry : (e : ℕ) → e ∈ E → 0 < flow e
  pub free : (x j : ℕ) → Fed G flow x j → ¬ (G.source x j ∈ E)
  pub leaves : (y : ℕ) → 0 < flow y → (y ∈ E) ⊎ ((x : ℕ) × Next G flow y x)

module _ {G : Graph} {flow : ℕ → ℕ} where
  pub next-feeds : {y x : ℕ} → Next G flow y x → Feeding G y x
  next-feeds n = record { pin = n.by; below = n.fed.below; source = n.source }

  pub fed-at : {x y i j : ℕ} → x ≡ y → Fed G flow x i → Fed G flow y j → G.source x i ≡ G.source y j
  fed-at {x} {y} {i} {j} e f g =
      let p : flow x ≡ flow y = ap flow e in
      let q : i ≡ j = omega (arith, f.pin, g.pin) in
      ap (λ (z : ℕ). G.source z i) e ∙ ap (G.source y) q

  module _ {E : List ℕ} (s : State G flow E) where
    -- A copy has one successor.
    pub next_one : {y x z : ℕ} → Next G flow y x → Next G flow y z → x ≡ z
    next_one {x} {z} m n = s.single x z m.by n.by m.fed n.fed (m.source ∙ sym n.source)

    pub next-carried : {y x : ℕ} → Next G flow y x → 0 < flow y
    next-carried n = subst (λ (z : ℕ). 0 < flow z) n.source (s.carried _ _ n.fed)

    -- An entry has none.
    pub entry-last : {e x : ℕ} → e ∈ E → Next G flow e x → ⊥
    entry-last h n = s.free _ _ n.fed (subst (λ (z : ℕ). z ∈ E) (sym n.source) h)

-- f' is f but for the value v at x.
pub record Stored (f f' : ℕ → ℕ) (x v : ℕ) : Type 0 where
  pub at : f' x ≡ v
  pub other : (z : ℕ) → ¬ (z ≡ x) → f' z ≡ f z

pub stored_at : {f f' : ℕ → ℕ} {x v z : ℕ} → Stored f f' x v → z ≡ x → f' z ≡ v
stored_at {f'} s e = ap f' e ∙ s.at
