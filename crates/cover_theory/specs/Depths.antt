-- The depth of a LUT in a cover that meets φ: the longest chain that ends there, between 1 and φ.
use Rattle.std.specs.Prelude.{◌≡◌, List, [], ◌∷◌, ◌⊎◌, ℤ, pos, length}
use Rattle.std.proofs.Math.Path.{refl, subst}
use Rattle.std.proofs.Common.{sym, inl, inr}
use Prim.Native.Nat.{ℕ, zero, suc, ◌+◌, ◌≤◌, ◌<◌}
use Rattle.std.proofs.Math.Decide.{ℕ_discrete}
use native.Mathlib.Omega.{arith}
use Rattle.integers.specs.Order.{ℤ_dec}
use Rattle.sequences.specs.Member.{◌∈◌}
use Rattle.sequences.specs.Decide.{any?, dec-×, greatest, Greatest}
use Rattle.net_model.specs.Net.{Net, IsGate}
use Rattle.net_model.specs.Copies.{Copy}
use Rattle.cone_theory.specs.Basics.{is_gate?}
use Rattle.cover_theory.specs.Covers.{Cover, lut, registers, Chain, one, more, Meets}

module _ (N : Net) (K : Cover) where
  -- a leaf that makes a chain one LUT longer
  pub Longer : ℕ → ℕ → Copy → Type 0
  Longer i m y = IsGate N y.node × (registers N K i y ≡ pos 0) × Chain N K (K.feeder i y) m

  unfoldable pub longer-step : (i m : ℕ) (y : Copy) → Dec (IsGate N y.node) → Dec (registers N K i y ≡ pos 0) → Dec (Chain N K (K.feeder i y) m) → Dec (Longer i m y)
  unfolding Longer
  longer-step i m y (no n) b c = no (λ t. n t.0)
  longer-step i m y (yes a) (no n) c = no (λ t. n t.1)
  longer-step i m y (yes a) (yes b) (no n) = no (λ t. n t.2)
  longer-step i m y (yes a) (yes b) (yes c) = yes (a, b, c)

  unfoldable pub chain_step : (i m : ℕ) → Dec (suc m ≡ 1) → Dec ((y : Copy) × (y ∈ (lut K i).leaves) × Longer i m y) → Dec (Chain N K i (suc m))
  unfolding Longer
  chain_step i m (yes e) d = yes (one e)
  chain_step i m (no n) (yes t) = yes (more t.0 m t.1 t.2.0 t.2.1 refl t.2.2)
  chain_step i m (no n) (no n') = no none
    where
      none : Chain N K i (suc m) → ⊥
      none (one e) = n e
      none (more y m' h g r e c) =
          let q : m' ≡ m = omega arith in
          n' (y, h, (g, r, subst (Chain N K (K.feeder i y)) q c))

  pub no_empty_chain : (i n : ℕ) → n ≡ 0 → Chain N K i n → ⊥
  no_empty_chain i n z (one e) = omega arith
  no_empty_chain i n z (more y m h g r e c) = omega arith

  -- whether a chain of n LUTs ends in LUT i
  unfoldable pub chain? : (n i : ℕ) → Dec (Chain N K i n)
  unfolding chain_step longer-step
  chain? zero i = no (no_empty_chain i zero refl)
  chain? (suc m) i =
      chain_step i m (ℕ_discrete (suc m) 1) (any? (lut K i).leaves (λ y h. longer-step i m y (is_gate? N y.node) (ℤ_dec (registers N K i y) (pos 0)) (chain? m (K.feeder i y))))

  module _ (φ : ℕ) (pos_φ : 1 ≤ φ) (meets : Meets N K φ) where
    longest : (i : ℕ) → Greatest (Chain N K i) φ 1
    longest i = greatest (Chain N K i) (λ n. chain? n i) φ 1 pos_φ (one refl)

    pub depth : ℕ → ℕ
    depth i = (longest i).value

    pub depth_low : (i : ℕ) → 1 ≤ depth i
    unfolding depth
    depth_low i = (longest i).above

    pub depth-high : (i : ℕ) → depth i ≤ φ
    unfolding depth
    depth-high i = (longest i).bound

    -- over a connection without registers the depth rises
    pub depth-rises : (i : ℕ) → i < length K.luts → (y : Copy) → y ∈ (lut K i).leaves → IsGate N y.node → registers N K i y ≡ pos 0 → depth (K.feeder i y) < depth i
    unfolding depth
    depth-rises i h y m g r = go (Rattle.sequences.specs.Rising.ℕ_cmp (depth i) (depth (K.feeder i y)))
      where
        c : Chain N K i (suc (depth (K.feeder i y)))
        c = more y (depth (K.feeder i y)) m g r refl (longest (K.feeder i y)).holds

        above : depth i ≤ depth (K.feeder i y) → ⊥
        above le = (longest i).greatest (suc (depth (K.feeder i y))) (omega arith) (meets i (suc (depth (K.feeder i y))) h c) c

        go : (depth i < depth (K.feeder i y)) ⊎ ((depth i ≡ depth (K.feeder i y)) ⊎ (depth (K.feeder i y) < depth i)) → depth (K.feeder i y) < depth i
        go (inl lt) = absurd (above (omega arith))
        go (inr (inl e)) = absurd (above (omega arith))
        go (inr (inr lt)) = lt
