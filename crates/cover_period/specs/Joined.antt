-- Covers and labels joined: a target is reachable if and only if some cover meets it; the least period exists; no cover has smaller lags than the labels'.
use Rattle.std.specs.Prelude.{◌≡◌, refl, List, [], ◌∷◌, map, ◌⊎◌, ◌↔◌, ℕ, zero, suc, ◌+◌, ◌*◌, ◌≤◌, ◌<◌, ℤ, pos, ◌+ℤ◌, ◌-ℤ◌, ◌*ℤ◌, length, ◌≤ℤ◌}
use Rattle.std.proofs.Common.{sym, subst, ap, ◌∙◌, inl, inr, suc-le-suc, zero-le, le_trans, mul-one, mul-le-mul_left, arith}
use Rattle.integers.specs.Parts.{ints, +-parts, sub_parts, *-parts}
use Rattle.integers.specs.Lag.{lag}
use Rattle.integers.proofs.Lag.{lag-parts, lag-step}
use Rattle.integers.specs.Height.{height}
use Rattle.integers.proofs.Height.{height-parts}
use Rattle.sequences.specs.Member.{◌∈◌}
use Rattle.sequences.specs.Decide.{dec_map, least}
use Rattle.sequences.specs.Decide as Decide
use Rattle.net_model.specs.Net.{Net, Pin, IsGate, IsInput, pins}
use Rattle.net_model.specs.Checks.{Passed, Drives}
use Rattle.net_model.specs.Copies.{Copy, copy}
use Rattle.cone_theory.specs.Basics.{is_gate?}
use Rattle.cone_theory.specs.CopyOrder.{Levels, levels}
use Rattle.label_theory.specs.Labels.{Mode, plain, forward, LeastIn, Least, ReachableIn, Reachable}
use Rattle.label_theory.specs.Lower.{input_or_gate}
use Rattle.label_bounds.specs.Bounds.{alone-cut}
use Rattle.label_bounds.specs.LabelDecision.{reachable?, labelling_reaches}
use Rattle.cover_theory.specs.Covers.{Cover, lut, IsCover, Meets, Met, RootedAt}
use Rattle.cover_theory.specs.Forward.{Suited, ForwardMet}
use Rattle.cover_theory.specs.Key.{KeyIn, Key, entries, as_cover}
use Rattle.cover_theory.specs.Depths.{depth, depth_low, depth-high}
use Rattle.cover_theory.proofs.CoverLabels.{label, arrival, label-root, cover-labelling, cover-outputs}
use Rattle.cover_period.specs.Written.{labelled-cover, labelled-meets, labelled-suited}
use Rattle.cover_period.specs.KeyOf.{key_of, key-labelled}

module _ {N : Net} {k : ℕ} (P : Passed N k) {φ : ℕ} (pos_φ : 1 ≤ φ) where
  module _ {M : Mode} where
    -- **A key's written cover is a cover in the general sense, and it meets φ.**
    pub key-met : (K : KeyIn M N k φ) → IsCover N k (as_cover N (entries K)) × Meets N (as_cover N (entries K)) φ
    key-met K = (
      labelled-cover P.sound pos_φ K.least.labelling.inputs (key-labelled K) K.outputs,
      labelled-meets P.sound pos_φ K.least.labelling.inputs (key-labelled K),
    )

    -- **It suits the mode**: in forward mode it is a forward cover.
    pub key-suited : (K : KeyIn M N k φ) → Suited M N (as_cover N (entries K))
    key-suited K = labelled-suited P.sound pos_φ K.least.labelling.inputs (key-labelled K)

    -- a key is as good as reachability
    pub key-reachable : KeyIn M N k φ → ReachableIn M N k φ
    key-reachable K = record { label = K.label; least = K.least; outputs = K.outputs }

    -- **A cover that meets φ and suits the mode makes it reachable, by labels.**
    pub cover-reachable : {K : Cover} → IsCover N k K → Meets N K φ → Suited M N K → ReachableIn M N k φ
    cover-reachable c m s = labelling_reaches P φ (label P c φ pos_φ m) (cover-labelling P c φ pos_φ m M s) (cover-outputs P c φ pos_φ m)

    -- **Least lags**: no cover that meets φ and suits the mode gives a LUT of root v a smaller lag than the least labelling's.
    pub least-lags_in : {lab : ℕ → ℤ} → LeastIn M N k φ lab → {K : Cover} → IsCover N k K → Meets N K φ → Suited M N K
        → (v i : ℕ) → IsGate N v → RootedAt K v i → lag φ (lab v) ≤ℤ (lut K i).lag
    unfolding arrival
    least-lags_in {lab} l {K} c m s v i g r =
        let a = l.least (label P c φ pos_φ m) (cover-labelling P c φ pos_φ m M s) v g in
        let b = label-root P c φ pos_φ m v i g r in
        let d = depth-high N K φ pos_φ m i in
        let p = lag-parts φ pos_φ (lab v) in
        let q = (lut K i).lag in
        lag-step φ (lag φ (lab v)) q
        (omega (arith, ints, p.0, p.1, +-parts (pos φ *ℤ q) (pos (depth N K φ pos_φ m i)), *-parts φ q))

  pub key_meets : Key N k φ → Met N k φ
  key_meets K = record { cover = as_cover N (entries K); is_cover = (key-met K).0; meets = (key-met K).1 }

  -- **Reachable, by labels, is met, by covers.**
  pub reachable-met : Reachable N k φ → Met N k φ
  reachable-met r = key_meets (key_of P r)

  -- **Met, by a cover, is reachable, by labels.**
  pub met-reachable : Met N k φ → Reachable N k φ
  met-reachable m = cover-reachable m.is_cover m.meets (λ i h C ic il x n. tt)

  -- **A target is reachable if and only if some cover meets it.**
  pub joined : Reachable N k φ ↔ Met N k φ
  joined = (reachable-met, met-reachable)

  -- whether there is a key, in a mode
  unfoldable pub key_in? : (M : Mode) → Dec (KeyIn M N k φ)
  key_in? M = dec_map (key_of P) key-reachable (reachable? P φ)

  abbrev pub key? : Dec (Key N k φ)
  key? = key_in? plain

  unfoldable pub met? : Dec (Met N k φ)
  met? = dec_map reachable-met met-reachable (reachable? P φ)

  -- ---- the same in forward mode, of forward covers

  pub forward-key-meets : KeyIn forward N k φ → ForwardMet N k φ
  forward-key-meets K = record { cover = as_cover N (entries K); is_cover = (key-met K).0; meets = (key-met K).1; forward = key-suited K }

  pub reachable-forward : ReachableIn forward N k φ → ForwardMet N k φ
  reachable-forward r = forward-key-meets (key_of P r)

  pub forward-reachable : ForwardMet N k φ → ReachableIn forward N k φ
  forward-reachable m = cover-reachable m.is_cover m.meets m.forward

  -- **A target is reachable in forward mode if and only if some forward cover, with copies, meets it.**
  pub forward-joined : ReachableIn forward N k φ ↔ ForwardMet N k φ
  forward-joined = (reachable-forward, forward-reachable)

  pub least-lags : {lab : ℕ → ℤ} → Least N k φ lab → {K : Cover} → IsCover N k K → Meets N K φ → (v i : ℕ) → IsGate N v → RootedAt K v i → lag φ (lab v) ≤ℤ (lut K i).lag
  least-lags l c m v i g r = least-lags_in l c m (λ j h C ic il x n. tt) v i g r

-- a cover that meets φ meets every larger period
pub met-more : {N : Net} {k φ ψ : ℕ} → φ ≤ ψ → Met N k φ → Met N k ψ
met-more le m = record { cover = m.cover; is_cover = m.is_cover; meets = λ i n h c. le_trans (m.meets i n h c) le }
