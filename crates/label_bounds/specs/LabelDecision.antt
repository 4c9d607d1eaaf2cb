-- Reachability is decided: from the floor, raise any gate that lacks a cut, until none does or one passes its ceiling. Nothing counts the raises:
-- what is left below the ceilings falls.
use Rattle.std.specs.Prelude.{◌≡◌, List, [], ◌∷◌, ◌⊎◌, ℤ, ◌+ℤ◌, ◌-ℤ◌, length, ◌≤ℤ◌, ◌<ℤ◌}
use Rattle.std.proofs.Math.Path.{refl}
use Rattle.std.proofs.Common.{sym, subst, inl, inr, not-suc-le-zero, arith}
use Prim.Native.Nat.{ℕ, zero, suc, ◌+◌, ◌*◌, ◌≤◌, ◌<◌}
use Rattle.std.proofs.Math.Decide.{ℕ_discrete}
use Rattle.std.proofs.Math.IntN.{pos}
use Rattle.std.specs.Int.Signed.{≤ℤ_refl}
use Rattle.integers.specs.Parts.{up, ints, +-parts, sub_parts, pos-up}
use Rattle.integers.specs.Order.{≤ℤ_trans, ≤ℤ_total, ≤ℤ?}
use Rattle.integers.specs.Height.{height}
use Rattle.integers.proofs.Height.{height-parts}
use Rattle.sequences.specs.Member.{◌∈◌, here, there, not_in_nil}
use Rattle.sequences.specs.Decide.{all?, not-all}
use Rattle.sequences.specs.Distinct.{remove, remove-within}
use Rattle.sequences.specs.Sum.{sum, sum_mono, sum-remove}
use Rattle.net_model.specs.Net.{Net, Pin, IsGate, IsInput, IsNode, pins}
use Rattle.net_model.specs.Checks.{Sound, Fits, Passed}
use Rattle.net_model.specs.Copies.{Copy, Cut}
use Rattle.cone_theory.specs.Basics.{is_gate?}
use Rattle.cone_theory.specs.FewCopies.{gate_numbers, in_gate_numbers, gate_numbers_in}
use Rattle.cone_theory.specs.Ranks.{Ranked, ranked}
use Rattle.cone_theory.specs.Reach.{reach_of}
use Rattle.cut_theory.specs.CutDecision.{cut?}
use Rattle.label_theory.specs.Labels.{Low, Mode, plain, LowCutIn, LabellingIn, LeastIn, OutputsMet, ReachableIn, Reachable}
use Rattle.label_theory.specs.Modes.{inside?}
use Rattle.label_theory.specs.Lower.{Under, InputsZero, replace, replace-same, replace-other, outputs-under}
use Rattle.label_theory.proofs.Pins.{OutPath, out-path}
use Rattle.label_bounds.specs.Floor.{floor}
use Rattle.label_bounds.specs.Bounds.{LowerBoundIn, settled-least, raise, refutes}

-- ---- the cut question

-- whether gate v has a k-cut of height at most h under lab
unfoldable pub low_cut? : (M : Mode) (N : Net) (k φ : ℕ) → Ranked N → (lab : ℕ → ℤ) (v : ℕ) (h : ℤ) → Dec (LowCutIn M N k φ lab v h)
unfolding inside?
low_cut? M N k φ R lab v h = cut? (λ y. ≤ℤ? (height φ (lab y.node) y.back) h) (λ x. inside? M φ h x) k R

-- ---- the sum of what is left

pub sum_less : {A : Type 0} (f g : A → ℕ) (l : List A) {a : A} → a ∈ l → ((b : A) → b ∈ l → f b ≤ g b) → f a < g a → sum f l < sum g l
sum_less f g l h le lt =
    let p = sum-remove f h in
    let q = sum-remove g h in
    let r = sum_mono f g (remove h) (λ b i. le b (remove-within h b i)) in
    omega arith

-- a number one higher under the same ceiling leaves less
pub up-falls : (t z : ℤ) → (z +ℤ pos 1) ≤ℤ t → up (t -ℤ (z +ℤ pos 1)) < up (t -ℤ z)
up-falls t z le =
    let a = pos-up (t -ℤ (z +ℤ pos 1)) (omega (arith, ints, sub_parts t (z +ℤ pos 1))) in
    let b = pos-up (t -ℤ z) (omega (arith, ints, sub_parts t z, +-parts z (pos 1))) in
    omega (arith, ints, sub_parts t (z +ℤ pos 1), sub_parts t z, +-parts z (pos 1))

-- where a sweep starts: 1 − r at gates, 0 elsewhere
unfoldable pub starting : (N : Net) → ℕ → (v : ℕ) → Dec (IsGate N v) → ℤ
starting N r v (yes g) = pos 1 -ℤ pos r
starting N r v (no n) = pos 0

not-both : {N : Net} {v : ℕ} → IsInput N v → IsGate N v → ⊥
not-both i g = omega (arith, g)

-- what a sweep comes to
pub data SweptIn (M : Mode) (N : Net) (k φ : ℕ) : Type 0 where
  settles : (lab : ℕ → ℤ) → LeastIn M N k φ lab → SweptIn M N k φ
  refuses : ((lab : ℕ → ℤ) → LabellingIn M N k φ lab → ¬ OutputsMet N φ lab) → SweptIn M N k φ

module _ {N : Net} {k : ℕ} (P : Passed N k) (φ : ℕ) where
  -- registers on a path from gate v to an output
  unfoldable pub path_of : (v : ℕ) → Dec (IsGate N v) → (c : ℕ) × (IsGate N v → OutPath N v c)
  path_of v (yes g) = let r = out-path (P.leading v g) in (r.0, λ i. r.1)
  path_of v (no n) = (0, λ g. absurd (n g))

  unfoldable pub registers_out : ℕ → ℕ
  unfolding path_of
  registers_out v = (path_of v (is_gate? N v)).0

  path_out : (v : ℕ) → IsGate N v → OutPath N v (registers_out v)
  unfolding registers_out
  path_out v g = (path_of v (is_gate? N v)).1 g

  -- the ceiling of gate v
  unfoldable pub top : ℕ → ℤ
  unfolding registers_out
  top v = pos (φ * suc (registers_out v))

  unfoldable pub gap : (ℕ → ℤ) → ℕ → ℕ
  unfolding top
  gap lo v = up (top v -ℤ lo v)

  -- one raise: what is left falls
  pub gap-falls : (lo : ℕ → ℤ) (v : ℕ) → v ∈ gate_numbers N → (lo v +ℤ pos 1) ≤ℤ top v
      → sum (gap (replace lo v (lo v +ℤ pos 1))) (gate_numbers N) < sum (gap lo) (gate_numbers N)
  gap-falls lo v h le = sum_less (gap (replace lo v (lo v +ℤ pos 1))) (gap lo) (gate_numbers N) h (λ u i. each u (ℕ_discrete u v)) (unfold gap in same v refl)
    where
      same : (u : ℕ) → u ≡ v → up (top u -ℤ replace lo v (lo v +ℤ pos 1) u) < up (top u -ℤ lo u)
      same u e = rw e (rw (replace-same lo v (lo v +ℤ pos 1)) (up-falls (top v) (lo v) le))

      each : (u : ℕ) → Dec (u ≡ v) → gap (replace lo v (lo v +ℤ pos 1)) u ≤ gap lo u
      each u (yes e) = unfold gap in (let a = same u e in omega arith)
      each u (no n) = unfold gap in (rw (replace-other lo v (lo v +ℤ pos 1) u n) (omega arith))

module _ (M : Mode) {N : Net} {k : ℕ} (P : Passed N k) (φ : ℕ) where
  -- gate by gate, whether it has a cut of its number's height
  unfoldable pub settled? : Ranked N → (lo : ℕ → ℤ) → Dec ((v : ℕ) → v ∈ gate_numbers N → LowCutIn M N k φ lo v (lo v))
  unfolding low_cut?
  settled? R lo = all? (gate_numbers N) (λ v h. low_cut? M N k φ R lo v (lo v))

module _ {M : Mode} {N : Net} {k : ℕ} (P : Passed N k) (φ : ℕ) where
  -- past its ceiling
  pub over : (lo : ℕ → ℤ) (v : ℕ) → LowerBoundIn M N k φ lo → v ∈ gate_numbers N → ¬ LowCutIn M N k φ lo v (lo v) → ¬ ((lo v +ℤ pos 1) ≤ℤ top P φ v)
      → (lab : ℕ → ℤ) → LabellingIn M N k φ lab → ¬ OutputsMet N φ lab
  over lo v b i m m' =
      let g = gate_numbers_in i in
      refutes N k φ P.sound (replace lo v (lo v +ℤ pos 1)) v (registers_out P φ v) (raise N k φ P.sound lo v b g m) g (path_out P φ v g)
      (rw (replace-same lo v (lo v +ℤ pos 1)) (unfold top in beyond (≤ℤ_total (lo v +ℤ pos 1) (top P φ v))))
    where
      beyond : ((lo v +ℤ pos 1) ≤ℤ top P φ v) ⊎ (top P φ v <ℤ (lo v +ℤ pos 1)) → top P φ v <ℤ (lo v +ℤ pos 1)
      beyond (inl h) = absurd (m' h)
      beyond (inr h) = h

  -- the step for a gate without a cut: past its ceiling it refutes, else it rises
  unfoldable pub rise : (n : ℕ) (lo : ℕ → ℤ) → LowerBoundIn M N k φ lo → sum (gap P φ lo) (gate_numbers N) < suc n
      → ((lo' : ℕ → ℤ) → LowerBoundIn M N k φ lo' → sum (gap P φ lo') (gate_numbers N) < n → SweptIn M N k φ)
      → (v : ℕ) → v ∈ gate_numbers N → ¬ LowCutIn M N k φ lo v (lo v) → Dec ((lo v +ℤ pos 1) ≤ℤ top P φ v) → SweptIn M N k φ
  rise n lo b h rest v i m (yes le) =
      rest (replace lo v (lo v +ℤ pos 1)) (raise N k φ P.sound lo v b (gate_numbers_in i) m) (let a = gap-falls P φ lo v i le in omega arith)
  rise n lo b h rest v i m (no m') = refuses (over lo v b i m m')

  unfoldable pub stepped : (n : ℕ) (lo : ℕ → ℤ) → LowerBoundIn M N k φ lo → sum (gap P φ lo) (gate_numbers N) < suc n → Ranked N
      → ((lo' : ℕ → ℤ) → LowerBoundIn M N k φ lo' → sum (gap P φ lo') (gate_numbers N) < n → SweptIn M N k φ)
      → Dec ((v : ℕ) → v ∈ gate_numbers N → LowCutIn M N k φ lo v (lo v)) → SweptIn M N k φ
  unfolding rise top
  stepped n lo b h R rest (yes f) = settles lo (settled-least k φ b (λ v g. f v (in_gate_numbers g)))
  stepped n lo b h R rest (no m) =
      let r = not-all (gate_numbers N) m (λ v i. low_cut? M N k φ R lo v (lo v)) in
      rise n lo b h rest r.0 r.1 r.2 (≤ℤ? (lo r.0 +ℤ pos 1) (top P φ r.0))

  unfoldable pub sweep : Ranked N → (n : ℕ) (lo : ℕ → ℤ) → LowerBoundIn M N k φ lo → sum (gap P φ lo) (gate_numbers N) < n → SweptIn M N k φ
  unfolding settled? stepped
  sweep R zero lo b h = absurd (not-suc-le-zero h)
  sweep R (suc n) lo b h = stepped n lo b h R (sweep R n) (settled? M P φ R lo)

module _ {N : Net} {k : ℕ} (P : Passed N k) (φ : ℕ) where
  -- the floor, as a lower bound
  unfoldable pub start : ℕ → ℤ
  start v = starting N (φ * reach_of N) v (is_gate? N v)

  pub start-bound : (M : Mode) → Ranked N → LowerBoundIn M N k φ start
  unfolding start
  start-bound M R = record { inputs = λ v i. at-input v i (is_gate? N v); below = λ lab l v g. at-gate lab l v g (is_gate? N v) }
    where
      at-input : (v : ℕ) → IsInput N v → (d : Dec (IsGate N v)) → starting N (φ * reach_of N) v d ≡ pos 0
      at-input v i (yes g) = absurd (not-both i g)
      at-input v i (no n) = unfold starting in refl

      at-gate : (lab : ℕ → ℤ) → LabellingIn M N k φ lab → (v : ℕ) → IsGate N v → (d : Dec (IsGate N v)) → starting N (φ * reach_of N) v d ≤ℤ lab v
      at-gate lab l v g (yes g') =
          let a = floor k φ P.sound R lab l v g in
          unfold starting in (omega (arith, ints, height-parts φ (pos 0) (reach_of N), sub_parts (pos 1) (pos (φ * reach_of N))))
      at-gate lab l v g (no n) = absurd (n g)

module _ {M : Mode} {N : Net} {k : ℕ} (P : Passed N k) (φ : ℕ) where
  unfoldable pub swept : SweptIn M N k φ
  unfolding sweep start
  swept = let R = ranked P.reached in sweep {M = M} P φ R (suc (sum (gap P φ (start P φ)) (gate_numbers N))) (start P φ) (start-bound P φ M R) (omega arith)

  -- what a sweep comes to decides reachability
  unfoldable pub outcome : SweptIn M N k φ → Dec (ReachableIn M N k φ)
  outcome (settles lab l) = met (all? N.outputs (λ o h. ≤ℤ? (lab o.src -ℤ pos (φ * o.count)) (pos φ)))
    where
      met : Dec (OutputsMet N φ lab) → Dec (ReachableIn M N k φ)
      met (yes m) = yes (record { label = lab; least = l; outputs = m })
      met (no n) = no (λ r. n (outputs-under N φ lab r.label P.sound l.labelling.inputs r.least.labelling.inputs
          (l.least r.label r.least.labelling) r.outputs))
  outcome (refuses f) = no (λ r. f r.label r.least.labelling r.outputs)

  -- **Whether a target is reachable is decided.**
  unfoldable pub reachable? : Dec (ReachableIn M N k φ)
  unfolding swept outcome
  reachable? = outcome swept

  -- **Any labelling that satisfies the outputs shows that the target is reachable.**
  pub labelling_reaches : (lab : ℕ → ℤ) → LabellingIn M N k φ lab → OutputsMet N φ lab → ReachableIn M N k φ
  labelling_reaches lab l m = go swept
    where
      go : SweptIn M N k φ → ReachableIn M N k φ
      go (settles low b) = record {
        label = low;
        least = b;
        outputs = outputs-under N φ low lab P.sound b.labelling.inputs l.inputs (b.least lab l) m;
      }
      go (refuses f) = absurd (f lab l m)
