-- If there is a labelling there is a least one, gate by gate: below a given labelling the raises come to an end.
use Rattle.std.specs.Prelude.{◌≡◌, refl, ◌⊎◌, ℕ, zero, suc, ◌+◌, ◌≤◌, ◌<◌, ℤ, ◌+ℤ◌, ◌-ℤ◌, ◌≤ℤ◌}
use Rattle.std.proofs.Common.{sym, inl, inr, not-suc-le-zero, arith}
use Rattle.std.proofs.Math.Decide.{ℕ_discrete}
use Rattle.std.proofs.Math.IntN.{pos}
use Rattle.integers.specs.Parts.{up, ints, +-parts}
use Rattle.sequences.specs.Member.{◌∈◌}
use Rattle.sequences.specs.Decide.{not-all}
use Rattle.sequences.specs.Sum.{sum}
use Rattle.net_model.specs.Net.{Net, IsGate}
use Rattle.net_model.specs.Checks.{Passed}
use Rattle.cone_theory.specs.FewCopies.{gate_numbers, in_gate_numbers, gate_numbers_in}
use Rattle.cone_theory.specs.Ranks.{Ranked, ranked}
use Rattle.label_theory.specs.Labels.{Mode, LowCutIn, LabellingIn, LeastIn}
use Rattle.label_theory.specs.Lower.{replace, replace-same, replace-other}
use Rattle.label_bounds.specs.Bounds.{LowerBoundIn, settled-least, above, raise}
use Rattle.label_bounds.specs.LabelDecision.{low_cut?, settled?, start, start-bound, sum_less, up-falls}

module _ {M : Mode} {N : Net} {k : ℕ} (P : Passed N k) (φ : ℕ) (lab : ℕ → ℤ) (l : LabellingIn M N k φ lab) where
  -- what is left below the given labelling
  left : (ℕ → ℤ) → ℕ → ℕ
  left lo v = up (lab v -ℤ lo v)

  left-falls : (lo : ℕ → ℤ) (v : ℕ) → v ∈ gate_numbers N → (lo v +ℤ pos 1) ≤ℤ lab v
      → sum (left (replace lo v (lo v +ℤ pos 1))) (gate_numbers N) < sum (left lo) (gate_numbers N)
  unfolding left
  left-falls lo v h le = sum_less (left (replace lo v (lo v +ℤ pos 1))) (left lo) (gate_numbers N) h (λ u i. each u (ℕ_discrete u v)) (same v refl)
    where
      same : (u : ℕ) → u ≡ v → up (lab u -ℤ replace lo v (lo v +ℤ pos 1) u) < up (lab u -ℤ lo u)
      same u e = rw e (rw (replace-same lo v (lo v +ℤ pos 1)) (up-falls (lab v) (lo v) le))

      each : (u : ℕ) → Dec (u ≡ v) → up (lab u -ℤ replace lo v (lo v +ℤ pos 1) u) ≤ up (lab u -ℤ lo u)
      each u (yes e) = let a = same u e in omega arith
      each u (no n) = rw (replace-other lo v (lo v +ℤ pos 1) u n) (omega arith)

  climb : Ranked N → (n : ℕ) (lo : ℕ → ℤ) → LowerBoundIn M N k φ lo → sum (left lo) (gate_numbers N) < n → (low : ℕ → ℤ) × LeastIn M N k φ low
  climb R zero lo b h = absurd (not-suc-le-zero h)
  climb R (suc n) lo b h = go (climb R n) (settled? M P φ R lo)
    where
      go : ((lo' : ℕ → ℤ) → LowerBoundIn M N k φ lo' → sum (left lo') (gate_numbers N) < n → (low : ℕ → ℤ) × LeastIn M N k φ low)
          → Dec ((v : ℕ) → v ∈ gate_numbers N → LowCutIn M N k φ lo v (lo v)) → (low : ℕ → ℤ) × LeastIn M N k φ low
      go rest (yes f) = (lo, settled-least k φ b (λ v g. f v (in_gate_numbers g)))
      go rest (no m) =
          let r = not-all (gate_numbers N) m (λ v i. low_cut? M N k φ R lo v (lo v)) in
          let v = r.0 in
          let a = above N k φ P.sound lo v b (gate_numbers_in r.1) r.2 lab l in
          let f = left-falls lo v r.1 (omega (arith, ints, +-parts (lo v) (pos 1))) in
          rest (replace lo v (lo v +ℤ pos 1)) (raise N k φ P.sound lo v b (gate_numbers_in r.1) r.2) (omega arith)

  -- **If there is a labelling there is a least one.**
  pub least_exists : (low : ℕ → ℤ) × LeastIn M N k φ low
  least_exists =
      let R = ranked P.reached in
      climb R (suc (sum (left (start P φ)) (gate_numbers N))) (start P φ) (start-bound P φ M R) (omega arith)
