-- Every run of the net, shifted by the lags, satisfies each LUT of a cover at every step at which its values exist.
use Rattle.std.specs.Prelude.{◌≡◌, refl, Bool, List, [], ◌∷◌, map, ℕ, zero, suc, ◌+◌, ◌-◌, ◌*◌, ◌≤◌, ◌<◌, ℤ, pos, ◌+ℤ◌, ◌-ℤ◌, length}
use Rattle.std.proofs.Common.{sym, ap, ap₂, ◌∙◌, subst, arith}
use Rattle.integers.specs.Parts.{ints, +-parts, sub_parts}
use Rattle.sequences.specs.Member.{◌∈◌, here, there, not_in_nil}
use Rattle.net_model.specs.Net.{Net}
use Rattle.net_model.specs.Checks.{Passed}
use Rattle.net_model.specs.Copies.{Copy, IsCut}
use Rattle.net_model.specs.Tables.{apply, table_of}
use Rattle.net_model.specs.Runs.{Run}
use Rattle.cone_theory.specs.Ranks.{ranked}
use Rattle.cone_theory.specs.CopyOrder.{levels}
use Rattle.cone_values.specs.RunLaws.{run-root}
use Rattle.cover_theory.specs.Covers.{Cover, lut, lag_of, registers, IsCover}
use Rattle.cover_theory.specs.Board.{Carries, Brought, none, next, Satisfied}

module _ {N : Net} {k : ℕ} (P : Passed N k) {K : Cover} {value : ℕ → ℕ → Bool} (run : Run N value) (i : ℕ) where
  -- what the leaves bring at step t are their values d steps before the root's step
  brought : (t : ℤ) (s : ℕ) → (t -ℤ (lut K i).lag) ≡ pos s → {L : List Copy} {bs : List Bool} → Brought N K value i t L bs
      → (bs ≡ map (λ (y : Copy). value y.node (s - y.back)) L) × ((y : Copy) → y ∈ L → y.back ≤ s)
  brought t s e none = (refl, λ y h. absurd (not_in_nil h))
  brought t s e (next {y = y} {L = L} {b = b} {bs = bs} c r) =
      let ih = brought t s e r in
      let q = lag_of N K y.node (K.feeder i y) in
      let w = c.when in
      let facts : (y.back ≤ s) × (c.step ≡ s - y.back) =
      both (omega (
        arith,
        ints,
        sub_parts t (lut K i).lag,
        sub_parts (t -ℤ registers N K i y) q,
        sub_parts t (registers N K i y),
        sub_parts (pos y.back +ℤ (lut K i).lag) q,
        +-parts (pos y.back) (lut K i).lag,
      )) in (
        ap₂ {C = List Bool} ◌∷◌ (sym c.is ∙ ap (value y.node) facts.1) ih.0,
        all facts.0 ih.1,
      )
    where
      both : {m n d : ℕ} → m + d ≡ n → (d ≤ n) × (m ≡ n - d)
      both h = (omega arith, omega arith)

      all : y.back ≤ s → ((z : Copy) → z ∈ L → z.back ≤ s) → (z : Copy) → z ∈ y ∷ L → z.back ≤ s
      all h f z (here p) = let a = ap (λ (x : Copy). x.back) p in omega arith
      all h f z (there m) = f z m

  -- **Shifted by the lags, a run satisfies LUT i**, whatever cone its cut has.
  pub satisfied : (c : IsCut N k (lut K i).root (lut K i).leaves) → Satisfied N K value i (table_of N (lut K i).root c.cone (lut K i).leaves)
  satisfied c t b bs root leaves =
      let r = brought t root.step root.when leaves in
      sym root.is
      ∙ run-root (ranked P.reached) (levels P.loopless) run c.is_cone c.is_leaves root.step r.1
      ∙ ap (apply (table_of N (lut K i).root c.cone (lut K i).leaves)) (sym r.0)
