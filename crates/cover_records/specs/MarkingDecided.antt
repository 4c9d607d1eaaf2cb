-- Checks 14 to 18 are decided, so that mark's outcome is a function.
use Rattle.std.specs.Prelude.{◌≡◌, refl, ◌⊎◌, ℕ, zero, suc, ◌+◌, ◌*◌, ◌≤◌, ◌<◌, ℤ, pos, length, ◌≤ℤ◌}
use Rattle.std.proofs.Common.{sym, ap, ◌∙◌, inl, inr, arith}
use Rattle.std.proofs.Math.Path.{subst}
use mathlib.Core.List.{List, [], ◌∷◌, map, List-discrete}
use Rattle.std.proofs.Math.Decide.{ℕ_discrete, dec_le}
use Rattle.integers.specs.Order.{≤ℤ?}
use Rattle.sequences.specs.Member.{◌∈◌, here, there, Within}
use Rattle.sequences.specs.Decide.{all?, any?, dec-×, dec-→, dec_map, dec-¬, below?}
use Rattle.sequences.specs.Keep.{keep, keep_in, in_keep}
use Rattle.sequences.specs.Subsets.{subsets, any_subset?, keep_subset}
use Rattle.net_model.specs.Net.{Net, Pin, IsGate}
use Rattle.net_model.specs.Checks.{Passed}
use Rattle.net_model.specs.Copies.{Copy, copy, IsCone, IsLeaves, IsCut, Cut, Any}
use Rattle.net_model.specs.Tables.{table_of}
use Rattle.cone_theory.specs.Basics.{Copy-dec, member?, is_gate?, leaves_of, leaves_unique}
use Rattle.cone_theory.specs.Part.{is_cone?, cone_determined}
use Rattle.cone_theory.specs.Ranks.{Ranked, ranked}
use Rattle.cone_theory.specs.Reach.{reach_of, cut-reach}
use Rattle.cone_theory.specs.CopyOrder.{levels}
use Rattle.cut_theory.specs.Choice.{same-cone, same-leaves}
use Rattle.cut_theory.specs.CutDecision.{box, boxed, boxed_in, in_boxed, boxed_subset}
use Rattle.cone_values.specs.Values.{table_same}
use Rattle.cover_theory.specs.Covers.{Cover, lut, output, registers, output_registers, Chain, one, more, Meets}
use Rattle.cover_theory.specs.Depths.{chain?}
use Rattle.cover_theory.specs.Key.{Entry, HasLut, as_cover}
use Rattle.cover_period.specs.Written.{luts-as_cover}
use Rattle.cover_records.specs.Marking.{CutsRight, TableRight, TablesRight, AllFed, EnoughRegisters, ShortChains}

-- ---- 14

-- s is a cone of v with the leaves L
pub ConeFor : Net → ℕ → List Copy → List Copy → Type 0
ConeFor N v L s = IsCone N v s × ((leaves_of N s).0 ≡ L)

unfoldable pub cone_for? : (N : Net) (v : ℕ) (L s : List Copy) → Dec (ConeFor N v L s)
unfolding ConeFor
cone_for? N v L s = dec-× (is_cone? N v s) (List-discrete Copy-dec (leaves_of N s).0 L)

unfoldable pub is_cut-cut : {N : Net} {k v : ℕ} {L : List Copy} → IsCut N k v L → Cut N k v Any Any
is_cut-cut {L = L} c = record { cone = c.cone; leaves = L; is_cone = c.is_cone; is_leaves = c.is_leaves; few = c.few; allowed = λ y m. tt; inside = λ x m. tt }

module _ {N : Net} (R : Ranked N) (k v : ℕ) (L : List Copy) where
  unfoldable pub is_cut-step : Dec (length L ≤ k) → Dec ((s : List Copy) × (s ∈ subsets (box N k)) × ConeFor N v L s) → Dec (IsCut N k v L)
  unfolding ConeFor is_cut-cut
  is_cut-step (no n) d = no (λ c. n c.few)
  is_cut-step (yes f) (yes r) = yes (record {
    cone = r.0;
    is_cone = r.2.0;
    is_leaves = subst (IsLeaves N r.0) r.2.1 (leaves_of N r.0).1;
    few = f;
  })
  is_cut-step (yes f) (no n) = no none
    where
      none : IsCut N k v L → ⊥
      none c =
          let K = is_cut-cut c in
          let b = boxed {A = Any} {B = Any} (λ y. yes tt) (λ x. yes tt) k R K in
          let i = boxed_in {A = Any} {B = Any} (λ y. yes tt) (λ x. yes tt) k R K in
          let o = in_boxed {A = Any} {B = Any} (λ y. yes tt) (λ x. yes tt) k R K in
          n (
            b,
            boxed_subset {A = Any} {B = Any} (λ y. yes tt) (λ x. yes tt) k R K,
            (same-cone i o c.is_cone, leaves_unique (leaves_of N b).1 c.is_leaves o i),
          )

  -- whether L is a k-cut of v
  unfoldable pub is_cut? : Dec (IsCut N k v L)
  unfolding is_cut-step cone_for?
  is_cut? = is_cut-step (dec_le (length L) k) (any_subset? (ConeFor N v L) (cone_for? N v L) (box N k))

unfoldable pub cuts_right? : {N : Net} → Ranked N → (k : ℕ) (es : List Entry) → Dec (CutsRight N k es)
unfolding is_cut?
cuts_right? R k es = all? es (λ e m. is_cut? R k e.root e.leaves)

-- ---- 15

module _ {N : Net} {k : ℕ} (P : Passed N k) where
  -- all cones of one cut give one table
  pub table_determined : {v : ℕ} {L : List Copy} (c d : IsCut N k v L) → table_of N v c.cone L ≡ table_of N v d.cone L
  table_determined {v} {L} c d =
      table_same (levels P.loopless) c.is_cone c.is_leaves (k * reach_of N)
      (λ x m. let a = cut-reach (ranked P.reached) (is_cut-cut c) x (unfold is_cut-cut in m) in omega arith) d.cone
      (cone_determined c.is_cone d.is_cone c.is_leaves d.is_leaves)

  unfoldable pub table_right_at : (e : Entry) (c : IsCut N k e.root e.leaves) → Dec (e.table ≡ table_of N e.root c.cone e.leaves) → Dec (TableRight N k e)
  table_right_at e c (yes t) = yes (record { cut = c; table = t })
  table_right_at e c (no n) = no (λ r. n (r.table ∙ table_determined r.cut c))

  unfoldable pub table_right_step : (e : Entry) → Dec (IsCut N k e.root e.leaves) → Dec (TableRight N k e)
  unfolding table_right_at
  table_right_step e (no n) = no (λ r. n r.cut)
  table_right_step e (yes c) = table_right_at e c (ℕ_discrete e.table (table_of N e.root c.cone e.leaves))

  unfoldable pub tables_right? : (es : List Entry) → Dec (TablesRight N k es)
  unfolding table_right_step is_cut?
  tables_right? es = all? es (λ e m. table_right_step e (is_cut? (ranked P.reached) k e.root e.leaves))

-- ---- 16

unfoldable pub has_lut? : (es : List Entry) (u : ℕ) → Dec (HasLut es u)
has_lut? es u = any? es (λ e m. ℕ_discrete e.root u)

unfoldable pub all_fed? : (N : Net) (es : List Entry) → Dec (AllFed N es)
unfolding has_lut?
all_fed? N es =
    dec_map (λ t. record { leaves = t.0; outputs = t.1 }) (λ r. (r.leaves, r.outputs))
    (dec-× (all? es (λ e m. all? e.leaves (λ y i. dec-→ (is_gate? N y.node) (has_lut? es y.node))))
    (all? N.outputs (λ o i. dec-→ (is_gate? N o.src) (has_lut? es o.src))))

-- ---- 17

unfoldable pub enough? : (N : Net) (es : List Entry) → Dec (EnoughRegisters N es)
enough? N es =
    dec_map (λ t. record { leaves = t.0; outputs = t.1 }) (λ r. (r.leaves, r.outputs))
    (dec-× (below? (length es) (λ i h. all? (lut (as_cover N es) i).leaves (λ y m. ≤ℤ? (pos 0) (registers N (as_cover N es) i y))))
    (below? (length N.outputs) (λ o h. ≤ℤ? (pos 0) (output_registers N (as_cover N es) o))))

-- ---- 18

-- a chain's last LUTs are a chain
pub shorter : (N : Net) (K : Cover) {i n : ℕ} (m : ℕ) → suc m ≤ n → Chain N K i n → Chain N K i (suc m)
shorter N K zero h c = one refl
shorter N K (suc m) h (one e) = absurd (short h e)
  where
    short : {n : ℕ} → suc (suc m) ≤ n → n ≡ 1 → ⊥
    short h e = omega arith
shorter N K (suc m) h (more y n' i g r e c) = more y (suc m) i g r refl (shorter N K m (omega arith) c)

unfoldable pub short_chains? : (N : Net) (period : ℕ) (es : List Entry) → Dec (ShortChains N period es)
short_chains? N period es =
    dec_map {X = (i : ℕ) → i < length es → ¬ Chain N (as_cover N es) i (suc period)} {Y = ShortChains N period es} to from
    (below? (length es) (λ i h. dec-¬ (chain? N (as_cover N es) (suc period) i)))
  where
    len : length (as_cover N es).luts ≡ length es
    len = luts-as_cover N es

    to : ((i : ℕ) → i < length es → ¬ Chain N (as_cover N es) i (suc period)) → ShortChains N period es
    to f i n h c = go (dec_le n period)
      where
        go : Dec (n ≤ period) → n ≤ period
        go (yes a) = a
        go (no a) = absurd (f i (let e = len in omega arith) (shorter N (as_cover N es) period (omega arith) c))

    from : ShortChains N period es → (i : ℕ) → i < length es → ¬ Chain N (as_cover N es) i (suc period)
    from f i h c = absurd (long (f i (suc period) (let e = len in omega arith) c))
      where
        long : suc period ≤ period → ⊥
        long a = omega arith
