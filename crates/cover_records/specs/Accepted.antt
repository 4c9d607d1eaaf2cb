-- What mark's checks 14 to 18 come to: the record is a cover of the net for k in the general sense, and it meets its stated period.
use Rattle.std.specs.Prelude.{◌≡◌, refl, Bool, List, ℕ, zero, suc, ◌+◌, ◌-◌, ◌≤◌, ◌<◌, ℤ, pos, length, get_or, ◌⊎◌, ◌↔◌}
use Rattle.std.proofs.Common.{sym, subst, ap, ◌∙◌, arith, inl, inr}
use Rattle.sequences.specs.Member.{◌∈◌, in_get_or}
use Rattle.sequences.specs.Rising.{ℕ_cmp}
use Rattle.net_model.specs.Net.{Net, Pin, IsGate}
use Rattle.net_model.specs.Checks.{Passed}
use Rattle.net_model.specs.Copies.{Copy, IsCut}
use Rattle.net_model.specs.Tables.{table_of}
use Rattle.net_model.specs.Runs.{Run}
use Rattle.cover_theory.specs.Covers.{Lut, lut, output, registers, output_registers, RootedAt, IsCover, Meets, Met, LeastPeriod}
use Rattle.cover_theory.specs.Board.{Satisfied}
use Rattle.cover_theory.specs.Key.{Entry, HasLut, place_of, as_lut, as_cover}
use Rattle.cover_period.specs.Written.{no_entry, lut-as_cover, luts-as_cover, place_of_is}
use Rattle.cover_period.specs.Period.{least_period, least_period-is}
use Rattle.cover_theory.specs.Satisfies.{satisfied}
use Rattle.cover_records.specs.Marking.{CutsRight, TablesRight, AllFed, EnoughRegisters, ShortChains}

-- all that 14, 16 and 17 ask, with roots that are gates (13)
pub record Covering (N : Net) (k : ℕ) (es : List Entry) : Type 0 where
  pub roots : (e : Entry) → e ∈ es → IsGate N e.root
  pub cuts : CutsRight N k es
  pub fed : AllFed N es
  pub enough : EnoughRegisters N es

module _ (N : Net) (k : ℕ) (es : List Entry) where
  listed : {i : ℕ} → i < length (as_cover N es).luts → i < length es
  listed {i} h = let e = luts-as_cover N es in omega arith

  entry_in : (i : ℕ) → i < length (as_cover N es).luts → get_or es i no_entry ∈ es
  entry_in i h = in_get_or es i no_entry (listed h)

  rooted : (u : ℕ) → HasLut es u → RootedAt (as_cover N es) u (place_of es u)
  rooted u h =
      let r = place_of_is es u h in
      let n = luts-as_cover N es in
      record { listed = omega (arith, r.0); rooted = ap (λ (z : Lut). z.root) (lut-as_cover N es (place_of es u)) ∙ r.1 }

  -- **14, 16 and 17 make the record a cover.**
  pub covering_cover : Covering N k es → IsCover N k (as_cover N es)
  covering_cover c = record {
    gates = λ i h. subst (λ (z : Lut). IsGate N z.root) (sym (lut-as_cover N es i)) (c.roots (get_or es i no_entry) (entry_in i h));
    cuts = λ i h. subst (λ (z : Lut). IsCut N k z.root z.leaves) (sym (lut-as_cover N es i)) (c.cuts (get_or es i no_entry) (entry_in i h));
    fed = λ i h y m g. rooted y.node (c.fed.leaves (get_or es i no_entry) (entry_in i h) y (subst (λ (z : Lut). y ∈ z.leaves) (lut-as_cover N es i) m) g);
    leaf_registers = λ i h y m. c.enough.leaves i (listed h) y m;
    names = λ o h g. rooted (output N o).src (c.fed.outputs (output N o) (in_get_or N.outputs o (record { src = 0; count = 0 }) h) g);
    output_registers = c.enough.outputs;
  }

module _ {N : Net} {k : ℕ} (P : Passed N k) {es : List Entry} where
  -- with 18 it meets its period, so the least period is no larger and the excess is what it should be
  pub covering_met : {period : ℕ} → Covering N k es → ShortChains N period es → Met N k period
  covering_met c s = record { cover = as_cover N es; is_cover = covering_cover N k es c; meets = s }

  pub excess-is : {period : ℕ} → 1 ≤ period → Covering N k es → ShortChains N period es → least_period P ≤ period
  excess-is {period} h c s = go (ℕ_cmp period (least_period P))
    where
      go : (period < least_period P) ⊎ ((period ≡ least_period P) ⊎ (least_period P < period)) → least_period P ≤ period
      go (inl lt) = absurd ((least_period-is P).least period h lt (covering_met c s))
      go (inr (inl e)) = omega arith
      go (inr (inr lt)) = omega arith

  -- **Every run of the net, shifted by the lags, satisfies each LUT of an accepted record.**
  pub accepted-runs : TablesRight N k es → {value : ℕ → ℕ → Bool} → Run N value → (i : ℕ) → i < length es → Satisfied N (as_cover N es) value i (get_or es i no_entry).table
  accepted-runs t {value} run i h =
      let e = get_or es i no_entry in
      let r = t e (in_get_or es i no_entry h) in
      let c = subst (λ (z : Lut). (c : IsCut N k z.root z.leaves) × (e.table ≡ table_of N z.root c.cone z.leaves)) (sym (lut-as_cover N es i)) (r.cut, r.table) in
      subst (Satisfied N (as_cover N es) value i) (sym c.1) (satisfied P run i c.0)
