-- Laws of the loader area: none lent is map without one; the length of an image.
use Rattle.std.specs.Prelude.{◌≡◌, Bool, false, ◌&&◌, List, [], ◌∷◌, length}
use Rattle.std.proofs.Math.Path.{refl, ap}
use Rattle.std.proofs.Common.{◌∙◌, arith, le-ltb, length-append}
use Rattle.std.proofs.Math.Bool.{cond}
use Prim.Native.Nat.{ℕ, zero, suc, ◌*◌}
use Rattle.std.proofs.Math.Dec.{ltb}
use Rattle.limits.specs.Limits.{loader_area}
use Rattle.limits.specs.declared.Rules.{Rules}
use Rattle.net_model.specs.Net.{Net}
use Rattle.net_model.specs.FullTables.{repeated_table}
use Rattle.label_theory.specs.Labels.{Mode, plain}
use Rattle.cover_theory.specs.Key.{Entry, entries}
use Rattle.cover_records.specs.CoverBytes.{to_bytes}
use Rattle.cover_records.specs.RoundTrip.{length_to_bytes}
use Rattle.cover_records.specs.Outcomes.{Checked, passes, fails, check_net, MappedIn, covered, unreachable, mapped_in, map_sizes, map_checked_in, map_sized, map_outcome, written}
use Rattle.cover_records.specs.LoaderImage.{image_bytes, is_lent, loaded}
use Rattle.cover_records.specs.LoaderOutcome.{beside, too_short, loader_written, loader_checked_in, loader_fit_in, loader_sized, loader_outcome}

-- ---- none lent

module _ (loader : List ℕ) (none : length loader ≡ 0) where
  pub not-lent : is_lent loader ≡ false
  not-lent = le-ltb 0 (length loader) (omega (arith, none))

  none-loaded : (es : List Entry) → loaded es loader ≡ loader
  unfolding loaded
  none-loaded es = ap (λ (b : Bool). cond b (written (image_bytes es) loader) loader) not-lent

  pub none_written : {M : Mode} {N : Net} {k : ℕ} (m : MappedIn M N k) → loader_written m loader ≡ loader
  unfolding loader_written
  none_written (covered φ K) = none-loaded (entries K)
  none_written unreachable = refl

  none-checked : (M : Mode) (k target : ℕ) (c : Checked k) → loader_checked_in M k target c loader ≡ loader
  unfolding loader_checked_in
  none-checked M k target (fails n) = refl
  none-checked M k target (passes N p) = none_written (mapped_in M N k target p)

  -- in each mode: map beside a loader area that is as it was
  pub none-fit : (M : Mode) (R : Rules) (k target : ℕ) (c : Checked k) (area scratch : List ℕ)
      → loader_fit_in M R (too_short loader) k target c area scratch loader ≡ beside (map_checked_in M R k target c area scratch) loader
  unfolding loader_fit_in
  none-fit M R k target c area scratch =
      ap (λ (b : Bool). loader_fit_in M R (b && ltb (length loader) loader_area) k target c area scratch loader) not-lent
      ∙ ap (beside (map_checked_in M R k target c area scratch)) (none-checked M k target c)

  -- **"(length 0 counts as none)": the answer, the cover area and the scratch are those of map, for every input**
  pub no_loader : (R : Rules) (net : List ℕ) (k target : ℕ) (area scratch : List ℕ) → loader_outcome R net k target area scratch loader ≡ beside (map_outcome R net k target area scratch) loader
  unfolding loader_outcome map_outcome loader_sized map_sized
  no_loader R net k target area scratch = sized (map_sizes R k target area scratch)
    where
      sized : (n : ℕ) → loader_sized R n k target net area scratch loader ≡ beside (map_sized R n k target net area scratch) loader
      sized zero = none-fit plain R k target (check_net R k net) area scratch
      sized (suc n) = refl

-- ---- lengths

-- eight bytes a LUT
pub length-image : (es : List Entry) → length (image_bytes es) ≡ 8 * length es
unfolding image_bytes
length-image [] = refl
length-image (e ∷ es) =
    let t = to_bytes 8 (repeated_table (length e.leaves) e.table) in
    let a = length-append t (image_bytes es) in
    let b = length_to_bytes 8 (repeated_table (length e.leaves) e.table) in
    let c = length-image es in
    omega (arith, a, b, c)
