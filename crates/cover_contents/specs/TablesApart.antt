-- The cover that is kept does not depend on its tables.
use Rattle.std.specs.Prelude.{◌≡◌, Bool, true, false, cond, eqb, ℤ, pos, get_or}
use Rattle.std.proofs.Math.Path.{refl, ap₂, fun_ext}
use Rattle.std.proofs.Common.{ap}
use mathlib.Core.List.{List, [], ◌∷◌, map}
use Prim.Native.Nat.{ℕ, zero, suc, ◌+◌, ◌*◌}
use Rattle.integers.specs.Lag.{lag}
use Rattle.net_model.specs.Arrays.{stride, copies_from}
use Rattle.net_model.specs.Net.{Net}
use Rattle.cover_theory.specs.Covers.{Lut, Cover, output}
use Rattle.cover_theory.specs.Key.{place_of, as_lut, as_cover}
use Rattle.cover_records.specs.Kept.{Kept, entry_at, entries_from, entries_in}
use Rattle.cover_records.specs.Rows.{kept_in, sizes_in, nodes_in, backs_in}

module _ (I G φ : ℕ) (labels : List ℤ) (rows tables : List ℕ) where
  luts-apart : (g n : ℕ) → map as_lut (entries_from (kept_in I G φ labels rows []) g n) ≡ map as_lut (entries_from (kept_in I G φ labels rows tables) g n)
  unfolding entries_from entry_at
  luts-apart g zero = refl
  luts-apart g (suc n) = go (eqb (get_or rows g 0) 0) (luts-apart (suc g) n)
    where
      A : Kept
      A = kept_in I G φ labels rows []

      B : Kept
      B = kept_in I G φ labels rows tables

      go : (t : Bool) → map as_lut (entries_from A (suc g) n) ≡ map as_lut (entries_from B (suc g) n)
          → map as_lut (cond t (entries_from A (suc g) n) (entry_at A g ∷ entries_from A (suc g) n)) ≡ map as_lut (cond t (entries_from B (suc g) n) (entry_at B g ∷ entries_from B (suc g) n))
      go true h = h
      go false h =
          ap (λ (l : List Lut). record { root = I + g; leaves = copies_from (nodes_in G rows) (backs_in G rows) (stride * g) (get_or (sizes_in G rows) g 0); lag = lag φ (get_or labels (I + g) (pos 0)) } ∷ l) h

  places-apart : (u g n : ℕ) → place_of (entries_from (kept_in I G φ labels rows []) g n) u ≡ place_of (entries_from (kept_in I G φ labels rows tables) g n) u
  unfolding entries_from entry_at place_of
  places-apart u g zero = refl
  places-apart u g (suc n) = go (eqb (get_or rows g 0) 0) (places-apart u (suc g) n)
    where
      A : Kept
      A = kept_in I G φ labels rows []

      B : Kept
      B = kept_in I G φ labels rows tables

      go : (t : Bool) → place_of (entries_from A (suc g) n) u ≡ place_of (entries_from B (suc g) n) u
          → place_of (cond t (entries_from A (suc g) n) (entry_at A g ∷ entries_from A (suc g) n)) u ≡ place_of (cond t (entries_from B (suc g) n) (entry_at B g ∷ entries_from B (suc g) n)) u
      go true h = h
      go false h = ap (λ (m : ℕ). cond (eqb (I + g) u) 0 (suc m)) h

  -- **the same cover**
  pub tables-apart : (N : Net) → as_cover N (entries_in (kept_in I G φ labels rows [])) ≡ as_cover N (entries_in (kept_in I G φ labels rows tables))
  unfolding entries_in
  tables-apart N =
      ap₂ {C = Cover} (λ (l : List Lut) (f : ℕ → ℕ). record { luts = l; feeder = λ i y. f y.node; named = λ o. f (output N o).src }) (luts-apart 0 G) (fun_ext (λ u. places-apart u 0 G))
