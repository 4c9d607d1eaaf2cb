-- Laws: the connections and outputs of a record are those of the cover that it describes.
use Rattle.std.specs.Prelude.{◌≡◌, Bool, true, false, cond, ℕ, suc, ◌+◌, ◌≤◌, ◌<◌, eqb, ltb, ℤ, pos, ◌+ℤ◌, ◌-ℤ◌, length}
use Rattle.std.proofs.Math.Path.{refl, sym, ap, ap₂}
use Rattle.std.proofs.Common.{◌∙◌, suc-le-suc, zero-le, add-zero, add-suc, suc-add, zero-add, arith, eqb-true, ltb-true}
use mathlib.Core.List.{List, [], ◌∷◌, ◌++◌}
use Rattle.std.proofs.Math.ListN.{get_or}
use Rattle.sequences.specs.Member.{◌∈◌, here, there}
use Rattle.net_model.specs.Net.{Net, Pin}
use Rattle.net_model.specs.Copies.{Copy}
use Rattle.cover_theory.specs.Covers.{Lut, lut, lag_of, output}
use Rattle.cover_theory.specs.Key.{Entry, place_of, as_lut, as_cover}
use Rattle.cover_theory.specs.SharedRegisters.{Tap, tap, gather, leaves_tapped, lut_tapped, output_tapped, cover_taps}
use Rattle.cover_period.specs.Written.{no_entry, lut-as_cover, luts-as_cover}
use Rattle.cover_records.specs.Listing.{lag_in, leaf_taps, lut_taps, output_taps, entry_taps}

-- the lag written for a root is that of the entry at its place
lag_in-place : (es : List Entry) (u : ℕ) → lag_in es u ≡ (get_or es (place_of es u) no_entry).lag
unfolding lag_in place_of
lag_in-place [] u = refl
lag_in-place (e ∷ es) u = go (eqb e.root u) (lag_in-place es u)
  where
    go : (t : Bool) → lag_in es u ≡ (get_or es (place_of es u) no_entry).lag → cond t e.lag (lag_in es u) ≡ (get_or (e ∷ es) (cond t 0 (suc (place_of es u))) no_entry).lag
    go true q = refl
    go false q = q

lag_in-none : (es : List Entry) (u : ℕ) → ((e : Entry) → e ∈ es → ¬ (e.root ≡ u)) → lag_in es u ≡ pos 0
unfolding lag_in
lag_in-none [] u n = refl
lag_in-none (e ∷ es) u n = go (eqb e.root u) refl (lag_in-none es u (λ x m. n x (there m)))
  where
    go : (t : Bool) → eqb e.root u ≡ t → lag_in es u ≡ pos 0 → cond t e.lag (lag_in es u) ≡ pos 0
    go true q r = absurd (n e (here refl) (eqb-true e.root u q))
    go false q r = r

module _ (N : Net) (es : List Entry) (gates : (e : Entry) → e ∈ es → N.inputs ≤ e.root) where
  pub lag-is : (u : ℕ) → lag_in es u ≡ lag_of N (as_cover N es) u (place_of es u)
  lag-is u = go (ltb u N.inputs) refl
    where
      apart : u < N.inputs → (e : Entry) → e ∈ es → ¬ (e.root ≡ u)
      apart h e m q = let l = gates e m in omega arith

      go : (t : Bool) → ltb u N.inputs ≡ t → lag_in es u ≡ cond t (pos 0) (lut (as_cover N es) (place_of es u)).lag
      go true q = lag_in-none es u (apart (ltb-true u N.inputs q))
      go false q = lag_in-place es u ∙ ap (λ (z : Lut). z.lag) (sym (lut-as_cover N es (place_of es u)))

  leaves_are : (i : ℕ) (r : ℤ) → (lut (as_cover N es) i).lag ≡ r → (L : List Copy) → leaf_taps es r L ≡ leaves_tapped N (as_cover N es) i L
  unfolding leaf_taps leaves_tapped
  leaves_are i r e [] = refl
  leaves_are i r e (y ∷ L) = ap₂ (λ (z : ℤ) (l : List Tap). tap y.node z ∷ l) (ap₂ (λ (a b : ℤ). (pos y.back +ℤ a) -ℤ b) (sym e) (lag-is y.node)) (leaves_are i r e L)

  luts_are : (i : ℕ) (l : List Entry) → ((j : ℕ) → j < length l → get_or es (i + j) no_entry ≡ get_or l j no_entry) → lut_taps es l ≡ gather (lut_tapped N (as_cover N es)) i (length l)
  unfolding lut_taps gather
  luts_are i [] f = refl
  luts_are i (e ∷ l) f =
      let q : lut (as_cover N es) i ≡ as_lut e = lut-as_cover N es i ∙ ap as_lut (ap (λ (m : ℕ). get_or es m no_entry) (sym (add-zero i)) ∙ f 0 (suc-le-suc zero-le)) in
      ap₂ {C = List Tap} (λ (a b : List Tap). a ++ b)
      (leaves_are i e.lag (ap (λ (z : Lut). z.lag) q) e.leaves ∙ ap (λ (z : Lut). leaves_tapped N (as_cover N es) i z.leaves) (sym q))
      (luts_are (suc i) l (λ j h. ap (λ (m : ℕ). get_or es m no_entry) (suc-add i j ∙ sym (add-suc i j)) ∙ f (suc j) (suc-le-suc h)))

  outputs_are : (i : ℕ) (l : List Pin) → ((j : ℕ) → j < length l → output N (i + j) ≡ get_or l j (record { src = 0; count = 0 }))
      → output_taps es l ≡ gather (output_tapped N (as_cover N es)) i (length l)
  unfolding output_taps gather
  outputs_are i [] f = refl
  outputs_are i (o ∷ l) f =
      let q : output N i ≡ o = ap (output N) (sym (add-zero i)) ∙ f 0 (suc-le-suc zero-le) in
      ap₂ {C = List Tap} (λ (t : Tap) (b : List Tap). t ∷ b)
      (ap (λ (a : ℤ). tap o.src (pos o.count -ℤ a)) (lag-is o.src) ∙ ap (λ (p : Pin). tap p.src (pos p.count -ℤ lag_of N (as_cover N es) p.src (place_of es p.src))) (sym q))
      (outputs_are (suc i) l (λ j h. ap (output N) (suc-add i j ∙ sym (add-suc i j)) ∙ f (suc j) (suc-le-suc h)))

  -- the connections and outputs of the record are those of the cover
  pub taps_are : entry_taps N es ≡ cover_taps N (as_cover N es)
  unfolding entry_taps cover_taps
  taps_are = ap₂ {C = List Tap} (λ (a b : List Tap). a ++ b)
      (luts_are 0 es (λ j h. ap (λ (m : ℕ). get_or es m no_entry) (zero-add j)) ∙ ap (gather (lut_tapped N (as_cover N es)) 0) (sym (luts-as_cover N es)))
      (outputs_are 0 N.outputs (λ j h. ap (output N) (zero-add j)))
