-- Laws of the pins of two maps: one place of the maps, and pins of lists with the same elements.
use Rattle.std.specs.Prelude.{◌≡◌, refl, Bool, true, false, List, ◌∷◌, ℕ, zero, suc}
use Rattle.std.proofs.Math.Path.{ap, ap₂}
use Rattle.std.proofs.Math.Bool.{cond}
use Rattle.net_model.specs.Net.{Pin}
use Rattle.net_model.specs.Tables.{bit}
use Rattle.net_bytes.specs.Walk.{pins_from, first, rest}
use Rattle.net_fields.specs.FieldListLaws.{Alike, first_alike, rest-alike}

-- one place of the maps: no pin, a pin with no count, a pin with the next count
module _ (n j p r : ℕ) (s c : List ℕ) where
  pub place-absent : bit p j ≡ false → pins_from (suc n) j p r s c ≡ pins_from n (suc j) p r s c
  unfolding pins_from
  place-absent e =
      ap (λ (t : Bool). cond t (cond (bit r j) (record { src = first s; count = first c } ∷ pins_from n (suc j) p r (rest s) (rest c))
      (record { src = first s; count = 0 } ∷ pins_from n (suc j) p r (rest s) c)) (pins_from n (suc j) p r s c)) e

  pub place-plain : bit p j ≡ true → bit r j ≡ false
      → pins_from (suc n) j p r s c ≡ record { src = first s; count = 0 } ∷ pins_from n (suc j) p r (rest s) c
  unfolding pins_from
  place-plain e f =
      ap₂ (λ (t u : Bool). cond t (cond u (record { src = first s; count = first c } ∷ pins_from n (suc j) p r (rest s) (rest c))
      (record { src = first s; count = 0 } ∷ pins_from n (suc j) p r (rest s) c)) (pins_from n (suc j) p r s c)) e f

  pub place-counted : bit p j ≡ true → bit r j ≡ true
      → pins_from (suc n) j p r s c ≡ record { src = first s; count = first c } ∷ pins_from n (suc j) p r (rest s) (rest c)
  unfolding pins_from
  place-counted e f =
      ap₂ (λ (t u : Bool). cond t (cond u (record { src = first s; count = first c } ∷ pins_from n (suc j) p r (rest s) (rest c))
      (record { src = first s; count = 0 } ∷ pins_from n (suc j) p r (rest s) c)) (pins_from n (suc j) p r s c)) e f

pub pins_from-alike : (n j p r : ℕ) (s s' c c' : List ℕ) → Alike s s' → Alike c c' → pins_from n j p r s c ≡ pins_from n j p r s' c'
unfolding pins_from
pins_from-alike zero j p r s s' c c' hs hc = refl
pins_from-alike (suc n) j p r s s' c c' hs hc = go (bit p j) (bit r j) (pins_from-alike n (suc j) p r)
  where
    go : (t u : Bool) → ((s s' c c' : List ℕ) → Alike s s' → Alike c c' → pins_from n (suc j) p r s c ≡ pins_from n (suc j) p r s' c')
        → cond t (cond u (record { src = first s; count = first c } ∷ pins_from n (suc j) p r (rest s) (rest c))
        (record { src = first s; count = 0 } ∷ pins_from n (suc j) p r (rest s) c)) (pins_from n (suc j) p r s c)
        ≡ cond t (cond u (record { src = first s'; count = first c' } ∷ pins_from n (suc j) p r (rest s') (rest c'))
        (record { src = first s'; count = 0 } ∷ pins_from n (suc j) p r (rest s') c')) (pins_from n (suc j) p r s' c')
    go true true more =
        ap₂ (λ (x : Pin) (l : List Pin). x ∷ l)
        (ap₂ (λ (a b : ℕ). record { src = a; count = b }) (first_alike s s' hs) (first_alike c c' hc))
        (more (rest s) (rest s') (rest c) (rest c') (rest-alike s s' hs) (rest-alike c c' hc))
    go true false more =
        ap₂ (λ (x : Pin) (l : List Pin). x ∷ l)
        (ap (λ (a : ℕ). record { src = a; count = 0 }) (first_alike s s' hs))
        (more (rest s) (rest s') c c' (rest-alike s s' hs) hc)
    go false u more = more s s' c c' hs hc
