-- Laws: the connections and outputs of a record, and the nodes that feed those of a written cover.
use Rattle.std.specs.Prelude.{◌≡◌, refl, List, [], ◌∷◌, ◌⊎◌, ℕ, ℤ}
use Rattle.std.proofs.Common.{sym, ap, subst, inl, inr}
use Rattle.sequences.specs.Member.{◌∈◌, here, there, not_in_nil, in_append_cases}
use Rattle.net_model.specs.Net.{Net, Pin, IsNode}
use Rattle.net_model.specs.Checks.{Sound}
use Rattle.net_model.specs.Copies.{Copy}
use Rattle.label_theory.specs.Lower.{leaf-node}
use Rattle.cover_theory.specs.Key.{Key, Entry, entries}
use Rattle.cover_period.specs.KeyOf.{key-labelled}
use Rattle.cover_theory.specs.SharedRegisters.{Tap}
use Rattle.cover_records.specs.Listing.{leaf_taps, lut_taps, output_taps, entry_taps}

leaf-source : (all : List Entry) (r : ℤ) (L : List Copy) {t : Tap} → t ∈ leaf_taps all r L → (y : Copy) × (y ∈ L) × (t.source ≡ y.node)
unfolding leaf_taps
leaf-source all r [] m = absurd (not_in_nil m)
leaf-source all r (y ∷ L) {t} m = go (leaf-source all r L) m
  where
    go : (t ∈ leaf_taps all r L → (z : Copy) × (z ∈ L) × (t.source ≡ z.node)) → t ∈ leaf_taps all r (y ∷ L) → (z : Copy) × (z ∈ y ∷ L) × (t.source ≡ z.node)
    go rest (here e) = (y, here refl, ap (λ (z : Tap). z.source) e)
    go rest (there i) = let h = rest i in (h.0, there h.1, h.2)

lut-source : (all es : List Entry) {t : Tap} → t ∈ lut_taps all es → (e : Entry) × (e ∈ es) × ((y : Copy) × (y ∈ e.leaves) × (t.source ≡ y.node))
unfolding lut_taps
lut-source all [] m = absurd (not_in_nil m)
lut-source all (e ∷ es) {t} m = go (lut-source all es) (in_append_cases (leaf_taps all e.lag e.leaves) m)
  where
    go : (t ∈ lut_taps all es → (f : Entry) × (f ∈ es) × ((y : Copy) × (y ∈ f.leaves) × (t.source ≡ y.node))) → (t ∈ leaf_taps all e.lag e.leaves) ⊎ (t ∈ lut_taps all es)
        → (f : Entry) × (f ∈ e ∷ es) × ((y : Copy) × (y ∈ f.leaves) × (t.source ≡ y.node))
    go rest (inl i) = (e, here refl, leaf-source all e.lag e.leaves i)
    go rest (inr i) = let h = rest i in (h.0, there h.1, h.2)

output-source : (all : List Entry) (os : List Pin) {t : Tap} → t ∈ output_taps all os → (o : Pin) × (o ∈ os) × (t.source ≡ o.src)
unfolding output_taps
output-source all [] m = absurd (not_in_nil m)
output-source all (o ∷ os) {t} m = go (output-source all os) m
  where
    go : (t ∈ output_taps all os → (p : Pin) × (p ∈ os) × (t.source ≡ p.src)) → t ∈ output_taps all (o ∷ os) → (p : Pin) × (p ∈ o ∷ os) × (t.source ≡ p.src)
    go rest (here e) = (o, here refl, ap (λ (z : Tap). z.source) e)
    go rest (there i) = let h = rest i in (h.0, there h.1, h.2)

-- **What feeds the connections and outputs of a written cover are nodes of the net.**
pub key-sources : {N : Net} {k φ : ℕ} → Sound N → (K : Key N k φ) → (t : Tap) → t ∈ entry_taps N (entries K) → IsNode N t.source
unfolding entry_taps
key-sources {N} s K t m = go (in_append_cases (lut_taps (entries K) (entries K)) m)
  where
    go : (t ∈ lut_taps (entries K) (entries K)) ⊎ (t ∈ output_taps (entries K) N.outputs) → IsNode N t.source
    go (inl i) =
        let h = lut-source (entries K) (entries K) i in
        let y = h.2 in
        let c = (key-labelled K).cut h.0 h.1 in
        subst (IsNode N) (sym y.2) (leaf-node s c.0.is_leaves (subst (λ (L : List Copy). y.0 ∈ L) c.1 y.1))
    go (inr i) = let h = output-source (entries K) N.outputs i in subst (IsNode N) (sym h.2) (s.output h.0 h.1)
