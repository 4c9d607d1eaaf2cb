-- Definitions: the chosen roots and the written cover (document 01, "Labels and the written cover").
use Rattle.std.specs.Prelude.{◌≡◌, cond, List, [], ◌∷◌, map, ℕ, suc, ◌<◌, eqb, ℤ}
use Rattle.integers.specs.Lag.{lag}
use Rattle.sequences.specs.Member.{◌∈◌}
use Rattle.net_model.specs.Net.{Net, Pin, IsGate}
use Rattle.net_model.specs.Copies.{Copy, Chosen}
use Rattle.net_model.specs.Tables.{table_of}
use Rattle.label_theory.specs.Labels.{Mode, plain, Inside, LeastIn, OutputsMet, Low, LowCutIn}
use Rattle.cover_theory.specs.Covers.{Lut, Cover, output}

-- "Chosen roots are the gate sources of outputs and then the gate leaves of chosen roots", where gate v takes the leaves `leaves v`.
pub data Root (N : Net) (leaves : ℕ → List Copy) : ℕ → Type 0 where
  source : {v : ℕ} (o : Pin) → o ∈ N.outputs → o.src ≡ v → IsGate N v → Root N leaves v
  leaf : {v : ℕ} (u : ℕ) (y : Copy) → Root N leaves u → y ∈ leaves u → y.node ≡ v → IsGate N v → Root N leaves v

abbrev pub RisingNumbers : List ℕ → Type 0
RisingNumbers [] = Unit {0}
RisingNumbers (a ∷ l) = ((b : ℕ) → b ∈ l → a < b) × RisingNumbers l

-- All that the written cover for a reachable target consists of: the least labelling, the chosen roots, rising, and for each gate the cut that
-- "Each takes, of the k-cuts with height at most its label". In forward mode (document 02, E6) "Labels, ties and lags follow 01, over cuts that also satisfy" what the mode asks.
pub record KeyIn (M : Mode) (N : Net) (k φ : ℕ) : Type 0 where
  pub label : ℕ → ℤ
  pub least : LeastIn M N k φ label
  pub outputs : OutputsMet N φ label
  pub cut : (v : ℕ) → IsGate N v → LowCutIn M N k φ label v (label v)
  pub chosen : (v : ℕ) (g : IsGate N v) → Chosen N k v (Low φ label (label v)) (Inside M φ (label v)) (cut v g)
  pub leaves : ℕ → List Copy
  pub cone : ℕ → List Copy
  pub is_leaves : (v : ℕ) (g : IsGate N v) → leaves v ≡ (cut v g).leaves
  pub is_cone : (v : ℕ) (g : IsGate N v) → cone v ≡ (cut v g).cone
  pub roots : List ℕ
  pub rising : RisingNumbers roots
  pub is_root : (v : ℕ) → v ∈ roots → Root N leaves v
  pub all_roots : (v : ℕ) → Root N leaves v → v ∈ roots

abbrev pub Key : Net → ℕ → ℕ → Type 0
Key = KeyIn plain

-- one LUT as a record holds it
pub record Entry : Type 0 where
  pub root : ℕ
  pub leaves : List Copy
  pub lag : ℤ
  pub table : ℕ

-- "LUTs by rising root, one per root", with "Its lag is ⌈label/φ⌉ − 1"
unfoldable pub entries : {M : Mode} {N : Net} {k φ : ℕ} → KeyIn M N k φ → List Entry
entries {M} {N} {k} {φ} K =
    map (λ (v : ℕ). record { root = v; leaves = K.leaves v; lag = lag φ (K.label v); table = table_of N v (K.cone v) (K.leaves v) }) K.roots

-- one of the LUTs has the root u
abbrev pub HasLut : List Entry → ℕ → Type 0
HasLut es u = (e : Entry) × (e ∈ es) × (e.root ≡ u)

-- the place of the LUT with root u; the number of LUTs if there is none
unfoldable pub place_of : List Entry → ℕ → ℕ
place_of [] u = 0
place_of (e ∷ es) u = cond (eqb e.root u) 0 (suc (place_of es u))

abbrev pub as_lut : Entry → Lut
as_lut e = record { root = e.root; leaves = e.leaves; lag = e.lag }

-- The cover that a record describes: "one per root", so a gate leaf and a gate source are fed by the LUT of their root.
abbrev pub as_cover : Net → List Entry → Cover
as_cover N es = record {
  luts = map as_lut es;
  feeder = λ i y. place_of es y.node;
  named = λ o. place_of es (output N o).src;
}
