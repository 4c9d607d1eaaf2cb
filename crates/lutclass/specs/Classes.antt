-- Definitions: classes of three-input LUTs (document 02, E12). A table of three leaves is a number below 256.
use Rattle.std.specs.Prelude.{◌≡◌, Bool, true, false, not, [], ◌∷◌, ℕ, ◌≤◌}
use Rattle.net_model.specs.Tables.{bit, apply, pack}

-- the three leaves of a LUT
pub data LutLeaf : Type 0 where
  leaf0 leaf1 leaf2 : LutLeaf

-- "leaves reordered": leaf l of the old LUT is fed from leaf `to l` of the new one, and each new leaf feeds one old leaf, `from` it.
pub record LeafOrder : Type 0 where
  pub to : LutLeaf → LutLeaf
  pub from : LutLeaf → LutLeaf
  pub to-from : (l : LutLeaf) → to (from l) ≡ l
  pub from-to : (l : LutLeaf) → from (to l) ≡ l

-- "leaves reordered, leaves inverted, output inverted"
pub record Turning : Type 0 where
  pub order : LeafOrder
  pub inverts : LutLeaf → Bool
  pub output : Bool

-- a value, inverted or not
abbrev pub flipped : Bool → Bool → Bool
flipped true b = not b
flipped false b = b

-- the values of the leaves in choice i, "leaf j being bit j"
abbrev pub choice : ℕ → LutLeaf → Bool
choice i leaf0 = bit i 0
choice i leaf1 = bit i 1
choice i leaf2 = bit i 2

-- the value of a table where the leaves carry v
abbrev pub value_for : ℕ → (LutLeaf → Bool) → Bool
value_for f v = apply f (v leaf0 ∷ v leaf1 ∷ v leaf2 ∷ [])

-- what reaches the old leaves where the new ones carry v
abbrev pub reaching : Turning → (LutLeaf → Bool) → LutLeaf → Bool
reaching t v l = flipped (t.inverts l) (v (t.order.to l))

-- the table that f is turned into
unfoldable pub turn : Turning → ℕ → ℕ
turn t f = pack (λ i. flipped t.output (value_for f (reaching t (choice i)))) 8

-- "can be turned into"
pub record TurnsInto (f g : ℕ) : Type 0 where
  pub by : Turning
  pub makes : turn by f ≡ g

-- "entry f being the smallest table that f can be turned into"
pub record IsClass (f c : ℕ) : Type 0 where
  pub reached : TurnsInto f c
  pub least : (g : ℕ) → TurnsInto f g → c ≤ g
