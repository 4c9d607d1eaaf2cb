-- Definitions: the turnings by number, 96 of them, and the smallest table that they make of f: what the generator computes.
use Rattle.std.specs.Prelude.{◌≡◌, refl, List, [], ◌∷◌, map, ℕ, zero, suc, ◌/◌, ◌%◌, min, get_or}
use Rattle.sequences.specs.Decide.{up_to}
use Rattle.net_model.specs.Tables.{bit}
use Rattle.lutclass.specs.Classes.{LutLeaf, leaf0, leaf1, leaf2, LeafOrder, Turning, choice, turn}

-- what a map of the leaves gives, leaf by leaf
abbrev pub by_leaf : LutLeaf → LutLeaf → LutLeaf → LutLeaf → LutLeaf
by_leaf a b c leaf0 = a
by_leaf a b c leaf1 = b
by_leaf a b c leaf2 = c

-- two maps, one back from the other at each leaf
abbrev pub Undoes : (LutLeaf → LutLeaf) → (LutLeaf → LutLeaf) → Type 0
Undoes m n = (m (n leaf0) ≡ leaf0) × (m (n leaf1) ≡ leaf1) × (m (n leaf2) ≡ leaf2)

abbrev pub undoes_at : (m n : LutLeaf → LutLeaf) → Undoes m n → (l : LutLeaf) → m (n l) ≡ l
undoes_at m n b leaf0 = b.0
undoes_at m n b leaf1 = b.1
undoes_at m n b leaf2 = b.2

abbrev pub order_by : (to from : LutLeaf → LutLeaf) → Undoes to from → Undoes from to → LeafOrder
order_by to from a b = record { to = to; from = from; to-from = undoes_at to from a; from-to = undoes_at from to b }

-- the leaves as they stand
abbrev pub straight : LeafOrder
straight = order_by (by_leaf leaf0 leaf1 leaf2) (by_leaf leaf0 leaf1 leaf2) (refl, refl, refl) (refl, refl, refl)

-- the six orders
unfoldable pub orders : List LeafOrder
orders =
    straight
    ∷ order_by (by_leaf leaf0 leaf2 leaf1) (by_leaf leaf0 leaf2 leaf1) (refl, refl, refl) (refl, refl, refl)
    ∷ order_by (by_leaf leaf1 leaf0 leaf2) (by_leaf leaf1 leaf0 leaf2) (refl, refl, refl) (refl, refl, refl)
    ∷ order_by (by_leaf leaf1 leaf2 leaf0) (by_leaf leaf2 leaf0 leaf1) (refl, refl, refl) (refl, refl, refl)
    ∷ order_by (by_leaf leaf2 leaf0 leaf1) (by_leaf leaf1 leaf2 leaf0) (refl, refl, refl) (refl, refl, refl)
    ∷ order_by (by_leaf leaf2 leaf1 leaf0) (by_leaf leaf2 leaf1 leaf0) (refl, refl, refl) (refl, refl, refl)
    ∷ []

-- turning n: order n / 16, leaf j inverted by bit j + 1 of n, the output by bit 0
unfoldable pub turning_at : ℕ → Turning
turning_at n = record { order = get_or orders (n / 16) straight; inverts = choice (n / 2 % 8); output = bit n 0 }

-- the smallest of s and the first n values of g
unfoldable pub least_of : (ℕ → ℕ) → ℕ → ℕ → ℕ
least_of g s zero = s
least_of g s (suc n) = min (g n) (least_of g s n)

-- the smallest of f and what the 96 turnings make of it
unfoldable pub class_of : ℕ → ℕ
class_of f = least_of (λ n. turn (turning_at n) f) f 96

-- the generator's numbers
unfoldable pub generated : List ℕ
generated = map class_of (up_to 256)
