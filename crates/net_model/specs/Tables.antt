-- Definitions: truth tables as numbers, and the table of a LUT (document 01, "Copies, cuts, covers").
use Rattle.std.specs.Prelude.{◌≡◌, Bool, true, false, cond, List, [], ◌∷◌, map, ℕ, zero, suc, ◌+◌, ◌*◌, ◌/◌, ◌%◌, ◌^◌, ◌<◌, eqb, length}
use Rattle.net_model.specs.Net.{Net, Pin, Gate, gate, pins}
use Rattle.net_model.specs.Copies.{Copy, copy}

-- bit i of a table
abbrev pub bit : ℕ → ℕ → Bool
bit w i = eqb (w / 2 ^ i % 2) 1

abbrev pub as_number : Bool → ℕ
as_number true = 1
as_number false = 0

-- the number whose bit j is the j-th value
abbrev pub index : List Bool → ℕ
index [] = 0
index (b ∷ bs) = as_number b + 2 * index bs

-- a table applied to the values of its pins: "bit i the value where the j-th present pin carries bit j of i"
abbrev pub apply : ℕ → List Bool → Bool
apply table values = bit table (index values)

-- the copies that feed x, pin by pin
abbrev pub feeding : Net → Copy → List Copy
feeding N x = map (λ (p : Pin). copy p.src (x.back + p.count)) (pins N x.node)

-- two copies are the same
abbrev pub same : Copy → Copy → Bool
same a b = cond (eqb a.node b.node) (eqb a.back b.back) false

-- "leaf j being bit j": the value of copy c in choice i, found at its place among the leaves; else what `inner` says.
unfoldable pub at_leaf : List Copy → ℕ → Copy → Bool → Bool
at_leaf [] i c inner = inner
at_leaf (y ∷ L) i c inner = cond (same y c) (bit i 0) (at_leaf L (i / 2) c inner)

-- The value of copy c for choice i of the leaves' values: at a leaf its own; at a gate copy its table applied to the values of the copies
-- that feed it. A chain of feeds inside a cone has no more copies than the cone: `steps` is their number.
unfoldable pub value_in : Net → List Copy → ℕ → ℕ → Copy → Bool
value_in N L i zero c = at_leaf L i c false
value_in N L i (suc steps) c =
    let inner : Bool = apply (gate N c.node).table (map (value_in N L i steps) (feeding N c)) in
    at_leaf L i c inner

-- bits 0 to n − 1 of a table from its values
unfoldable pub pack : (ℕ → Bool) → ℕ → ℕ
pack f zero = 0
pack f (suc n) = as_number (f 0) + 2 * pack (λ i. f (suc i)) n

-- "A LUT's table is the value of v:0 for each choice of leaf values, leaf j being bit j": a cone C of v with the leaves L.
unfoldable pub table_of : Net → ℕ → List Copy → List Copy → ℕ
table_of N v C L = pack (λ i. value_in N L i (length C) (copy v 0)) (2 ^ length L)
