-- Definitions: how LUTs kept in arrays feed each other, by their places.
use Rattle.std.specs.Prelude.{◌≡◌, Bool, true, false, cond, List, ℕ, zero, suc, ◌+◌, ◌-◌, ◌*◌, ◌≤◌, ◌<◌, eqb, ltb, ℤ, pos, length, get_or}
use Rattle.std.specs.Int.Signed.{mag}
use Rattle.integers.specs.Parts.{up, dn}
use Rattle.net_model.specs.Arrays.{stride}
use Rattle.limits.specs.Limits.{most_inputs, most_gates, most_luts, depth_room}

-- the place, counted from i, of the first of n roots from place i on that is u; n if there is none
unfoldable pub place_from : List ℕ → ℕ → ℕ → ℕ → ℕ
place_from roots i zero u = 0
place_from roots i (suc n) u = cond (eqb (get_or roots i 0) u) 0 (suc (place_from roots (suc i) n u))

abbrev pub place_in : List ℕ → ℕ → ℕ → ℕ
place_in roots n u = place_from roots 0 n u

-- the place of each node's LUT, in an array by node; n where there is none
pub record Spotted (roots : List ℕ) (n : ℕ) (spots : List ℕ) : Type 0 where
  pub each : (u : ℕ) → u < length spots → get_or spots u 0 ≡ place_in roots n u

-- node u is an input or has a LUT
abbrev pub Found : ℕ → List ℕ → ℕ → ℕ → Type 0
Found I spots n u = I ≤ u → get_or spots u 0 < n

-- leaf j of LUT i
abbrev pub leaf_in : List ℕ → ℕ → ℕ → ℕ
leaf_in l i j = get_or l (stride * i + j) 0

-- all leaves of LUT i are found
abbrev pub LutFed : ℕ → List ℕ → List ℕ → List ℕ → ℕ → ℕ → Type 0
LutFed I spots sizes nodes n i = (j : ℕ) → j < get_or sizes i 0 → Found I spots n (leaf_in nodes i j)

abbrev pub LutsFed : ℕ → List ℕ → List ℕ → List ℕ → ℕ → Type 0
LutsFed I spots sizes nodes n = (i : ℕ) → i < n → LutFed I spots sizes nodes n i

abbrev pub OutputsFed : ℕ → List ℕ → ℕ → List ℕ → ℕ → Type 0
OutputsFed I spots n outs O = (o : ℕ) → o < O → Found I spots n (get_or outs o 0)

-- lags are raised by this, so that none is below 0
abbrev pub base : ℕ
base = 256

abbrev pub raise : ℤ → ℕ
raise z = (base + up z) - dn z

abbrev pub raised_at : List ℤ → ℕ → ℕ
raised_at lags i = raise (get_or lags i (pos 0))

-- the raised lag of node u: an input's lag is 0, a gate's is that of its LUT
abbrev pub level_of : ℕ → List ℕ → List ℤ → ℕ → ℕ
level_of I spots lags u = cond (ltb u I) base (raised_at lags (get_or spots u 0))

-- leaf j of LUT i has 0 registers or more
abbrev pub LeafEnough : ℕ → List ℕ → List ℕ → List ℕ → List ℤ → ℕ → ℕ → Type 0
LeafEnough I spots nodes backs lags i j = level_of I spots lags (leaf_in nodes i j) ≤ leaf_in backs i j + raised_at lags i

abbrev pub LutEnough : ℕ → List ℕ → List ℕ → List ℕ → List ℕ → List ℤ → ℕ → Type 0
LutEnough I spots sizes nodes backs lags i = (j : ℕ) → j < get_or sizes i 0 → LeafEnough I spots nodes backs lags i j

abbrev pub LutsEnough : ℕ → List ℕ → List ℕ → List ℕ → List ℕ → List ℤ → ℕ → Type 0
LutsEnough I spots sizes nodes backs lags n = (i : ℕ) → i < n → LutEnough I spots sizes nodes backs lags i

-- output o has 0 registers or more
abbrev pub OutputEnough : ℕ → List ℕ → List ℤ → List ℕ → List ℕ → ℕ → Type 0
OutputEnough I spots lags outs delays o = level_of I spots lags (get_or outs o 0) ≤ get_or delays o 0 + base

abbrev pub OutputsEnough : ℕ → List ℕ → List ℤ → List ℕ → List ℕ → ℕ → Type 0
OutputsEnough I spots lags outs delays O = (o : ℕ) → o < O → OutputEnough I spots lags outs delays o

-- leaf j of LUT i is a gate, joined with 0 registers, and the LUT at its place has P
pub record LeafLong (P : ℕ → Type 0) (I : ℕ) (spots nodes backs : List ℕ) (lags : List ℤ) (i j : ℕ) : Type 0 where
  pub gate : I ≤ leaf_in nodes i j
  pub joined : raised_at lags (get_or spots (leaf_in nodes i j) 0) ≡ leaf_in backs i j + raised_at lags i
  pub feeder : P (get_or spots (leaf_in nodes i j) 0)

abbrev pub LutLong : (ℕ → Type 0) → ℕ → List ℕ → List ℕ → List ℕ → List ℕ → List ℤ → ℕ → Type 0
LutLong P I spots sizes nodes backs lags i = (j : ℕ) × (j < get_or sizes i 0) × LeafLong P I spots nodes backs lags i j

-- LUT i ends a chain of m + 1 LUTs
unfoldable pub LongAt : ℕ → List ℕ → List ℕ → List ℕ → List ℕ → List ℤ → ℕ → ℕ → Type 0
LongAt I spots sizes nodes backs lags zero i = Unit {0}
LongAt I spots sizes nodes backs lags (suc m) i = LutLong (LongAt I spots sizes nodes backs lags m) I spots sizes nodes backs lags i

abbrev pub NoneLong : ℕ → List ℕ → List ℕ → List ℕ → List ℕ → List ℤ → ℕ → ℕ → Type 0
NoneLong I spots sizes nodes backs lags n m = (i : ℕ) → i < n → ¬ LongAt I spots sizes nodes backs lags m i

-- LUT i is marked
abbrev pub Marked : List Bool → ℕ → Type 0
Marked l i = get_or l i false ≡ true

-- room for the LUTs' marks
abbrev pub most : ℕ
most = most_luts

-- the two arrays have the same first n marks
abbrev pub Same : List Bool → List Bool → ℕ → Type 0
Same a b n = (i : ℕ) → i < n → get_or a i false ≡ get_or b i false

-- ---- what the arrays are asked

-- the leaves of n LUTs, and places for their nodes
pub record LeafRoom (spots sizes nodes : List ℕ) (n : ℕ) : Type 0 where
  pub few : n ≤ most
  pub at_sizes : n ≤ length sizes
  pub at_nodes : stride * n ≤ length nodes
  pub leaves : (i : ℕ) → i < n → get_or sizes i 0 ≤ stride
  pub node : (i j : ℕ) → i < n → j < get_or sizes i 0 → leaf_in nodes i j < length spots

pub record LagRoom (lags : List ℤ) (n : ℕ) : Type 0 where
  pub at_lags : n ≤ length lags
  pub lag : (i : ℕ) → i < n → mag (get_or lags i (pos 0)) ≤ 128

-- leaf j of LUT i is found, and its d is not large
pub record LeafAsked (I : ℕ) (spots nodes backs : List ℕ) (n i j : ℕ) : Type 0 where
  pub at_node : stride * i + j < length nodes
  pub at_back : stride * i + j < length backs
  pub at_spot : leaf_in nodes i j < length spots
  pub found : Found I spots n (leaf_in nodes i j)
  pub back : leaf_in backs i j < depth_room

-- n LUTs, with the places of their roots by node
pub record LutsPlaced (spots sizes nodes backs : List ℕ) (lags : List ℤ) (n : ℕ) : Type 0 where
  pub leaf_room : LeafRoom spots sizes nodes n
  pub lag_room : LagRoom lags n
  pub at_backs : stride * n ≤ length backs
  pub back : (i j : ℕ) → i < n → j < get_or sizes i 0 → leaf_in backs i j < depth_room

-- n LUTs of a net with I inputs and G gates
pub record LutsJoined (I G : ℕ) (roots sizes nodes backs : List ℕ) (lags : List ℤ) (n : ℕ) : Type 0 where
  pub inputs : I ≤ most_inputs
  pub gates : G ≤ most_gates
  pub few : n ≤ most
  pub at_roots : n ≤ length roots
  pub at_sizes : n ≤ length sizes
  pub at_nodes : stride * n ≤ length nodes
  pub at_backs : stride * n ≤ length backs
  pub leaves : (i : ℕ) → i < n → get_or sizes i 0 ≤ stride
  pub lag_room : LagRoom lags n
  pub low : (i : ℕ) → i < n → I ≤ get_or roots i 0
  pub high : (i : ℕ) → i < n → get_or roots i 0 < I + G
  pub node : (i j : ℕ) → i < n → j < get_or sizes i 0 → leaf_in nodes i j < I + G
  pub back : (i j : ℕ) → i < n → j < get_or sizes i 0 → leaf_in backs i j < depth_room
