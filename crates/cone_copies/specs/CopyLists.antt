-- Definitions: lists of copies and a net's wiring kept in arrays, and orders of such lists.
use Rattle.std.specs.Prelude.{◌≡◌, List, ℕ, ◌+◌, ◌*◌, ◌≤◌, ◌<◌, length, get_or}
use Rattle.limits.specs.Limits.{most_inputs, most_gates, most_nodes, most_count, most_copies}
use Rattle.sequences.specs.Member.{◌∈◌, Within}
use Rattle.net_model.specs.Net.{Net}
use Rattle.net_model.specs.Arrays.{stride, copies_from}
use Rattle.net_model.specs.Copies.{Copy, copy, Feeds}
use Rattle.net_model.specs.Wired.{Wires}

-- the first n copies
unfoldable pub copies_in : List ℕ → List ℕ → ℕ → List Copy
unfolding copies_from
copies_in nodes backs n = copies_from nodes backs 0 n

-- most registers on a pin
abbrev pub most : ℕ
most = most_count

-- a wiring within the limits: few inputs, few gates, few registers on a pin
pub record SmallWires (I G : ℕ) (ps sources counts : List ℕ) : Type 0 where
  pub wires : Wires I G ps sources counts
  pub inputs : I ≤ most_inputs
  pub gates : G ≤ most_gates
  pub count : (g j : ℕ) → g < G → j < get_or ps g 0 → get_or counts (stride * g + j) 0 ≤ most

-- the copy that feeds the copy of gate g, b registers back, at pin j
abbrev pub source_at : List ℕ → List ℕ → ℕ → ℕ → ℕ → Copy
source_at sources counts g b j = copy (get_or sources (stride * g + j) 0) (b + get_or counts (stride * g + j) 0)

-- room for the members of a cone
abbrev pub members : ℕ
members = most_copies

-- the place of pin j of gate g, and what stands there
pub record Place (sources counts : List ℕ) (g j : ℕ) : Type 0 where
  pub room : stride * g + j < length sources
  pub room' : stride * g + j < length counts
  pub small : stride * g + j < members
  pub count : get_or counts (stride * g + j) 0 ≤ most
  pub node : get_or sources (stride * g + j) 0 < most_nodes

-- the arrays of a list of len copies
pub record Room (us ds : List ℕ) (len : ℕ) : Type 0 where
  pub nodes : length us ≡ members
  pub backs : length ds ≡ members
  pub some : 1 ≤ len
  pub fits : len ≤ members

-- the copies of C are copies of gates, and not far back
pub record Bounded (I G : ℕ) (C : List Copy) : Type 0 where
  pub low : (c : Copy) → c ∈ C → I ≤ c.node
  pub high : (c : Copy) → c ∈ C → c.node < I + G
  pub near : (c : Copy) → c ∈ C → c.back + most ≤ most * length C

-- sources come first: each copy of C that feeds the copy at place p stands at a place before p
abbrev pub SourcesFirst : Net → List Copy → Type 0
SourcesFirst N C = (p : ℕ) → p < length C → (y : Copy) → y ∈ C → Feeds N y (get_or C p (copy 0 0)) → (q : ℕ) × (q < p) × (get_or C q (copy 0 0) ≡ y)

-- the same copies in another order
pub record Mixed (C C' : List Copy) : Type 0 where
  pub long : length C' ≡ length C
  pub stay : Within C C'
  pub come : Within C' C
