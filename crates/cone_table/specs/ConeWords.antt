-- Definitions: the words of a cone's copies: bit i is the copy's value in choice i of the leaves' values, from the words of the copies before it.
use Rattle.std.specs.Prelude.{◌≡◌, Bool, List, ℕ, ◌+◌, ◌-◌, ◌^◌, ◌≤◌, ◌<◌, length, get_or}
use Rattle.limits.specs.Limits.{most_pins, most_table}
use Rattle.sequences.specs.Member.{◌∈◌}
use Rattle.net_model.specs.Net.{Net, gate}
use Rattle.net_model.specs.Wired.{Wired}
use Rattle.net_model.specs.Copies.{Copy, copy, IsCone, IsLeaves, Rising}
use Rattle.net_model.specs.Tables.{bit, at_leaf, value_in}
use Rattle.net_model.specs.FullTables.{full_of}
use Rattle.cone_words.specs.LeafWords.{Composed}
use Rattle.cone_copies.specs.CopyLists.{copies_in, source_at, SmallWires, Room, Bounded, SourcesFirst}
use Rattle.cone_descent.specs.Descent.{wide_most, Marked}

-- What a table over a cone asks: the wiring, the tables, n leaves that rise, a list of gate copies, and their places as marks.
pub record Given (I G : ℕ) (ps sources counts ts ln lb : List ℕ) (n : ℕ) (us ds : List ℕ) (len : ℕ) (marks : List ℕ) : Type 0 where
  pub wires : SmallWires I G ps sources counts
  pub tables : G ≤ length ts
  pub few : n ≤ most_pins
  pub leaf_nodes : n ≤ length ln
  pub leaf_backs : n ≤ length lb
  pub rising : Rising (copies_in ln lb n)
  pub room : Room us ds len
  pub bounded : Bounded I G (copies_in us ds len)
  pub space : most_table ≤ length marks
  pub marked : Marked wide_most us ds len marks

-- the tables of a net's gates
pub record Tabled (N : Net) (I G : ℕ) (tables : List ℕ) : Type 0 where
  pub table : (g : ℕ) → g < G → (gate N (I + g)).table ≡ get_or tables g 0

-- r is the word of y: a leaf's own, or that of a copy of C
pub record Carries (L C : List Copy) (words : List ℕ) (y : Copy) (r : ℕ) : Type 0 where
  pub leaf : y ∈ L → (i : ℕ) → i < 64 → (b : Bool) → bit r i ≡ at_leaf L i y b
  pub other : ¬ (y ∈ L) → y ∈ C → (p : ℕ) × (p < length C) × (get_or C p (copy 0 0) ≡ y) × (r ≡ get_or words p 0)

-- r is the table of gate g applied, in n choices, to the words of the m copies that feed its copy b registers back
pub record CopyWord (sources counts : List ℕ) (L C : List Copy) (words : List ℕ) (table g m b n r : ℕ) : Type 0 where
  pub fed : List ℕ
  pub size : m ≤ length fed
  pub each : (j : ℕ) → j < m → Carries L C words (source_at sources counts g b j) (get_or fed j 0)
  pub word : Composed table fed m n r

-- the word of the copy at place p of the list, from the words of those before it
abbrev pub WordAt : ℕ → List ℕ → List ℕ → List ℕ → List ℕ → List Copy → List ℕ → List ℕ → ℕ → List ℕ → ℕ → ℕ → Type 0
WordAt I ps sources counts tables L nodes backs p words n r =
    CopyWord sources counts L (copies_in nodes backs p) words (get_or tables (get_or nodes p 0 - I) 0) (get_or nodes p 0 - I) (get_or ps (get_or nodes p 0 - I) 0) (get_or backs p 0) n r

-- the words of C are the values, in n choices, after more steps than there are copies before
abbrev pub Right : Net → List Copy → List Copy → List ℕ → ℕ → Type 0
Right N L C words n = (p : ℕ) → p < length C → (i : ℕ) → i < n → (t : ℕ) → p < t → bit (get_or words p 0) i ≡ value_in N L i t (get_or C p (copy 0 0))

-- the words of the first p of len copies are right for every net with this wiring and these tables, where the leaves of the copies are L and sources come first
pub record WordsSettled (I G : ℕ) (ps sources counts tables : List ℕ) (L : List Copy) (nodes backs : List ℕ) (len : ℕ) (words : List ℕ) (n p : ℕ) : Type 0 where
  pub small : (q : ℕ) → q < p → get_or words q 0 < 2 ^ n
  pub right : (N : Net) → Wired N I G ps sources counts → Tabled N I G tables → IsLeaves N (copies_in nodes backs len) L → SourcesFirst N (copies_in nodes backs len)
      → Right N L (copies_in nodes backs p) words n

-- r is the LUT's full table for every such net, where C is a cone of v
abbrev pub TableOver : ℕ → ℕ → List ℕ → List ℕ → List ℕ → List ℕ → List Copy → List Copy → ℕ → ℕ → Type 0
TableOver I G ps sources counts tables L C v r =
    (N : Net) → Wired N I G ps sources counts → Tabled N I G tables → IsCone N v C → IsLeaves N C L → SourcesFirst N C → r ≡ full_of N v C L
