-- Definitions: a walk from a root to its leaves, depth first. Copies that were left stand in a list, sources first; open ones on a stack, each with the number of its pins that were passed; a
-- table of marks has a byte for each copy u:d, at place u·width + d.
use Rattle.std.specs.Prelude.{◌≡◌, List, ◌⊎◌, ℕ, ◌+◌, ◌-◌, ◌*◌, ◌%◌, ◌≤◌, ◌<◌, length, get_or, Option, MatchOption}
use Rattle.limits.specs.Limits.{most_reach, most_beyond}
use Rattle.sequences.specs.Member.{◌∈◌}
use Rattle.sequences.specs.Tests.{First}
use Rattle.net_model.specs.Net.{Net}
use Rattle.net_model.specs.Checks.{Loopless}
use Rattle.net_model.specs.Arrays.{stride, copy_at}
use Rattle.net_model.specs.Copies.{Copy, copy, IsCone, IsLeaves, IsCut}
use Rattle.net_model.specs.Wired.{Wires, Wired}
use Rattle.cone_theory.specs.Ranks.{Ranked}
use Rattle.cone_theory.specs.Reach.{reach_of}
use Rattle.cone_theory.specs.CopyOrder.{Levels, measure}
use Rattle.cone_copies.specs.CopyLists.{source_at, copies_in, SourcesFirst}
use Rattle.cone_walk.specs.Walking.{Walked, Refuted}
use Rattle.cone_walk.specs.declared.Cone.{Cone}

abbrev pub nobody : Copy
nobody = copy 0 0

-- the copy's place in the table
abbrev pub place : ℕ → Copy → ℕ
place width c = c.node * width + c.back

-- with document 01's limits: places for a node's copies in the table
abbrev pub wide_most : ℕ
wide_most = most_reach + most_beyond

-- a table without marks
abbrev pub Clear : List ℕ → Type 0
Clear marks = (q : ℕ) → get_or marks q 0 ≡ 0

-- the mark of an open copy, and that of the copy at place p of the list
abbrev pub open_mark : ℕ
open_mark = 1

abbrev pub seat_mark : ℕ → ℕ
seat_mark p = p % 254 + 2

-- a copy of a gate, not beyond the border
pub record Inside (I G border : ℕ) (c : Copy) : Type 0 where
  pub low : I ≤ c.node
  pub high : c.node < I + G
  pub near : c.back ≤ border

-- a net's wiring and a table with a place for each copy within the border and for what feeds it
pub record Field (I G width border : ℕ) (ps so co marks : List ℕ) : Type 0 where
  pub wires : Wires I G ps so co
  pub wide : border < width
  pub near : (g j : ℕ) → g < G → j < get_or ps g 0 → border + get_or co (stride * g + j) 0 < width
  pub table : (I + G) * width ≤ length marks

-- pin j of copy c, and the number of its pins
abbrev pub pin_of : ℕ → List ℕ → List ℕ → Copy → ℕ → Copy
pin_of I so co c j = source_at so co (c.node - I) c.back j

abbrev pub pins_of : ℕ → List ℕ → Copy → ℕ
pins_of I ps c = get_or ps (c.node - I) 0

-- a copy that was met, or a leaf that is marked as touched
abbrev pub Known : List Copy → List ℕ → List Copy → Copy → Type 0
Known L seen met y = (y ∈ met) ⊎ ((i : ℕ) × (i < length L) × (get_or L i nobody ≡ y) × (¬ (get_or seen i 0 ≡ 0)))

-- no pin has more than m registers
abbrev pub Counts : ℕ → List ℕ → List ℕ → ℕ → Type 0
Counts G ps co m = (g j : ℕ) → g < G → j < get_or ps g 0 → get_or co (stride * g + j) 0 ≤ m

-- The copies met are those in the list and those on the stack, and the table has their marks.
pub record Trail (I G width border : ℕ) (us ds : List ℕ) (len : ℕ) (hs bs : List ℕ) (depth : ℕ) (marks : List ℕ) (met : List Copy) : Type 0 where
  pub long : length met ≡ len + depth
  pub written : (p : ℕ) → p < len → copy_at us ds p ∈ met
  pub stacked : (k : ℕ) → k < depth → copy_at hs bs k ∈ met
  pub split : (c : Copy) → c ∈ met → ((p : ℕ) × (p < len) × (copy_at us ds p ≡ c)) ⊎ ((k : ℕ) × (k < depth) × (copy_at hs bs k ≡ c))
  pub inside : (c : Copy) → c ∈ met → Inside I G border c
  pub once : (k l : ℕ) → k < l → l < depth → ¬ (copy_at hs bs k ≡ copy_at hs bs l)
  pub seats : (p : ℕ) → p < len → get_or marks (place width (copy_at us ds p)) 0 ≡ seat_mark p
  pub opened : (k : ℕ) → k < depth → get_or marks (place width (copy_at hs bs k)) 0 ≡ open_mark
  pub sound : (q : ℕ) → ¬ (get_or marks q 0 ≡ 0) → (c : Copy) × (c ∈ met) × (place width c ≡ q)

-- The walk from v with the leaves L, of any net with this wiring.
pub record State (I G width border : ℕ) (ps so co : List ℕ) (L : List Copy) (v : ℕ) (us ds : List ℕ) (len : ℕ) (hs bs ts : List ℕ) (depth : ℕ) (marks seen : List ℕ) : Type 0 where
  pub met : List Copy
  pub trail : Trail I G width border us ds len hs bs depth marks met
  pub few : (k : ℕ) → k < depth → get_or ts k 0 ≤ pins_of I ps (copy_at hs bs k)
  pub turned : (k : ℕ) → k < depth → (j : ℕ) → j < get_or ts k 0 → Known L seen met (pin_of I so co (copy_at hs bs k) j)
  pub closed : (p : ℕ) → p < len → (j : ℕ) → j < pins_of I ps (copy_at us ds p) → Known L seen met (pin_of I so co (copy_at us ds p) j)
  pub fed : (i : ℕ) → i < length L → ¬ (get_or seen i 0 ≡ 0) → (x : Copy) × (x ∈ met) × ((j : ℕ) × (j < pins_of I ps x) × (pin_of I so co x j ≡ get_or L i nobody))
  pub close : (m : ℕ) → Counts G ps co m → (c : Copy) → c ∈ met → c.back + m ≤ length met * m
  pub walked : (N : Net) → Wired N I G ps so co → Walked N v L met
  pub falls : (N : Net) → Wired N I G ps so co → (O : Levels N) → (k l : ℕ) → k < l → l < depth → measure O border (copy_at hs bs l) < measure O border (copy_at hs bs k)
  pub order : (N : Net) → Wired N I G ps so co → Levels N → (p : ℕ) → p < len → (j : ℕ) → j < pins_of I ps (copy_at us ds p)
      → ((q : ℕ) × (q < p) × (copy_at us ds q ≡ pin_of I so co (copy_at us ds p) j)) ⊎ (pin_of I so co (copy_at us ds p) j ∈ L)
  pub base : 1 ≤ depth → copy_at hs bs 0 ≡ copy v 0
  pub last : depth ≡ 0 → (1 ≤ len) × (copy_at us ds (len - 1) ≡ copy v 0)

-- there is no cut: no cone of v has these leaves, where the border is as far as cones reach
abbrev pub Denied : ℕ → ℕ → ℕ → List ℕ → List ℕ → List ℕ → List Copy → ℕ → Type 0
Denied I G border ps so co L v = (N : Net) → Wired N I G ps so co → Ranked N → length L * reach_of N ≤ border → Refuted N v L

-- the copies of the list have their places as marks
abbrev pub Marked : ℕ → List ℕ → List ℕ → ℕ → List ℕ → Type 0
Marked width us ds len marks = (p : ℕ) → p < len → get_or marks (place width (copy_at us ds p)) 0 ≡ seat_mark p

-- and nothing else is marked
pub record Seated (width : ℕ) (us ds : List ℕ) (len : ℕ) (marks : List ℕ) : Type 0 where
  pub byte : Marked width us ds len marks
  pub sound : (q : ℕ) → ¬ (get_or marks q 0 ≡ 0) → (p : ℕ) × (p < len) × (place width (copy_at us ds p) ≡ q)

-- the marks of the first len copies are gone, the others stay
pub record Wiped (width : ℕ) (us ds : List ℕ) (len : ℕ) (marks marks' : List ℕ) : Type 0 where
  pub each : (q : ℕ) → ¬ (get_or marks' q 0 ≡ 0) → (get_or marks' q 0 ≡ get_or marks q 0) × ((p : ℕ) → p < len → ¬ (place width (copy_at us ds p) ≡ q))

-- what the walk tells where there is a cut: len is the length of the list
pub record ToldCut (I G width border : ℕ) (ps so co : List ℕ) (L : List Copy) (v : ℕ) (us ds marks : List ℕ) (len : ℕ) : Type 0 where
  pub some : 1 ≤ len
  pub inside : (c : Copy) → c ∈ copies_in us ds len → Inside I G border c
  pub close : (m : ℕ) → Counts G ps co m → (c : Copy) → c ∈ copies_in us ds len → c.back + m ≤ len * m
  pub cone : (N : Net) → Wired N I G ps so co → IsCone N v (copies_in us ds len)
  pub leaves : (N : Net) → Wired N I G ps so co → IsLeaves N (copies_in us ds len) L
  pub order : (N : Net) → Wired N I G ps so co → Loopless N → SourcesFirst N (copies_in us ds len)
  pub last : copy_at us ds (len - 1) ≡ copy v 0
  pub fits : len ≤ length us
  pub seated : Seated width us ds len marks

-- and where there is none
pub record ToldNone (I G border : ℕ) (ps so co : List ℕ) (L : List Copy) (v : ℕ) (marks : List ℕ) : Type 0 where
  pub none : (N : Net) → Wired N I G ps so co → Ranked N → length L * reach_of N ≤ border → (k : ℕ) → ¬ IsCut N k v L
  pub clear : Clear marks

-- what the walk tells
abbrev pub Told : ℕ → ℕ → ℕ → ℕ → List ℕ → List ℕ → List ℕ → List Copy → ℕ → Option ℕ → List ℕ → List ℕ → List ℕ → Type 0
Told I G width border ps so co L v r us ds marks = MatchOption r (ToldNone I G border ps so co L v marks) (ToldCut I G width border ps so co L v us ds marks)

-- r is the place in the list of the copy y, whose place in the table is `at`, or len
abbrev pub Seat : List ℕ → List ℕ → ℕ → List ℕ → ℕ → Copy → ℕ → Type 0
Seat us ds len marks at y r = (width : ℕ) → place width y ≡ at → Marked width us ds len marks → First (λ j. copy_at us ds j ≡ y) len r

-- y stands at no place before p whose mark is this
abbrev pub Missed : List ℕ → List ℕ → Copy → ℕ → ℕ → Type 0
Missed us ds y mark p = (q : ℕ) → q < p → seat_mark q ≡ mark → ¬ (copy_at us ds q ≡ y)

-- with document 01's limits: the marks that the walk from gate g leaves, and where the root stands
pub record Placed (I g : ℕ) (r : Cone) (marks : List ℕ) : Type 0 where
  pub seated : Seated wide_most r.nodes r.backs r.len marks
  pub last : copy_at r.nodes r.backs (r.len - 1) ≡ copy (I + g) 0
