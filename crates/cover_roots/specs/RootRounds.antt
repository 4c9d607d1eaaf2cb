-- Definitions: one root after another: what holds of the cover kept between two of them, and at the end.
use Rattle.std.specs.Prelude.{◌≡◌, List, Option, Some, None, IfSome, ℕ, ◌+◌, ◌*◌, ◌≤◌, ◌<◌, ℤ, get_or}
use Rattle.net_model.specs.Copies.{Copy}
use Rattle.net_model.specs.Arrays.{stride, copies_from}
use Rattle.cover_theory.specs.Key.{Root}
use Rattle.cover_records.specs.Rows.{sizes_in, nodes_in, backs_in}
use Rattle.label_theory.specs.Labels.{Mode}
use Rattle.cut_circuit.specs.Circuit.{Circuit}
use Rattle.cover_roots.specs.Choosing.{Keyed, Reads}
use Rattle.cover_roots.specs.RootMarks.{Among, Marks}

-- Leaves were found, and the first numbers of two lists are those of gate g's chosen cut.
pub record CutWritten (M : Mode) (C : Circuit) (ls : List ℤ) (φ k g : ℕ) (nodes backs : List ℕ) (found : Option ℕ) : Type 0 where
  pub leaves : (c : Keyed M C ls φ k) → (r : ℕ) × (found ≡ Some r) × (r ≤ k) × (copies_from nodes backs 0 r ≡ c.key.leaves (C.inputs + g))

-- of a part that ends at a place, only the places of one gate, from place `at` on, may differ
pub record Beside (at end : ℕ) (xs ys : List ℕ) : Type 0 where
  pub before : (i : ℕ) → i < at → get_or ys i 0 ≡ get_or xs i 0
  pub behind : (i : ℕ) → at + stride ≤ i → i < end → get_or ys i 0 ≡ get_or xs i 0

-- Gate g of G has mark 2. Other gates' numbers are as they were.
pub record Closed (G g : ℕ) (old new : List ℕ) : Type 0 where
  pub mark : get_or new g 0 ≡ 2
  pub marks : (u : ℕ) → u < G → ¬ (u ≡ g) → get_or new u 0 ≡ get_or old u 0
  pub sizes : (u : ℕ) → u < G → ¬ (u ≡ g) → get_or (sizes_in G new) u 0 ≡ get_or (sizes_in G old) u 0
  pub beside_nodes : Beside (stride * g) (stride * G) (nodes_in G old) (nodes_in G new)
  pub beside_backs : Beside (stride * g) (stride * G) (backs_in G old) (backs_in G new)

-- Gate g of G has r leaves: the first numbers of two lists, at its places.
pub record LeavesKept (G g r : ℕ) (nodes backs rows : List ℕ) : Type 0 where
  pub size : get_or (sizes_in G rows) g 0 ≡ r
  pub node : (i : ℕ) → i < r → get_or (nodes_in G rows) (stride * g + i) 0 ≡ get_or nodes i 0
  pub back : (i : ℕ) → i < r → get_or (backs_in G rows) (stride * g + i) 0 ≡ get_or backs i 0

-- Both.
pub record RowKept (G g r : ℕ) (nodes backs old new : List ℕ) : Type 0 where
  pub closed : Closed G g old new
  pub leaves : LeavesKept G g r nodes backs new

-- u is one of the leaves that were found
abbrev pub LeafGate : ℕ → ℕ → List ℕ → Option ℕ → ℕ → Type 0
LeafGate I G nodes None u = ⊥
LeafGate I G nodes (Some r) u = Among I G nodes 0 r u

-- Gate g is done: the leaves that were found are kept, and then those that are gates are marked.
pub record Stored (I G g : ℕ) (nodes backs : List ℕ) (found : Option ℕ) (old new : List ℕ) : Type 0 where
  pub mid : List ℕ
  pub closed : Closed G g old mid
  pub leaves : IfSome found (λ r. LeavesKept G g r nodes backs mid)
  pub marking : Marks (LeafGate I G nodes found) mid new

-- The cut is taken and gate g is done.
pub record Taken (M : Mode) (C : Circuit) (ls : List ℤ) (φ k g : ℕ) (old new : List ℕ) : Type 0 where
  pub found : Option ℕ
  pub nodes : List ℕ
  pub backs : List ℕ
  pub cut : CutWritten M C ls φ k g nodes backs found
  pub stored : Stored C.inputs C.gates g nodes backs found old new

-- The leaves of gate g are L, and those that are gates are marked.
pub record Done (I G k g : ℕ) (L : List Copy) (rows : List ℕ) : Type 0 where
  pub size : get_or (sizes_in G rows) g 0 ≤ k
  pub leaves : copies_from (nodes_in G rows) (backs_in G rows) (stride * g) (get_or (sizes_in G rows) g 0) ≡ L
  pub closed : (u : ℕ) → Among I G (nodes_in G rows) (stride * g) (stride * g + get_or (sizes_in G rows) g 0) u → ¬ (get_or rows u 0 ≡ 0)

-- The marked gates are roots. Those that are done have their leaves, and all gates that these and the outputs read are marked.
pub record Choosing (M : Mode) (C : Circuit) (ls : List ℤ) (os : List ℕ) (n φ k : ℕ) (rows : List ℕ) : Type 0 where
  pub most : (g : ℕ) → g < C.gates → get_or rows g 0 ≤ 2
  pub sources : (g : ℕ) → Among C.inputs C.gates os 0 n g → ¬ (get_or rows g 0 ≡ 0)
  pub root : (c : Keyed M C ls φ k) → Reads c.net os n → (g : ℕ) → g < C.gates → ¬ (get_or rows g 0 ≡ 0) → Root c.net c.key.leaves (C.inputs + g)
  pub done : (c : Keyed M C ls φ k) → (g : ℕ) → g < C.gates → get_or rows g 0 ≡ 2 → Done C.inputs C.gates k g (c.key.leaves (C.inputs + g)) rows
