-- Definitions: registers shared at their source (document 02, "E2: Registers shared at their source").
use Rattle.std.specs.Prelude.{◌≡◌, cond, List, [], ◌∷◌, ◌++◌, map, ◌⊎◌, ℕ, zero, suc, max, ◌+◌, ◌<◌, eqb, ℤ, pos, length, ◌≤ℤ◌}
use Rattle.integers.specs.Parts.{up}
use Rattle.sequences.specs.Member.{◌∈◌}
use Rattle.net_model.specs.Net.{Net, size}
use Rattle.net_model.specs.Copies.{Copy}
use Rattle.cover_theory.specs.Covers.{Cover, lut, registers, output, output_registers}

-- "all readers of a signal": a connection or an output, by the node that feeds it and the number of registers on it
pub record Tap : Type 0 where
  pub source : ℕ
  pub number : ℤ

abbrev pub tap : ℕ → ℤ → Tap
tap u n = record { source = u; number = n }

-- "for each node, the largest number on any connection or output it feeds": 0 where it feeds none. A cover has no number below 0; one would count as 0.
unfoldable pub longest : ℕ → List Tap → ℕ
longest u [] = 0
longest u (t ∷ ts) = cond (eqb t.source u) (max (up t.number) (longest u ts)) (longest u ts)

-- "added over all nodes": f added over the nodes below n
unfoldable pub over_nodes : (ℕ → ℕ) → ℕ → ℕ
over_nodes f zero = 0
over_nodes f (suc n) = f n + over_nodes f n

unfoldable pub shared_count : ℕ → List Tap → ℕ
unfolding over_nodes longest
shared_count n ts = over_nodes (λ u. longest u ts) n

-- ---- the connections and outputs of a cover

-- f i, f (i + 1) and so on, n of them, in one list
unfoldable pub gather : (ℕ → List Tap) → ℕ → ℕ → List Tap
gather f i zero = []
gather f i (suc n) = f i ++ gather f (suc i) n

-- the connections of LUT i: "A leaf u:d of a LUT with lag r fed from lag q has d + r − q registers"
unfoldable pub leaves_tapped : Net → Cover → ℕ → List Copy → List Tap
leaves_tapped N K i L = map (λ (y : Copy). tap y.node (registers N K i y)) L

abbrev pub lut_tapped : Net → Cover → ℕ → List Tap
lut_tapped N K i = leaves_tapped N K i (lut K i).leaves

-- output o: "an output has w − q"
abbrev pub output_tapped : Net → Cover → ℕ → List Tap
output_tapped N K o = tap (output N o).src (output_registers N K o) ∷ []

unfoldable pub cover_taps : Net → Cover → List Tap
unfolding gather leaves_tapped
cover_taps N K = gather (lut_tapped N K) 0 (length K.luts) ++ gather (output_tapped N K) 0 (length N.outputs)

-- t is one of them
pub data Reader (N : Net) (K : Cover) : Tap → Type 0 where
  leaf : {t : Tap} (i : ℕ) (y : Copy) → i < length K.luts → y ∈ (lut K i).leaves → t ≡ tap y.node (registers N K i y) → Reader N K t
  outgoing : {t : Tap} (o : ℕ) → o < length N.outputs → t ≡ tap (output N o).src (output_registers N K o) → Reader N K t

-- n is "the largest number on any connection or output" that node u feeds; 0 where it feeds none
pub record Largest (N : Net) (K : Cover) (u n : ℕ) : Type 0 where
  pub none-larger : (t : Tap) → Reader N K t → t.source ≡ u → t.number ≤ℤ pos n
  pub is_one : (((t : Tap) → Reader N K t → ¬ (t.source ≡ u)) × (n ≡ 0)) ⊎ ((t : Tap) × Reader N K t × (t.source ≡ u) × (t.number ≡ pos n))

-- "The count becomes, for each node, the largest number on any connection or output it feeds, added over all nodes." Nodes are inputs and gates.
unfoldable pub cover_registers : Net → Cover → ℕ
unfolding shared_count cover_taps
cover_registers N K = shared_count (size N) (cover_taps N K)

-- ---- chains

-- "Our chips tap one chain of registers for all readers of a signal." Behind node u stands a chain of `chain u` registers; a reader through n registers taps it behind the n-th,
-- which must be there.
abbrev pub Serves : (ℕ → ℕ) → (Tap → Type 0) → Type 0
Serves chain Reads = (t : Tap) → Reads t → t.number ≤ℤ pos (chain t.source)
