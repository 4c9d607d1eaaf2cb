-- Definitions: what the arrays of a cover hold: the period, the labels and the LUTs of a net's written cover.
use Rattle.std.specs.Prelude.{◌≡◌, List, Option, MatchOption, ℕ, ◌+◌, ◌*◌, ◌≤◌, ◌<◌, ℤ, pos, length, get_or, drop, replicate}
use Rattle.net_model.specs.Net.{Net, IsGate}
use Rattle.net_model.specs.Arrays.{stride, pins_in, net_in}
use Rattle.net_model.specs.Checks.{Passed}
use Rattle.net_model.specs.PackedNet.{packed_room, order_at, NetKept}
use Rattle.limits.specs.Limits.{least_k, most_k, most_period, most_table, most_held}
use Rattle.label_theory.specs.Labels.{Mode, ReachableIn}
use Rattle.cover_theory.specs.Key.{KeyIn, entries}
use Rattle.cover_records.specs.Kept.{Kept, entries_in, Whole}
use Rattle.cover_records.specs.Rows.{row_room}
use Rattle.signed.specs.Range.{Small}
use Rattle.net_reader.specs.ReadAnswer.{arrays_of}
use Rattle.net_reader.specs.WalkFacts.{WalkFacts}
use Rattle.net_reader.specs.Rooms.{NetRoom}
use Rattle.net_reader.specs.declared.NetSizes.{NetSizes}
use Rattle.net_checks.specs.Graphs.{Graph}
use Rattle.cone_copies.specs.CopyLists.{SmallWires}
use Rattle.cone_table.specs.ConeWords.{Tabled}
use Rattle.cut_circuit.specs.Circuit.{Layout}
use Rattle.cut_circuit.specs.Chains.{Chains}
use Rattle.cut_circuit.specs.Packed.{packed_of, sources_at, counts_at}
use Rattle.cut_circuit.specs.declared.Extent.{Extent}
use Rattle.label_visit.specs.LabelVisits.{Suits, wiring, tops_in}
use Rattle.label_sweep.specs.Sweeps.{order_in, outs_in, delays_in}
use Rattle.label_period.specs.PeriodSearch.{FirstReached}
use Rattle.job_plan.specs.Found.{cap_in, PeriodAsked}

-- The cover kept in a is the one written for N, k and the period kept.
pub record Covered (M : Mode) (N : Net) (k target : ℕ) (a : Kept) : Type 0 where
  pub positive : 1 ≤ a.period
  pub given : 1 ≤ target → a.period ≡ target
  pub least : target ≡ 0 → FirstReached M N k a.period
  pub key : KeyIn M N k a.period
  pub same : entries key ≡ entries_in a
  pub labels : (v : ℕ) → IsGate N v → key.label v ≡ get_or a.labels v (pos 0)
  pub small : (g : ℕ) → g < a.gates → Small (get_or a.labels (a.inputs + g) (pos 0))
  pub few : (g : ℕ) → g < a.gates → ¬ (get_or a.marks g 0 ≡ 0) → get_or a.sizes g 0 ≤ stride
  pub whole : Whole a

-- The target is not reachable, or the cover with the period found is there.
abbrev pub Planned : Mode → Net → ℕ → ℕ → (ℕ → Kept) → Option ℕ → Type 0
Planned M N k target a r = MatchOption r ((1 ≤ target) × (¬ ReachableIn M N k target)) (λ φ. Covered M N k target (a φ))

-- A net read and checked, in slices.
pub record Planning (k target : ℕ) (z : NetSizes) (net ts : List ℕ) : Type 0 where
  pub facts : WalkFacts k (arrays_of z net ts)
  pub room : NetRoom z net ts
  pub low : least_k ≤ k
  pub high : k ≤ most_k
  pub near : target ≤ most_period
  pub passed : Passed (net_in (arrays_of z net ts)) k
  pub graph : Graph z net (net_in (arrays_of z net ts))

-- what was read stays, and so does what stands behind the chains: the order first
pub record PlanKept (I G : ℕ) (net net' : List ℕ) : Type 0 where
  pub kept : NetKept I G net net'
  pub behind : (i : ℕ) → order_at I G ≤ i → get_or net' i 0 ≡ get_or net i 0

-- room for the cover of a net with G gates, and no gate marked
pub record Roomy (G : ℕ) (rows luts : List ℕ) : Type 0 where
  pub at_rows : row_room G ≤ length rows
  pub unmarked : (g : ℕ) → g < G → get_or rows g 0 ≡ 0
  pub at_luts : G ≤ length luts

-- The engine's arrays for a net with n outputs, with nothing forced.
pub record Engine (M : Mode) (s : Extent) (n : ℕ) (net ts : List ℕ) (k target : ℕ) (t : List ℕ) (ls : List ℤ) : Type 0 where
  pub model : Net
  pub suits : Suits M (wiring s net) k (tops_in s net (cap_in M)) model
  pub passed : Passed model k
  pub ended : model.outputs ≡ pins_in (outs_in s net) (delays_in s net n) 0 n
  pub layout : Layout (packed_of s net (replicate most_held 0))
  pub chains : Chains (packed_of s net (replicate most_held 0))
  pub size : length t ≡ most_table
  pub fits : (s.inputs + s.gates) * s.width ≤ most_table
  pub clear : (c : ℕ) → get_or t c 0 ≡ 0
  pub period : PeriodAsked s net ls (tops_in s net (cap_in M)) (order_in s net) (outs_in s net) (delays_in s net n) n target k
  pub wires : SmallWires s.inputs s.gates net (drop (sources_at s.gates) net) (drop (counts_at s.gates) net)
  pub parts : packed_room s.inputs s.gates n ≤ length net
  pub tables : s.gates ≤ length ts
  pub few : k ≤ stride

-- the cover, for every net that suits
pub record CoverTold (M : Mode) (s : Extent) (n : ℕ) (net ts : List ℕ) (k target : ℕ) (a : ℕ → Kept) (r : Option ℕ) : Type 0 where
  pub cover :
      (N : Net) → Suits M (wiring s net) k (tops_in s net (cap_in M)) N → Passed N k → Tabled N s.inputs s.gates ts → N.outputs ≡ pins_in (outs_in s net) (delays_in s net n) 0 n
      → Planned M N k target a r
