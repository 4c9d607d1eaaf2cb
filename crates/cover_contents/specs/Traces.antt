-- Definitions: the trace of a run from what is kept, and the contents of registers read off it. Sample t of the trace has each node's value at step t − 3, a byte each.
use Rattle.std.specs.Prelude.{◌≡◌, Bool, List, [], ◌∷◌, ◌++◌, ℕ, zero, suc, ◌+◌, ◌-◌, ◌*◌, ◌≤◌, ◌<◌, ℤ, pos, ◌-ℤ◌, length, get_or}
use Rattle.limits.specs.Limits.{most_count, most_nodes, depth_room}
use Rattle.integers.specs.Parts.{up}
use Rattle.sequences.specs.Member.{◌∈◌}
use Rattle.net_model.specs.Arrays.{net_in}
use Rattle.net_model.specs.PackedNet.{packed_room}
use Rattle.net_model.specs.Tables.{bit, as_number}
use Rattle.net_reader.specs.ReadAnswer.{arrays_of}
use Rattle.net_reader.specs.declared.NetSizes.{NetSizes}
use Rattle.net_checks.specs.Graphs.{outs_of, delays_of}
use Rattle.run_theory.specs.Bench.{ago, value_at}
use Rattle.run_theory.specs.BenchBytes.{section_in, pairs_in}
use Rattle.run_step.specs.Stepping.{StepAsked, RunTo}
use Rattle.cover_theory.specs.Covers.{IsCover}
use Rattle.cover_theory.specs.Forward.{Forward}
use Rattle.cover_theory.specs.Key.{Entry, as_cover}
use Rattle.cover_theory.specs.SharedRegisters.{Tap}
use Rattle.cover_records.specs.Kept.{Kept, entries_in}
use Rattle.cover_records.specs.Listing.{lag_in}
use Rattle.cover_writer.specs.Writing.{Below}
use Rattle.cover_registers.specs.Counting.{lags_of, taps_of, LeavesHeld}
use Rattle.board_theory.specs.Contents.{contents_of}

-- ---- the trace

-- the oldest values kept of n nodes stand from a place on, and below it the trace stays
pub record Sampled (kept trace : List ℕ) (at n : ℕ) (trace' : List ℕ) : Type 0 where
  pub each : (v : ℕ) → v < n → get_or trace' (at + v) 0 ≡ as_number (bit (get_or kept v 0) (most_count - 1))
  pub below : (i : ℕ) → i < at → get_or trace' i 0 ≡ get_or trace i 0
  pub long : length trace' ≡ length trace

-- the first n samples stand in the trace
pub record Traced (nodes : ℕ) (section value : ℕ → ℕ → Bool) (trace : List ℕ) (n : ℕ) : Type 0 where
  pub each : (t v : ℕ) → t < n → v < nodes → get_or trace (most_nodes * t + v) 0 ≡ as_number (ago (section v) (value v) t most_count)

-- they were taken, in a run without input pairs: all inputs are 0
pub record Tracing (z : NetSizes) (net tables kept known trace kept' known' trace' : List ℕ) (n : ℕ) : Type 0 where
  pub run : RunTo z net tables [] kept known kept' known' n
  pub traced : Traced (z.inputs + z.gates) (section_in kept) (value_at (net_in (arrays_of z net tables)) (section_in kept) (pairs_in [])) trace' n
  pub long : length trace' ≡ length trace

-- the samples up to step −q − 1, the newest that a register behind a node with lag q holds
abbrev pub samples_to : ℤ → ℕ
samples_to q = up (pos most_count -ℤ q)

-- r samples are enough for the inputs and the first n gates
pub record MostSamples (a : Kept) (n r : ℕ) : Type 0 where
  pub inputs : most_count ≤ r
  pub each : (g : ℕ) → g < n → samples_to (lag_in (entries_in a) (a.inputs + g)) ≤ r
  pub few : r ≤ most_count + 128

-- ---- the registers

-- n registers behind node u, newest first: the samples below `top`, the last one first
unfoldable pub cells_back : List ℕ → ℕ → ℕ → ℕ → List ℕ
cells_back trace u top zero = []
cells_back trace u top (suc n) = cells_back trace u top n ++ (get_or trace (most_nodes * (top - suc n) + u) 0 ∷ [])

-- those of connections and outputs, one behind the other
unfoldable pub tap_cells : List ℕ → List Entry → List Tap → List ℕ
unfolding cells_back
tap_cells trace es [] = []
tap_cells trace es (t ∷ ts) = cells_back trace t.source (samples_to (lag_in es t.source)) (up t.number) ++ tap_cells trace es ts

-- the registers of a connection stand in the trace
pub record TapHeld (trace : List ℕ) (es : List Entry) (t : Tap) : Type 0 where
  pub node : t.source < most_nodes
  pub number : up t.number ≤ samples_to (lag_in es t.source)
  pub samples : most_nodes * samples_to (lag_in es t.source) ≤ length trace

-- those of all connections do, and there is room for them
pub record CellsAsked (trace : List ℕ) (es : List Entry) (taps : List Tap) (area : List ℕ) : Type 0 where
  pub each : (t : Tap) → t ∈ taps → TapHeld trace es t
  pub room : length (tap_cells trace es taps) ≤ length area

-- so for all connections of the cover kept and all outputs of the net
pub record RegistersAsked (z : NetSizes) (net : List ℕ) (a : Kept) (trace area : List ℕ) : Type 0 where
  pub leaves : LeavesHeld a
  pub packed : packed_room z.inputs z.gates z.outputs ≤ length net
  pub delays : Below depth_room (delays_of z net) 0 z.outputs
  pub cells : CellsAsked trace (lags_of a) (taps_of a (outs_of z net) (delays_of z net) z.outputs) area

-- ---- the whole

-- bytes of the longest trace: a lag is a signed byte
abbrev pub trace_room : ℕ
trace_room = most_nodes * (most_count + 128)

-- a forward cover of a net that can be run is kept, and there is room
pub record Contenting (z : NetSizes) (net tables kept known : List ℕ) (a : Kept) (work contents : List ℕ) : Type 0 where
  pub steps : StepAsked z net tables kept known
  pub gates : a.gates ≡ z.gates
  pub leaves : LeavesHeld a
  pub k : ℕ
  pub cover : IsCover (net_in (arrays_of z net tables)) k (as_cover (net_in (arrays_of z net tables)) (entries_in a))
  pub forward : Forward (net_in (arrays_of z net tables)) (as_cover (net_in (arrays_of z net tables)) (entries_in a))
  pub work_room : trace_room ≤ length work
  pub contents_room : (past : ℕ → ℕ → Bool) → length (contents_of (net_in (arrays_of z net tables)) (as_cover (net_in (arrays_of z net tables)) (entries_in a)) past) ≤ length contents
