-- Definitions: what a step is worked out from, and what the functions that evaluate nodes and pins ask and tell. Each step is step 0 of the run from what is kept.
use Rattle.std.specs.Prelude.{◌≡◌, Bool, cond, List, map, ◌⊎◌, ℕ, zero, suc, ◌+◌, ◌-◌, ◌*◌, ◌/◌, ◌%◌, ◌≤◌, ◌<◌, ltb, length, get_or}
use Rattle.limits.specs.Limits.{most_inputs, most_count}
use Rattle.net_model.specs.Net.{Net, Pin}
use Rattle.net_model.specs.Arrays.{net_in, pins_in, stride}
use Rattle.net_model.specs.ArrayLaws.{pin_at}
use Rattle.net_model.specs.Checks.{Loopless}
use Rattle.net_model.specs.Tables.{bit, as_number, index}
use Rattle.net_model.specs.Wired.{Wires}
use Rattle.net_reader.specs.ReadAnswer.{arrays_of}
use Rattle.net_reader.specs.Rooms.{NetRoom}
use Rattle.net_reader.specs.declared.NetSizes.{NetSizes}
use Rattle.net_checks.specs.Graphs.{Ordered, sources_of, counts_of, outs_of, delays_of}
use Rattle.run_theory.specs.Bench.{ago, pin_from, value_at}
use Rattle.run_theory.specs.BenchBytes.{section_in}
use Rattle.run_theory.specs.LevelOf.{level_of}

-- A net that was read and checked, as `net_reader: read_net` and `net_checks: check_graph` leave it.
pub record Runnable (z : NetSizes) (net tables : List ℕ) : Type 0 where
  pub rooms : NetRoom z net tables
  pub inputs : z.inputs ≤ most_inputs
  pub wires : Wires z.inputs z.gates net (sources_of z net) (counts_of z net)
  pub count : (g j : ℕ) → g < z.gates → j < get_or net g 0 → get_or (counts_of z net) (stride * g + j) 0 ≤ most_count
  pub out_node : (o : ℕ) → o < z.outputs → get_or (outs_of z net) o 0 < z.inputs + z.gates
  pub out_count : (o : ℕ) → o < z.outputs → get_or (delays_of z net) o 0 ≤ most_count
  pub loopless : Loopless (net_in (arrays_of z net tables))
  pub ordered : Ordered z net

-- the net in its slices, a byte a node of what is kept, and the inputs of the step as a number
pub record Sheet : Type 0 where
  pub sizes : NetSizes
  pub net : List ℕ
  pub tables : List ℕ
  pub kept : List ℕ
  pub word : ℕ

abbrev pub sheet : NetSizes → List ℕ → List ℕ → List ℕ → ℕ → Sheet
sheet z net tables kept word = record { sizes = z; net = net; tables = tables; kept = kept; word = word }

abbrev pub net_of : Sheet → Net
net_of S = net_in (arrays_of S.sizes S.net S.tables)

-- "input i in bit i"
abbrev pub word_in : ℕ → ℕ → ℕ → Bool
word_in word v t = bit word v

-- the values of the run from what is kept
abbrev pub value_of : Sheet → ℕ → ℕ → Bool
value_of S = value_at (net_of S) (section_in S.kept) (word_in S.word)

-- the value of a node some steps back
abbrev pub value_back : Sheet → ℕ → ℕ → Bool
value_back S v back = ago (section_in S.kept v) (value_of S v) 0 back

-- the value of a pin
abbrev pub pin_of : Sheet → Pin → Bool
pin_of S p = pin_from (section_in S.kept) (value_of S) 0 p

-- 1 more than what is known of a node without its pins: what is kept, an input's value, what this step has noted; else 0
abbrev pub told : ℕ → List ℕ → ℕ → List ℕ → ℕ → ℕ → ℕ
told I kept word known v zero = cond (ltb v I) (suc (as_number (bit word v))) (get_or known (v - I) 0)
told I kept word known v (suc back) = suc (as_number (bit (get_or kept v 0) back))

-- ---- what is noted in a step: of each gate 0, or 1 more than its value

pub record StepReady (S : Sheet) (known : List ℕ) : Type 0 where
  pub net : Runnable S.sizes S.net S.tables
  pub kept : S.sizes.inputs + S.sizes.gates ≤ length S.kept
  pub size : S.sizes.gates ≤ length known
  pub right : (g : ℕ) → g < S.sizes.gates → (get_or known g 0 ≡ 0) ⊎ (get_or known g 0 ≡ suc (as_number (value_of S (S.sizes.inputs + g) 0)))

-- more may be noted, nothing is lost
pub record More (S : Sheet) (known known' : List ℕ) : Type 0 where
  pub ready : StepReady S known'
  pub long : length known' ≡ length known
  pub stays : (g : ℕ) → 1 ≤ get_or known g 0 → 1 ≤ get_or known' g 0

pub record NodeAsked (S : Sheet) (known : List ℕ) (v back : ℕ) : Type 0 where
  pub ready : StepReady S known
  pub node : v < S.sizes.inputs + S.sizes.gates
  pub count : back ≤ most_count

-- the value of a node some steps back; a gate's value of this step is then noted
pub record NodeTold (S : Sheet) (known known' : List ℕ) (v back r : ℕ) : Type 0 where
  pub value : r ≡ as_number (value_back S v back)
  pub more : More S known known'
  pub noted : back ≡ 0 → S.sizes.inputs ≤ v → 1 ≤ get_or known' (v - S.sizes.inputs) 0

-- place p has a pin
pub record PinAsked (S : Sheet) (known : List ℕ) (p : ℕ) : Type 0 where
  pub ready : StepReady S known
  pub gate : p / stride < S.sizes.gates
  pub pin : p % stride < get_or S.net (p / stride) 0

pub record PinTold (S : Sheet) (known known' : List ℕ) (p r : ℕ) : Type 0 where
  pub value : r ≡ as_number (pin_of S (pin_at (sources_of S.sizes S.net) (counts_of S.sizes S.net) p))
  pub more : More S known known'

-- the values of n pins from a place on, as a number
unfoldable pub pins_now : Sheet → ℕ → ℕ → ℕ
pins_now S at n = index (map (pin_of S) (pins_in (sources_of S.sizes S.net) (counts_of S.sizes S.net) at n))

-- ---- why the calls end: the step falls, or stays while the registerless depth falls

abbrev pub node_measure : Sheet → ℕ → ℕ → ℕ
node_measure S v back = (most_count - back) * (2 * suc S.sizes.gates) + suc (2 * level_of (net_of S) v)

abbrev pub pin_measure : Sheet → ℕ → ℕ
pin_measure S p = most_count * (2 * suc S.sizes.gates) + 2 * level_of (net_of S) (S.sizes.inputs + p / stride)
