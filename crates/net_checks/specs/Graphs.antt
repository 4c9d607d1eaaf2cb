-- Definitions: what checks 9, 10 and 11 ask and tell of a net in one slice.
use Rattle.std.specs.Prelude.{◌≡◌, Bool, true, false, List, ℕ, ◌+◌, ◌-◌, ◌*◌, ◌≤◌, ◌<◌, length, get_or, drop}
use Rattle.limits.specs.Limits.{most_count}
use Rattle.net_model.specs.Net.{Net}
use Rattle.net_model.specs.Wired.{Wires, Wired}
use Rattle.net_model.specs.Checks.{Loopless, AllReached, AllLeading}
use Rattle.net_model.specs.PackedNet.{first_at, sources_at, counts_at, order_at, tops_at, outs_at, delays_at, packed_room, Apart, NetKept}
use Rattle.label_theory.proofs.Pins.{OutPath}
use Rattle.net_reader.specs.declared.NetSizes.{NetSizes}
use Rattle.net_loops.specs.Placing.{PlaceCheck}
use Rattle.net_reached.specs.Reaching.{ReachCheck}
use Rattle.net_leading.specs.Heading.{Ended, Counted, HeadCheck}

-- the parts of the slice
abbrev pub sources_of : NetSizes → List ℕ → List ℕ
sources_of s net = drop (sources_at s.gates) net

abbrev pub counts_of : NetSizes → List ℕ → List ℕ
counts_of s net = drop (counts_at s.gates) net

abbrev pub outs_of : NetSizes → List ℕ → List ℕ
outs_of s net = drop (outs_at s.inputs s.gates) net

abbrev pub delays_of : NetSizes → List ℕ → List ℕ
delays_of s net = drop (delays_at s.inputs s.gates s.outputs) net

-- the slice has the wiring and the outputs of a net of these sizes
pub record Checkable (s : NetSizes) (net : List ℕ) : Type 0 where
  pub room : packed_room s.inputs s.gates s.outputs ≤ length net
  pub wires : Wires s.inputs s.gates net (sources_of s net) (counts_of s net)
  pub counted : Counted s.gates s.outputs net (counts_of s net) (outs_of s net) (delays_of s net) s.inputs

-- two arrays with a number a gate
pub record Lent (s : NetSizes) (seen noted : List ℕ) : Type 0 where
  pub at_seen : length seen ≡ s.gates
  pub at_noted : length noted ≡ s.gates

-- N is such a net
pub record NetOf (s : NetSizes) (net : List ℕ) (N : Net) : Type 0 where
  pub wired : Wired N s.inputs s.gates net (sources_of s net) (counts_of s net)
  pub ended : Ended N s.outputs (outs_of s net) (delays_of s net)

-- ---- each check over the slice
abbrev pub Placed : NetSizes → List ℕ → List ℕ → List ℕ → Bool → Type 0
Placed s net seen order r = PlaceCheck s.inputs s.gates net (sources_of s net) (counts_of s net) seen order r

abbrev pub Reached : NetSizes → List ℕ → List ℕ → List ℕ → Bool → Type 0
Reached s net first ranks r = ReachCheck s.inputs s.gates net (sources_of s net) (counts_of s net) first ranks r

abbrev pub Headed : NetSizes → List ℕ → List ℕ → Bool → Type 0
Headed s net tops r = HeadCheck s.inputs s.gates s.outputs net (sources_of s net) (counts_of s net) (outs_of s net) (delays_of s net) tops r

-- ---- each check with what it stores

-- each gate stands in the order
pub record Ordered (s : NetSizes) (net : List ℕ) : Type 0 where
  pub in_order : (i : ℕ) → i < s.gates → get_or net (order_at s.inputs s.gates + i) 0 < s.gates
  pub ordered : (g : ℕ) → g < s.gates → (i : ℕ) × (i < s.gates) × (get_or net (order_at s.inputs s.gates + i) 0 ≡ g)

-- each gate has a first pin
abbrev pub Firsts : NetSizes → List ℕ → Type 0
Firsts s net = (g : ℕ) → g < s.gates → get_or net (first_at s.gates + g) 0 < get_or net g 0

-- each gate has a top: 1 more than the registers on a path to an output of N
pub record Topped (s : NetSizes) (net : List ℕ) : Type 0 where
  pub low : (g : ℕ) → g < s.gates → 1 ≤ get_or net (tops_at s.inputs s.gates + g) 0
  pub high : (g : ℕ) → g < s.gates → get_or net (tops_at s.inputs s.gates + g) 0 ≤ 1 + most_count * (1 + s.gates)

abbrev pub Paths : NetSizes → List ℕ → Net → Type 0
Paths s net N = (g : ℕ) → g < s.gates → OutPath N (s.inputs + g) (get_or net (tops_at s.inputs s.gates + g) 0 - 1)

pub record NineTold (s : NetSizes) (net net' : List ℕ) (r : Bool) : Type 0 where
  pub apart : Apart (order_at s.inputs s.gates) (tops_at s.inputs s.gates) net net'
  pub fails : r ≡ false → (N : Net) → NetOf s net N → ¬ Loopless N
  pub holds : r ≡ true → (N : Net) → NetOf s net N → Loopless N
  pub ordered : r ≡ true → Ordered s net'

pub record TenTold (s : NetSizes) (net net' : List ℕ) (r : Bool) : Type 0 where
  pub apart : Apart (first_at s.gates) (sources_at s.gates) net net'
  pub fails : r ≡ false → (N : Net) → NetOf s net N → ¬ AllReached N
  pub holds : r ≡ true → (N : Net) → NetOf s net N → AllReached N
  pub firsts : r ≡ true → Firsts s net'

pub record ElevenTold (s : NetSizes) (net net' : List ℕ) (r : Bool) : Type 0 where
  pub apart : Apart (tops_at s.inputs s.gates) (outs_at s.inputs s.gates) net net'
  pub fails : r ≡ false → (N : Net) → NetOf s net N → ¬ AllLeading N
  pub holds : r ≡ true → (N : Net) → NetOf s net N → AllLeading N
  pub topped : r ≡ true → Topped s net'
  pub paths : r ≡ true → (N : Net) → NetOf s net N → Paths s net' N

-- ---- all of them

-- what the slice of a net that passed has
pub record Graph (s : NetSizes) (net : List ℕ) (N : Net) : Type 0 where
  pub ordered : Ordered s net
  pub firsts : Firsts s net
  pub topped : Topped s net
  pub paths : Paths s net N

-- 0, or the first of 9, 10 and 11 that N breaks
pub data Says (s : NetSizes) (net : List ℕ) (N : Net) (r : ℕ) : Type 0 where
  passed : r ≡ 0 → Loopless N → AllReached N → AllLeading N → Graph s net N → Says s net N r
  loop : r ≡ 9 → ¬ Loopless N → Says s net N r
  unreached : r ≡ 10 → Loopless N → ¬ AllReached N → Says s net N r
  unled : r ≡ 11 → Loopless N → AllReached N → ¬ AllLeading N → Says s net N r

-- the same of every net with this wiring and these outputs; what was read stays
pub record GraphTold (s : NetSizes) (net net' : List ℕ) (r : ℕ) : Type 0 where
  pub kept : NetKept s.inputs s.gates net net'
  pub says : (N : Net) → NetOf s net N → Says s net' N r
