-- Definitions: document 02, E6, as one record.
use Rattle.std.specs.Prelude.{◌≡◌, Bool, cond, List, ◌++◌, ◌⊎◌, ◌↔◌, ℕ, ◌*◌, ◌≤◌, ◌<◌, eqb, length, get_or, take}
use Rattle.limits.specs.Limits.{contents_area, cover_area, loader_area, most_period, scratch_area}
use Rattle.limits.specs.Courses.{long}
use Rattle.sequences.specs.Member.{◌∈◌}
use Rattle.net_model.specs.Net.{Net}
use Rattle.net_model.specs.Copies.{Copy}
use Rattle.net_bytes.specs.Walk.{Drawn}
use Rattle.run_theory.specs.BenchBytes.{section_in}
use Rattle.label_theory.specs.Labels.{forward}
use Rattle.cover_theory.specs.Covers.{Cover}
use Rattle.cover_theory.specs.Forward.{Forward, ForwardMet, LeastForwardPeriod}
use Rattle.cover_theory.specs.Key.{KeyIn, entries, as_cover}
use Rattle.cover_period.specs.Written.{no_entry}
use Rattle.board_theory.specs.Boards.{Boarded, board_at}
use Rattle.board_theory.specs.Contents.{contents_bytes, contents_of, board_shows, net_shows}
use Rattle.cover_records.specs.CoverBytes.{Record, cover_bytes}
use Rattle.cover_records.specs.ForwardOutcome.{ForwardOutcome, forward_outcome}
use Rattle.cover_records.specs.LoaderImage.{image_bytes}
use Rattle.cover_records.specs.Marking.{TablesRight}
use Rattle.cover_records.specs.Outcomes.{accepted, turned_back, cleared, written}
use Rattle.demands.specs.TurnedBack.{IsNet, IsRecord, NetFails, Outside}
use Rattle.demands.specs.Calls.{mark_done}
use Rattle.demands.specs.Right.{Wrote}
use Rattle.demands.specs.BenchRun.{IsDrawn}

-- a call of map in forward mode: all that is lent, whatever it is
pub record ForwardCall : Type 0 where
  pub net : List ℕ
  pub k : ℕ
  pub target : ℕ
  pub area : List ℕ
  pub scratch : List ℕ
  pub loader : List ℕ
  pub contents : List ℕ

-- what it leaves
abbrev pub forward_done : ForwardCall → ForwardOutcome
forward_done c = forward_outcome long c.net c.k c.target c.area c.scratch c.loader c.contents

-- Check n of it fails.
pub data ForwardFails (c : ForwardCall) (n : ℕ) : Type 0 where
  -- 1 to 3 and 4 to 11 as document 01 has them
  outside : Outside c.k → n ≡ 1 → ForwardFails c n
  above : most_period < c.target → n ≡ 2 → ForwardFails c n
  room : length c.area < cover_area → n ≡ 3 → ForwardFails c n
  space : length c.scratch < scratch_area → n ≡ 3 → ForwardFails c n
  of_net : NetFails c.k c.net n → ForwardFails c n
  -- "3, a lent contents area is under 20,592 bytes"
  small : 0 < length c.contents → length c.contents < contents_area → n ≡ 3 → ForwardFails c n
  -- E4: "20, a lent loader area is under 256 bytes"
  load : 0 < length c.loader → length c.loader < loader_area → n ≡ 20 → ForwardFails c n
  -- "21, one is lent and the net has no section"
  sectionless : 0 < length c.contents → (d : Drawn) → IsDrawn c.k c.net d → length d.section ≡ 0 → n ≡ 21 → ForwardFails c n
  -- "22, in place of 12, no forward cover meets the target"
  unmet : (N : Net) → IsNet c.k c.net N → ¬ (c.target ≡ 0) → ¬ ForwardMet N c.k c.target → n ≡ 22 → ForwardFails c n

-- Whose turn comes first: the numbers' order, but 20 is "told after 3" (E4).
unfoldable pub turn : ℕ → ℕ
turn n = cond (eqb n 20) 7 (2 * n)

-- the number that this order picks: that check fails, and none before it
pub record FirstInTurn (Fails : ℕ → Type 0) (n : ℕ) : Type 0 where
  pub fails : Fails n
  pub none : (m : ℕ) → turn m < turn n → ¬ Fails m

abbrev pub OfForward : ℕ → Type 0
OfForward n = ((1 ≤ n) × (n ≤ 11)) ⊎ ((20 ≤ n) × (n ≤ 22))

-- the net of a call that passes all checks before 22
abbrev pub ForwardNet : ForwardCall → Net → Type 0
ForwardNet c N = IsNet c.k c.net N × ((m : ℕ) → turn m < turn 22 → ¬ ForwardFails c m)

-- the period that it asks for: the target, or for target 0 "the least forward period"
abbrev pub ForwardAsked : ForwardCall → Net → ℕ → Type 0
ForwardAsked c N φ = (¬ (c.target ≡ 0) → φ ≡ c.target) × (c.target ≡ 0 → LeastForwardPeriod N c.k φ)

-- what it wrote: a record in front of the area that reads back as a forward cover of N for k which meets φ, with right tables
pub record ForwardWrote (N : Net) (k φ : ℕ) (area area' : List ℕ) (length' : ℕ) : Type 0 where
  pub wrote : Wrote N k φ area area' length'
  pub forward : Forward N (as_cover N wrote.luts)
  pub tables : TablesRight N k wrote.luts

-- The call was accepted with a record of n bytes and left o, N is its net, and the record reads back as r.
pub record Read (c : ForwardCall) (o : ForwardOutcome) (n : ℕ) (N : Net) (r : Record) : Type 0 where
  pub told : o.answer ≡ accepted n
  pub is_net : IsNet c.k c.net N
  pub reads : IsRecord N c.k (take n o.area) r

-- the cover and the tables of a record
abbrev pub cover_in : Net → Record → Cover
cover_in N r = as_cover N r.entries

abbrev pub tables_in : Record → ℕ → ℕ
tables_in r i = (get_or r.entries i no_entry).table

pub record ForwardMap : Type 0 where
  -- ---- refusals. Check n fails and none whose turn comes before it; a call is accepted exactly if none fails; no other number is told
  pub number : (c : ForwardCall) (n : ℕ) → ((forward_done c).answer ≡ turned_back n) ↔ FirstInTurn (ForwardFails c) n
  pub accepts : (c : ForwardCall) → ((n : ℕ) × ((forward_done c).answer ≡ accepted n)) ↔ ((m : ℕ) → ¬ ForwardFails c m)
  pub numbers : (c : ForwardCall) (n : ℕ) → (forward_done c).answer ≡ turned_back n → OfForward n
  -- "A refusal, and the part behind, keep its bytes": so with the cover area and the loader area
  pub kept : (c : ForwardCall) (n : ℕ) → (forward_done c).answer ≡ turned_back n
      → ((forward_done c).area ≡ c.area) × ((forward_done c).loader ≡ c.loader) × ((forward_done c).contents ≡ c.contents)
  -- 01: "After 1 to 3 the scratch keeps its bytes too; after every other outcome its first 65,536 bytes are 0, the rest kept."
  pub early : (c : ForwardCall) (n : ℕ) → (forward_done c).answer ≡ turned_back n → n ≤ 3 → (forward_done c).scratch ≡ c.scratch
  pub late : (c : ForwardCall) (n : ℕ) → (forward_done c).answer ≡ turned_back n → 3 < n → (forward_done c).scratch ≡ cleared scratch_area c.scratch
  -- ---- "In this mode demand 3 reads with forward covers alone: unreachable means that no forward cover, with copies, meets the target"
  pub unreachable : (c : ForwardCall) → ((forward_done c).answer ≡ turned_back 22) ↔ ((N : Net) × ForwardNet c N × (¬ (c.target ≡ 0)) × (¬ ForwardMet N c.k c.target))
  -- else, and always with target 0, the cover written is a forward cover that meets the period asked for, "and the least forward period has none below it"
  pub meets : (c : ForwardCall) (N : Net) → ForwardNet c N → (¬ (c.target ≡ 0) → ForwardMet N c.k c.target)
      → (n φ : ℕ) × ((forward_done c).answer ≡ accepted n) × ForwardAsked c N φ × ForwardWrote N c.k φ c.area (forward_done c).area n
  -- what every accepted call leaves: the record, in at most 962 bytes, those behind it kept; the scratch
  pub leaves : (c : ForwardCall) (n : ℕ) → (forward_done c).answer ≡ accepted n
      → (n ≤ cover_area) × ((N : Net) × (φ : ℕ) × ForwardNet c N × ForwardAsked c N φ × ForwardWrote N c.k φ c.area (forward_done c).area n)
      × ((forward_done c).scratch ≡ cleared scratch_area c.scratch)
  -- and the record can be read: the fields below that speak of it speak of every accepted call
  pub reads : (c : ForwardCall) (n : ℕ) → (forward_done c).answer ≡ accepted n → (N : Net) → IsNet c.k c.net N → (r : Record) × Read c (forward_done c) n N r
  -- "Labels, ties and lags follow 01, over cuts that also satisfy label + φ·(largest d in the cone) ≤ φ": the record is that of every key in this mode
  pub keys : (c : ForwardCall) (n : ℕ) → (forward_done c).answer ≡ accepted n → (N : Net) → IsNet c.k c.net N → (φ : ℕ) → ForwardAsked c N φ
      → KeyIn forward N c.k φ
      × ((K : KeyIn forward N c.k φ) → (n ≡ length (cover_bytes long φ (entries K))) × ((forward_done c).area ≡ written (cover_bytes long φ (entries K)) c.area))
  -- mark accepts it, with any scratch that is large enough
  pub own : (c : ForwardCall) (n : ℕ) → (forward_done c).answer ≡ accepted n → (scratch : List ℕ) → scratch_area ≤ length scratch
      → (x : ℕ) × ((mark_done (record { net = c.net; k = c.k; bytes = take n (forward_done c).area; scratch = scratch })).answer ≡ accepted x)
  -- E4: "Map gains, if a loader area is lent (length 0 counts as none), an image", of the record's LUTs; "those behind the image are always kept"
  pub image : (c : ForwardCall) (n : ℕ) (N : Net) (r : Record) → Read c (forward_done c) n N r
      → (0 < length c.loader → (forward_done c).loader ≡ written (image_bytes r.entries) c.loader) × (length c.loader ≡ 0 → (forward_done c).loader ≡ c.loader)
  -- ---- "If a contents area is lent too (length 0 counts as none)": else it is as it was
  pub none : (c : ForwardCall) → length c.contents ≡ 0 → (forward_done c).contents ≡ c.contents
  -- then the net has a section
  pub section : (c : ForwardCall) (n : ℕ) → (forward_done c).answer ≡ accepted n → 0 < length c.contents → (d : Drawn) × IsDrawn c.k c.net d × (0 < length d.section)
  -- "it gets the first contents of each connection's registers", of the record's cover; "the part behind, keep its bytes"
  pub first : (c : ForwardCall) (n : ℕ) (d : Drawn) → IsDrawn c.k c.net d → (r : Record) → Read c (forward_done c) n d.net r → 0 < length c.contents
      → (forward_done c).contents ≡ written (contents_of d.net (cover_in d.net r) (section_in d.section)) c.contents
  -- "a byte 0 or 1 per register"; 20,592 bytes are enough
  pub bits : (N : Net) (K : Cover) (contents : ℕ → Copy → ℕ → Bool) (last : ℕ → ℕ → Bool) (b : ℕ) → b ∈ contents_bytes N K contents last → b ≤ 1
  pub enough : (c : ForwardCall) (n : ℕ) (N : Net) (r : Record) → Read c (forward_done c) n N r → (section : ℕ → ℕ → Bool) → length (contents_of N (cover_in N r) section) ≤ contents_area
  -- The board: with the record's cover and tables, and whatever its registers hold at first, there is a run for all inputs, and only one.
  pub board : (c : ForwardCall) (n : ℕ) (N : Net) (r : Record) → Read c (forward_done c) n N r → (contents : ℕ → Copy → ℕ → Bool) (inputs : ℕ → ℕ → Bool)
      → Boarded N (cover_in N r) (tables_in r) contents inputs (board_at N (cover_in N r) r.period (tables_in r) contents inputs)
      × ((board : ℕ → ℕ → Bool) → Boarded N (cover_in N r) (tables_in r) contents inputs board
      → (i t : ℕ) → i < length r.entries → board i t ≡ board_at N (cover_in N r) r.period (tables_in r) contents inputs i t)
  -- "From step 0 on, for any inputs, the outputs of board and net agree for ever": where the registers hold at first what the contents area begins with
  pub wakes : (c : ForwardCall) (n : ℕ) (d : Drawn) → IsDrawn c.k c.net d → (r : Record) → Read c (forward_done c) n d.net r → 0 < length c.contents
      → (contents : ℕ → Copy → ℕ → Bool) (last : ℕ → ℕ → Bool) (rest : List ℕ) → (forward_done c).contents ≡ contents_bytes d.net (cover_in d.net r) contents last ++ rest
      → (inputs : ℕ → ℕ → Bool) (o : ℕ) → o < length d.net.outputs → (t : ℕ)
      → board_shows d.net (cover_in d.net r) r.period (tables_in r) contents last inputs o t ≡ net_shows d.net (section_in d.section) inputs o t
