-- Definitions: what the bench asks of a net read with its section, and what it tells.
use Rattle.std.specs.Prelude.{◌≡◌, List, ◌⊎◌, ℕ, ◌+◌, ◌≤◌, length, Result, Ok, Err}
use Rattle.limits.specs.Limits.{bench_room}
use Rattle.refusals.specs.declared.Refusal.{Refusal}
use Rattle.refusals.specs.Refusals.{number_of}
use Rattle.net_reader.specs.ReadAnswer.{arrays_of}
use Rattle.net_reader.specs.Rooms.{NetRoom}
use Rattle.net_reader.specs.WalkFacts.{WalkFacts}
use Rattle.net_reader.specs.declared.NetSizes.{NetSizes}
use Rattle.cover_records.specs.Listing.{refusal_text}
use Rattle.cover_writer.specs.Writing.{Wrote}

-- a net read, in slices, its section, a byte a node or none at all, and room for the text
pub record Benching (z : NetSizes) (net tables section out : List ℕ) : Type 0 where
  pub k : ℕ
  pub facts : WalkFacts k (arrays_of z net tables)
  pub packed : NetRoom z net tables
  pub bytes : (length section ≡ 0) ⊎ (z.inputs + z.gates ≤ length section)
  pub room : bench_room ≤ length out

-- the text is in front of out, or it is that of the refusal told, and out is as it was
abbrev pub BenchTold : List ℕ → List ℕ → List ℕ → Result ℕ Refusal → Type 0
BenchTold text before after (Ok n) = Wrote text before after n
BenchTold text before after (Err r) = (text ≡ refusal_text (number_of r)) × (after ≡ before)
