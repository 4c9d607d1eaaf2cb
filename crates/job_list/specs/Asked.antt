-- Definitions: what the listing of a net read asks, and what is told: the text that the definition has.
use Rattle.std.specs.Prelude.{◌≡◌, List, [], ℕ, ◌≤◌, length}
use Rattle.net_model.specs.Net.{Net}
use Rattle.net_bytes.specs.Reading.{got}
use Rattle.net_bytes.specs.Walk.{net_reader}
use Rattle.cover_records.specs.Outcomes.{check_net}
use Rattle.cover_records.specs.Program.{list_checked}
use Rattle.net_reader.specs.declared.NetSizes.{NetSizes}
use Rattle.cover_writer.specs.Writing.{Wrote}
use Rattle.limits.specs.Limits.{text_room}
use Rattle.limits.specs.Courses.{long}
use Rattle.job_settle.specs.Settling.{Settling}

-- a net read, with room for its text
pub record Listing (k target : ℕ) (z : NetSizes) (net ts out : List ℕ) : Type 0 where
  pub settling : Settling k target z net ts
  pub room : text_room ≤ length out

-- the text, for all bytes that hold the net read
pub record ListsNet (k target : ℕ) (N : Net) (before after : List ℕ) (r : ℕ) : Type 0 where
  pub lists : (net : List ℕ) → net_reader long k net ≡ got N [] → Wrote (list_checked k target (check_net long k net)) before after r
