-- Definitions: document 02, E7, as one record.
use Rattle.std.specs.Prelude.{◌≡◌, Bool, List, ◌++◌, ◌↔◌, ℕ, ◌+◌, ◌≤◌, ◌<◌, length}
use Rattle.limits.specs.Limits.{most_count, scratch_area}
use Rattle.limits.specs.Courses.{long}
use Rattle.net_model.specs.Net.{IsInput}
use Rattle.net_model.specs.Copies.{Copy}
use Rattle.net_bytes.specs.Walk.{Drawn}
use Rattle.run_theory.specs.Bench.{value_at, Keeps}
use Rattle.run_theory.specs.BenchBytes.{section_in, pairs_in, steps_of}
use Rattle.board_theory.specs.Contents.{contents_bytes, contents_of, board_shows, net_shows}
use Rattle.cover_records.specs.ChangeOutcome.{change_outcome}
use Rattle.cover_records.specs.CoverBytes.{Record}
use Rattle.cover_records.specs.ForwardOutcome.{ForwardOutcome}
use Rattle.cover_records.specs.Outcomes.{accepted, turned_back, cleared, written}
use Rattle.demands.specs.BenchRun.{IsDrawn}
use Rattle.demands.specs.ForwardMap.{ForwardCall, forward_done, ForwardFails, FirstInTurn, Read, cover_in, tables_in}

-- "The call is E6's, with its target and cover area, and the pairs beside": all that is lent, whatever it is
pub record ChangeCall : Type 0 where
  pub call : ForwardCall
  pub pairs : List ℕ

-- what it leaves
abbrev pub change_done : ChangeCall → ForwardOutcome
change_done c = change_outcome long c.call.net c.call.k c.call.target c.pairs c.call.area c.call.scratch c.call.loader c.call.contents

-- "The step is the number of E5's input pairs lent"
abbrev pub step_of : ChangeCall → ℕ
step_of c = steps_of c.pairs

-- "Refusals are E6's, and 3 if no contents area is lent."
pub data ChangeFails (c : ChangeCall) (n : ℕ) : Type 0 where
  forward : ForwardFails c.call n → ChangeFails c n
  missing : length c.call.contents ≡ 0 → n ≡ 3 → ChangeFails c n

pub record ChangeOver : Type 0 where
  -- ---- refusals. Check n fails and none whose turn comes before it; a call is accepted exactly if none fails
  pub number : (c : ChangeCall) (n : ℕ) → ((change_done c).answer ≡ turned_back n) ↔ FirstInTurn (ChangeFails c) n
  pub accepts : (c : ChangeCall) → ((n : ℕ) × ((change_done c).answer ≡ accepted n)) ↔ ((m : ℕ) → ¬ ChangeFails c m)
  -- they keep the cover area, the loader area and the contents area; the scratch as 01 says
  pub kept : (c : ChangeCall) (n : ℕ) → (change_done c).answer ≡ turned_back n
      → ((change_done c).area ≡ c.call.area) × ((change_done c).loader ≡ c.call.loader) × ((change_done c).contents ≡ c.call.contents)
  pub early : (c : ChangeCall) (n : ℕ) → (change_done c).answer ≡ turned_back n → n ≤ 3 → (change_done c).scratch ≡ c.call.scratch
  pub late : (c : ChangeCall) (n : ℕ) → (change_done c).answer ≡ turned_back n → 3 < n → (change_done c).scratch ≡ cleared scratch_area c.call.scratch
  -- ---- "under E6's written cover": the pairs change no cover. With a contents area answer, record, scratch and image are those of E6's call
  pub same : (c : ChangeCall) → 0 < length c.call.contents
      → ((change_done c).answer ≡ (forward_done c.call).answer) × ((change_done c).area ≡ (forward_done c.call).area) × ((change_done c).scratch ≡ (forward_done c.call).scratch)
      × ((change_done c).loader ≡ (forward_done c.call).loader)
  -- "A change-over at step 0 must give E6's contents", and all else; a lone byte is no step
  pub zero : (c : ChangeCall) → 0 < length c.call.contents → step_of c ≡ 0 → change_done c ≡ forward_done c.call
  -- an accepted call has a contents area
  pub lent : (c : ChangeCall) (n : ℕ) → (change_done c).answer ≡ accepted n → 0 < length c.call.contents
  -- ---- "At a given step, from the old net's last three values of every node, the new board's register contents under E6's written cover are worked out"; "the net first runs on
  -- them from its section": whatever keeps these three values of every node, and no other value, gives the contents
  pub contents : (c : ChangeCall) (n : ℕ) (d : Drawn) → IsDrawn c.call.k c.call.net d → (r : Record) → Read c.call (change_done c) n d.net r
      → (three : ℕ → ℕ → Bool) → Keeps d.net most_count (section_in d.section) (value_at d.net (section_in d.section) (pairs_in c.pairs)) three (step_of c)
      → (change_done c).contents ≡ written (contents_of d.net (cover_in d.net r) three) c.call.contents
  -- "From that step the board's outputs go on as the old net's would have done, for all later inputs": where the registers hold what the contents area begins with. The inputs are
  -- the pairs' before the step, and any from it on
  pub continues : (c : ChangeCall) (n : ℕ) (d : Drawn) → IsDrawn c.call.k c.call.net d → (r : Record) → Read c.call (change_done c) n d.net r
      → (contents : ℕ → Copy → ℕ → Bool) (last : ℕ → ℕ → Bool) (rest : List ℕ) → (change_done c).contents ≡ contents_bytes d.net (cover_in d.net r) contents last ++ rest
      → (inputs : ℕ → ℕ → Bool) → ((u s : ℕ) → IsInput d.net u → s < step_of c → inputs u s ≡ pairs_in c.pairs u s)
      → (o : ℕ) → o < length d.net.outputs → (t : ℕ)
      → board_shows d.net (cover_in d.net r) r.period (tables_in r) contents last (λ u s. inputs u (s + step_of c)) o t ≡ net_shows d.net (section_in d.section) inputs o (t + step_of c)
