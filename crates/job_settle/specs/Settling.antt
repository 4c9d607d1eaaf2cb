-- Definitions: checks 9 to 12 of a net read, and the cover: what they ask and tell.
use Rattle.std.specs.Prelude.{◌≡◌, Result, IfOk, Bool, true, false, List, ℕ, ◌≤◌}
use Rattle.net_model.specs.Net.{Net}
use Rattle.net_model.specs.Arrays.{net_in}
use Rattle.net_model.specs.Checks.{Sound, Fits, Loopless, AllReached, AllLeading, Passed}
use Rattle.net_model.specs.PackedNet.{NetKept}
use Rattle.limits.specs.Limits.{least_k, most_k, most_period}
use Rattle.label_theory.specs.Labels.{Mode, plain, ReachableIn}
use Rattle.cover_theory.specs.Covers.{LeastPeriod}
use Rattle.cover_records.specs.Kept.{Kept}
use Rattle.cover_records.specs.Outcomes.{unmet}
use Rattle.net_reader.specs.ReadAnswer.{arrays_of}
use Rattle.net_reader.specs.Rooms.{NetRoom}
use Rattle.net_reader.specs.WalkFacts.{WalkFacts}
use Rattle.net_reader.specs.declared.NetSizes.{NetSizes}
use Rattle.net_checks.specs.Graphs.{Ordered}
use Rattle.job_plan.specs.Planned.{Covered}
use Rattle.refusals.specs.declared.Refusal.{Refusal}
use Rattle.refusals.specs.Refusals.{code_of}

-- a net read, in slices, for k and a target within the limits
pub record Settling (k target : ℕ) (z : NetSizes) (net ts : List ℕ) : Type 0 where
  pub facts : WalkFacts k (arrays_of z net ts)
  pub room : NetRoom z net ts
  pub sound : Sound (net_in (arrays_of z net ts))
  pub fits : Fits (net_in (arrays_of z net ts)) k
  pub low : least_k ≤ k
  pub high : k ≤ most_k
  pub near : target ≤ most_period

-- r is the number of the first of 9 to 11, 21, where a section is lacking, and 12 or 22 that the net breaks, or 0 where the net passes and what is wanted is there
pub data Ended (M : Mode) (lacks : Bool) (k target : ℕ) (N : Net) (Wanted : Type 0) (r : ℕ) : Type 0 where
  loops : r ≡ 9 → ¬ Loopless N → Ended M lacks k target N Wanted r
  cut_off : r ≡ 10 → Loopless N → ¬ AllReached N → Ended M lacks k target N Wanted r
  idle : r ≡ 11 → Loopless N → AllReached N → ¬ AllLeading N → Ended M lacks k target N Wanted r
  sectionless : r ≡ 21 → Passed N k → lacks ≡ true → Ended M lacks k target N Wanted r
  unreachable : r ≡ unmet M → Passed N k → lacks ≡ false → 1 ≤ target → ¬ ReachableIn M N k target → Ended M lacks k target N Wanted r
  covered : r ≡ 0 → Passed N k → lacks ≡ false → Wanted → Ended M lacks k target N Wanted r

-- what was read stays; where all passed the order is there
pub record SettledNet (z : NetSizes) (net net' : List ℕ) (r : ℕ) : Type 0 where
  pub kept : NetKept z.inputs z.gates net net'
  pub ordered : r ≡ 0 → Ordered z net'

-- wanted is the cover with the period told
abbrev pub SettledAs : Mode → Bool → ℕ → ℕ → Net → (ℕ → Kept) → Result ℕ Refusal → Type 0
SettledAs M lacks k target N a r = Ended M lacks k target N (IfOk r (λ φ. Covered M N k target (a φ))) (code_of r)

-- wanted is the least period alone
abbrev pub LeastOf : ℕ → Net → Result ℕ Refusal → Type 0
LeastOf k N r = Ended plain false k 0 N (IfOk r (λ φ. LeastPeriod N k φ)) (code_of r)

-- all passed, and what is wanted is there
pub record Passing (lacks : Bool) (k : ℕ) (N : Net) (Wanted : Type 0) : Type 0 where
  pub passed : Passed N k
  pub sectioned : lacks ≡ false
  pub wanted : Wanted

-- all passed, and the cover is there
pub record CoverSettled (M : Mode) (lacks : Bool) (k target : ℕ) (N : Net) (a : Kept) : Type 0 where
  pub passed : Passed N k
  pub sectioned : lacks ≡ false
  pub cover : Covered M N k target a
