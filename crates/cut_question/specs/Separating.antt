-- Definitions: what the functions around `min_cut` ask and tell. Its table is cleared before they return.
use Rattle.std.specs.Prelude.{◌≡◌, Bool, true, false, List, ℕ, ◌≤◌, ◌<◌, length, take}
use Rattle.cut_circuit.specs.Circuit.{Circuit, total}
use Rattle.cut_least.specs.CutRounds.{Cleared, Sized, CutAsked, CutTold}
use Rattle.cut_least.specs.Collect.{CollectAsked, CollectTold}
use Rattle.cut_kept.specs.KeptCuts.{row_at, unbordered, KeptCuts}
use Rattle.cut_kept.specs.Keeping.{RowKept}
use Rattle.cut_question.specs.Question.{Resting}

-- The engine at rest: the circuit at rest, its arrays of their sizes, no flow and no mark; what is kept are cuts.
pub record AtRest (C : Circuit) (t l stk cnt members : List ℕ) : Type 0 where
  pub resting : Resting C members
  pub sized : Sized C t l stk cnt
  pub cleared : Cleared t l
  pub kept : KeptCuts (unbordered C) members

-- r is what `min_cut` told of a table that is cleared by now.
pub record CutSeen (C : Circuit) (k r : ℕ) : Type 0 where
  pub table : List ℕ
  pub list : List ℕ
  pub room : length table ≡ total C
  pub told : CutTold C table list k r

-- What `separate` asks: the members are the first f, and there is room for the rows.
pub record SeparateAsked (C : Circuit) (members : List ℕ) (f : ℕ) (t l stk cnt : List ℕ) (k g : ℕ) : Type 0 where
  pub part : f ≤ length members
  pub cut : CutAsked C (take f members) t l stk cnt k
  pub gate : g < C.gates
  pub rows : row_at C.gates C.gates ≤ length members

-- The same of a number that is at most k where a cut was found: then the row of gate g is written from that table.
pub record SeenKept (C : Circuit) (k g : ℕ) (members members' : List ℕ) (found : Bool) : Type 0 where
  pub count : ℕ
  pub few : found ≡ true → count ≤ k
  pub many : found ≡ false → k < count
  pub seen : CutSeen C k count
  pub row : RowKept C.gates seen.table members members' g C.border k count

-- ---- leaves, where there are few
abbrev pub LeavesAsked : ℕ → ℕ → ℕ → List ℕ → List ℕ → List ℕ → List ℕ → Type 0
LeavesAsked width k r t l nodes backs = r ≤ k → CollectAsked width t l nodes backs

abbrev pub LeavesTold : ℕ → ℕ → ℕ → List ℕ → List ℕ → List ℕ → Type 0
LeavesTold width k r t nodes backs = r ≤ k → (m : ℕ) × CollectTold width t nodes backs m

-- r and the leaves are what a table told that is cleared by now.
pub record LeavesSeen (C : Circuit) (k : ℕ) (nodes backs : List ℕ) (r : ℕ) : Type 0 where
  pub seen : CutSeen C k r
  pub collected : LeavesTold C.width k r seen.table nodes backs
