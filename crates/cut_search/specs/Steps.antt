-- Definitions: what the functions of the search ask and tell. What is not in the arrays is asked to be there, and told for whatever it was: R, the forced copies
-- whose turn has come, and W, which holds what carries.
use Rattle.std.specs.Prelude.{◌≡◌, ◌⊎◌, Bool, true, false, List, [], ◌∷◌, ◌++◌, ℕ, zero, suc, ◌+◌, ◌*◌, ◌^◌, ◌≤◌, ◌<◌, length, get_or, take, drop}
use Rattle.limits.specs.Limits.{most_pins}
use Rattle.sequences.specs.Member.{◌∈◌}
use Rattle.cut_flow.specs.Search.{View, Gains, Ready}
use Rattle.cut_flow.specs.Capped.{Capped}
use Rattle.cut_flow.specs.Stack.{Comes}
use Rattle.cut_circuit.specs.Circuit.{Circuit, graph_of, Layout, total, forced_in}
use Rattle.cut_circuit.specs.Chains.{Chains}
use Rattle.cut_search.specs.SearchTable.{view_of, Noted}
use Rattle.cut_search.specs.Stacks.{node_of, StackedIn, HangingIn, UnwindingIn, owing}

-- The arrays of the net are laid out, and a frame is a number of 32 bits.
pub record Fixed (C : Circuit) : Type 0 where
  pub layout : Layout C
  pub chains : Chains C
  pub small : total C * 16 < 2 ^ 32

-- W holds what carries
abbrev pub Load : List ℕ → List ℕ → Type 0
Load t W = (z : ℕ) → 0 < (view_of t).flow z → z ∈ W

-- Table, counters and stack are long enough for a search from f units.
pub record Store (C : Circuit) (f : ℕ) (t stk cnt : List ℕ) : Type 0 where
  pub room : length t ≡ total C
  pub counters : C.inputs + C.gates ≤ length cnt
  pub units : suc f < 2 ^ 32
  pub carriers : List ℕ
  pub load : Load t carriers
  pub deep : C.gates * suc f + length carriers < length stk
  pub short : length stk < 2 ^ 32

-- what is listed stays so
abbrev pub Keeps : List ℕ → List ℕ → Type 0
Keeps t t' = (l : List ℕ) → Noted t l → Noted t' l

-- After a success: the unit waits where the top frame led; X holds what carries.
pub record Won (C : Circuit) (f : ℕ) (v₀ : View) (t' stk' W : List ℕ) : Type 0 where
  pub X : List ℕ
  pub few : length X ≤ suc (C.gates * suc f + length W)
  pub deep : get_or stk' 0 0 < length stk'
  pub unwinding : UnwindingIn C X v₀ t' stk'

-- ---- the search comes to e, which is not marked in
pub record ComeAsked (C : Circuit) (f : ℕ) (t stk cnt : List ℕ) (e : ℕ) : Type 0 where
  pub fixed : Fixed C
  pub store : Store C f t stk cnt
  pub R : List ℕ
  pub y : ℕ
  pub hanging : HangingIn C f R t stk cnt y
  pub comes : Comes (graph_of C) (view_of t).flow y e
  pub fresh : (view_of t).inn e ≡ 0

pub record ComeTold (C : Circuit) (f : ℕ) (t stk cnt t' stk' cnt' : List ℕ) (e : ℕ) : Type 0 where
  pub keeps : Keeps t t'
  pub same : (view_of t').flow ≡ (view_of t).flow
  pub less : owing t' stk' ≤ owing t stk
  pub more : (R : List ℕ) (y : ℕ) → HangingIn C f R t stk cnt y → Comes (graph_of C) (view_of t).flow y e → StackedIn C f R t' stk' cnt'

-- ---- out of y, which is marked out
pub record LeaveAsked (C : Circuit) (f : ℕ) (t stk cnt : List ℕ) (y : ℕ) : Type 0 where
  pub fixed : Fixed C
  pub store : Store C f t stk cnt
  pub R : List ℕ
  pub hanging : HangingIn C f R t stk cnt y

pub record LeaveTold (C : Circuit) (f : ℕ) (t stk cnt t' stk' cnt' : List ℕ) (y : ℕ) (found : Bool) : Type 0 where
  pub keeps : Keeps t t'
  pub same : found ≡ false → (view_of t').flow ≡ (view_of t).flow
  pub less : found ≡ false → owing t' stk' ≤ owing t stk
  pub more : found ≡ false → (R : List ℕ) → HangingIn C f R t stk cnt y → StackedIn C f R t' stk' cnt'
  pub won : found ≡ true → (R : List ℕ) → HangingIn C f R t stk cnt y → (W : List ℕ) → Load t W → Won C f (view_of t) t' stk' W

-- ---- one step, and all of them
pub record RunAsked (C : Circuit) (f : ℕ) (t l stk cnt : List ℕ) : Type 0 where
  pub fixed : Fixed C
  pub store : Store C f t stk cnt
  pub noted : Noted t l
  pub long : C.gates * suc f * most_pins + length store.carriers < length l
  pub brief : length l < 2 ^ 32
  pub R : List ℕ
  pub stacked : StackedIn C f R t stk cnt

pub record StepAsked (C : Circuit) (f : ℕ) (t l stk cnt : List ℕ) : Type 0 where
  pub asked : RunAsked C f t l stk cnt
  pub begun : 0 < get_or stk 0 0

pub record StepTold (C : Circuit) (f : ℕ) (t stk cnt t' l' stk' cnt' : List ℕ) (found : Bool) : Type 0 where
  pub noted : Noted t' l'
  pub same : found ≡ false → (view_of t').flow ≡ (view_of t).flow
  pub less : found ≡ false → owing t' stk' < owing t stk
  pub more : found ≡ false → (R : List ℕ) → StackedIn C f R t stk cnt → StackedIn C f R t' stk' cnt'
  pub won : found ≡ true → (W : List ℕ) → Load t W → Won C f (view_of t) t' stk' W

pub record RunTold (C : Circuit) (f : ℕ) (t stk cnt t' l' stk' cnt' : List ℕ) (found : Bool) : Type 0 where
  pub noted : Noted t' l'
  pub same : found ≡ false → (view_of t').flow ≡ (view_of t).flow
  pub empty : found ≡ false → get_or stk' 0 0 ≡ 0
  pub more : found ≡ false → (R : List ℕ) → StackedIn C f R t stk cnt → StackedIn C f R t' stk' cnt'
  pub won : found ≡ true → (W : List ℕ) → Load t W → Won C f (view_of t) t' stk' W

-- up to some step, without success
pub record Running (C : Circuit) (f : ℕ) (t₀ stk₀ cnt₀ t l stk cnt : List ℕ) : Type 0 where
  pub asked : RunAsked C f t l stk cnt
  pub same : (view_of t).flow ≡ (view_of t₀).flow
  pub more : (R : List ℕ) → StackedIn C f R t₀ stk₀ cnt₀ → StackedIn C f R t stk cnt

-- ---- the stack taken down after a success
pub record UnwindAsked (C : Circuit) (t stk : List ℕ) : Type 0 where
  pub fixed : Fixed C
  pub room : length t ≡ total C
  pub short : length stk < 2 ^ 32
  pub deep : get_or stk 0 0 < length stk
  pub X : List ℕ
  pub v₀ : View
  pub unwinding : UnwindingIn C X v₀ t stk

pub record UnwindTold (C : Circuit) (t stk t' : List ℕ) : Type 0 where
  pub keeps : Keeps t t'
  pub gains : (v₀ : View) (X : List ℕ) → UnwindingIn C X v₀ t stk → Gains (graph_of C) v₀ (view_of t')
  pub load : (v₀ : View) (X : List ℕ) → UnwindingIn C X v₀ t stk → Load t' X

pub record Descending (C : Circuit) (t₀ stk₀ t stk : List ℕ) : Type 0 where
  pub asked : UnwindAsked C t stk
  pub keeps : Keeps t₀ t
  pub kept : (v₀ : View) (X : List ℕ) → UnwindingIn C X v₀ t₀ stk₀ → UnwindingIn C X v₀ t stk

-- ---- one member of the forced set, and all of them
-- One more unit flows, and X holds what carries.
pub record More (C : Circuit) (f : ℕ) (v₀ : View) (t' W : List ℕ) : Type 0 where
  pub X : List ℕ
  pub few : length X ≤ suc (C.gates * suc f + length W)
  pub gains : Gains (graph_of C) v₀ (view_of t')
  pub load : Load t' X

pub record MemberAsked (C : Circuit) (f : ℕ) (t l stk cnt : List ℕ) (x : ℕ) : Type 0 where
  pub asked : RunAsked C f t l stk cnt
  pub empty : get_or stk 0 0 ≡ 0
  pub forced : 0 < forced_in C x
  pub new : ¬ (x ∈ asked.R)

pub record MemberTold (C : Circuit) (f : ℕ) (t stk cnt t' l' stk' cnt' : List ℕ) (x : ℕ) (found : Bool) : Type 0 where
  pub noted : Noted t' l'
  pub same : found ≡ false → (view_of t').flow ≡ (view_of t).flow
  pub empty : found ≡ false → get_or stk' 0 0 ≡ 0
  pub more : found ≡ false → (R : List ℕ) → ¬ (x ∈ R) → StackedIn C f R t stk cnt → StackedIn C f (x ∷ R) t' stk' cnt'
  pub won : found ≡ true → (W : List ℕ) → Load t W → More C f (view_of t) t' W

-- The list of the forced copies, each once.
pub record Members (C : Circuit) (members : List ℕ) : Type 0 where
  pub forced : (i : ℕ) → i < length members → 0 < forced_in C (get_or members i 0)
  pub all : (x : ℕ) → 0 < forced_in C x → (i : ℕ) × (i < length members) × (get_or members i 0 ≡ x)
  pub once : (i j : ℕ) → i < j → j < length members → ¬ (get_or members i 0 ≡ get_or members j 0)

-- A search from no marks, from f units.
pub record SearchAsked (C : Circuit) (f : ℕ) (members t l stk cnt : List ℕ) : Type 0 where
  pub fixed : Fixed C
  pub store : Store C f t stk cnt
  pub noted : Noted t l
  pub long : C.gates * suc f * most_pins + length store.carriers < length l
  pub brief : length l < 2 ^ 32
  pub roots : Members C members
  pub ready : Ready (graph_of C) (view_of t)
  pub inn : (z : ℕ) → (view_of t).inn z ≡ 0
  pub out : (z : ℕ) → (view_of t).out z ≡ 0

-- The same with an empty stack and counters at 0.
pub record RootsAsked (C : Circuit) (f : ℕ) (members t l stk cnt : List ℕ) : Type 0 where
  pub search : SearchAsked C f members t l stk cnt
  pub empty : get_or stk 0 0 ≡ 0
  pub zero : (u : ℕ) → get_or cnt u 0 ≡ 0

-- No further unit was found, and each member is open or its node has a crowd; or one more.
pub record SearchTold (C : Circuit) (f : ℕ) (t t' l' : List ℕ) (found : Bool) : Type 0 where
  pub noted : Noted t' l'
  pub same : found ≡ false → (view_of t').flow ≡ (view_of t).flow
  pub capped : found ≡ false → Capped (graph_of C) (view_of t') (node_of C) f
  pub won : found ≡ true → (W : List ℕ) → Load t W → More C f (view_of t) t' W

-- the members from a place on, then those before it
unfoldable pub around : ℕ → List ℕ → List ℕ
around from members = drop from members ++ take from members

-- r is the place that is tried j-th of n, from a place on and then around
pub record Turning (n from j r : ℕ) : Type 0 where
  pub below : r < n
  pub place : (r ≡ from + j) ⊎ (r + n ≡ from + j)

-- the first i members, the last one first
unfoldable pub seen : List ℕ → ℕ → List ℕ
seen members zero = []
seen members (suc i) = get_or members i 0 ∷ seen members i

-- nothing was found from the first i members
pub record Searched (C : Circuit) (f : ℕ) (members t₀ t l stk cnt : List ℕ) (i : ℕ) : Type 0 where
  pub asked : RunAsked C f t l stk cnt
  pub turned : asked.R ≡ seen members i
  pub same : (view_of t).flow ≡ (view_of t₀).flow
  pub empty : get_or stk 0 0 ≡ 0
