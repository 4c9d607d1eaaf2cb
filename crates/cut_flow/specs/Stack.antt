-- Definitions: a search for one more unit with a stack of its own. A frame is a copy that was come to and its next turn; below it stands the frame that led there.
use Rattle.std.specs.Prelude.{◌≡◌, ◌⊎◌, List, [], ◌∷◌, map, ℕ, suc, ◌+◌, ◌-◌, ◌≤◌, ◌<◌}
use Rattle.sequences.specs.Member.{◌∈◌}
use Rattle.sequences.specs.Distinct.{Distinct}
use Rattle.cut_flow.specs.Graph.{Graph, Feeding}
use Rattle.cut_flow.specs.State.{Next}
use Rattle.cut_flow.specs.Search.{View, Reached, outward, Ready, PinPassed, PassedOut, Waits}
use Rattle.cut_flow.specs.Closed.{Found}
use Rattle.cut_flow.specs.Capped.{Expanded}
use Rattle.cut_flow.specs.Tally.{Tally}

pub record Frame : Type 0 where
  pub copy : ℕ
  pub turn : ℕ

abbrev pub frame : ℕ → ℕ → Frame
frame x i = record { copy = x; turn = i }

abbrev pub copies : List Frame → List ℕ
copies fs = map (λ (b : Frame). b.copy) fs

-- The ways of a copy in turns: way 0 is itself, way j + 1 its pin j. All pins come before the last turn, which is itself.
pub record Turns (G : Graph) : Type 0 where
  pub turn : ℕ → ℕ → ℕ
  pub last : ℕ → ℕ
  pub self : (x i : ℕ) → last x ≤ i → turn x i ≡ 0
  pub every : (x j : ℕ) → G.terminal x ≡ 0 → j < G.pins x → (i : ℕ) × (i < last x) × (turn x i ≡ suc j)

-- way w of x leads to y
pub data Way (G : Graph) (flow : ℕ → ℕ) (x w y : ℕ) : Type 0 where
  by-pin : (j : ℕ) → w ≡ suc j → j < G.pins x → G.source x j ≡ y → G.forced y ≡ 0 → Way G flow x w y
  by-self : w ≡ 0 → x ≡ y → 0 < flow x → Way G flow x w y

-- out of y the search comes to x
pub data Comes (G : Graph) (flow : ℕ → ℕ) (y x : ℕ) : Type 0 where
  itself : x ≡ y → flow x ≡ 0 → G.terminal x ≡ 0 → G.forced x ≡ 0 → Comes G flow y x
  successor : Next G flow y x → G.forced x ≡ 0 → Comes G flow y x

-- x has passed its mark on by way w
pub record WayPassed (G : Graph) (v : View) (x w : ℕ) : Type 0 where
  pub pin : (j : ℕ) → w ≡ suc j → PinPassed G v x j
  pub self : w ≡ 0 → 0 < v.flow x → 0 < v.out x

-- the way that b took last leads to y
pub record Led (G : Graph) (T : Turns G) (flow : ℕ → ℕ) (b : Frame) (y : ℕ) : Type 0 where
  pub begun : 0 < b.turn
  pub way : Way G flow b.copy (T.turn b.copy (b.turn - 1)) y

-- Each frame was come to from the one below, and the lowest is forced.
pub data Trail (G : Graph) (T : Turns G) (flow : ℕ → ℕ) : List Frame → Type 0 where
  none : Trail G T flow []
  root : {b : Frame} → 0 < G.forced b.copy → Trail G T flow (b ∷ [])
  over : {a b : Frame} {fs : List Frame} (y : ℕ) → Led G T flow b y → Comes G flow y a.copy → Trail G T flow (b ∷ fs) → Trail G T flow (a ∷ b ∷ fs)

-- z stands on the stack and has passed its mark on by the turns before its own
pub record Opened (G : Graph) (T : Turns G) (v : View) (fs : List Frame) (z : ℕ) : Type 0 where
  pub turn : ℕ
  pub on : frame z turn ∈ fs
  pub passed : (t : ℕ) → t < turn → WayPassed G v z (T.turn z t)

-- z stands on the stack with its last turn still to come
pub record Early (G : Graph) (T : Turns G) (fs : List Frame) (z : ℕ) : Type 0 where
  pub turn : ℕ
  pub on : frame z turn ∈ fs
  pub early : turn ≤ T.last z

-- z is forced and its turn has come, or it is marked in
abbrev pub Come : (ℕ → Type 0) → View → ℕ → Type 0
Come S v z = S z ⊎ (0 < v.inn z)

abbrev pub Good : (G : Graph) → Turns G → View → List Frame → ℕ → Type 0
Good G T v fs z = Expanded G v z ⊎ Opened G T v fs z

-- a frame's copy is counted, or it carries and only itself is tried
abbrev pub Held : (G : Graph) → Turns G → (ℕ → ℕ) → List ℕ → Frame → Type 0
Held G T flow L b = (b.copy ∈ L) ⊎ ((0 < flow b.copy) × (T.last b.copy ≤ b.turn))

-- z carries or feeds a counted copy
abbrev pub Near : Graph → (ℕ → ℕ) → List ℕ → ℕ → Type 0
Near G flow L z = (0 < flow z) ⊎ ((x : ℕ) × (x ∈ L) × Feeding G z x)

abbrev pub SelfPassed : View → ℕ → Type 0
SelfPassed v z = 0 < v.flow z → 0 < v.out z

-- What holds at each point of a search, from `flow`, where the turn of the forced copies in S has come.
pub record Core (G : Graph) (T : Turns G) (node : ℕ → ℕ) (f : ℕ) (flow : ℕ → ℕ) (S : ℕ → Type 0) (v : View) (count : ℕ → ℕ) (fs : List Frame) : Type 0 where
  pub ready : Ready G v
  pub same : v.flow ≡ flow
  pub forced : (z : ℕ) → S z → 0 < G.forced z
  pub list : List ℕ
  pub tally : Tally node f count list (Come S v) (Good G T v fs)
  pub selfs : (z : ℕ) → 0 < v.inn z → SelfPassed v z ⊎ Early G T fs z
  pub found : (b : Frame) → b ∈ fs → Come S v b.copy
  pub held : (b : Frame) → b ∈ fs → Held G T flow list b
  pub near : (z : ℕ) → 0 < v.out z → Near G flow list z
  pub beside : (z : ℕ) → 0 < v.inn z → (0 < v.out z) ⊎ (0 < v.flow z)
  pub distinct : Distinct (copies fs)
  pub trail : Trail G T flow fs

-- between two steps: each copy marked out has passed its mark on
pub record Stacked (G : Graph) (T : Turns G) (node : ℕ → ℕ) (f : ℕ) (flow : ℕ → ℕ) (S : ℕ → Type 0) (v : View) (count : ℕ → ℕ) (fs : List Frame) : Type 0 where
  pub core : Core G T node f flow S v count fs
  pub outs : (z : ℕ) → 0 < v.out z → PassedOut G v z

-- within a step: the top frame b led to y, which is marked out and has not passed its mark on
pub record Hanging (G : Graph) (T : Turns G) (node : ℕ → ℕ) (f : ℕ) (flow : ℕ → ℕ) (S : ℕ → Type 0) (v : View) (count : ℕ → ℕ) (b : Frame) (fs : List Frame) (y : ℕ) : Type 0 where
  pub core : Core G T node f flow S v count (b ∷ fs)
  pub led : Led G T flow b y
  pub reached : Reached G v.flow outward y
  pub marked : 0 < v.out y
  pub outs : (z : ℕ) → 0 < v.out z → ¬ (z ≡ y) → PassedOut G v z

-- after a success: the unit waits at `to`, where b led; all that carries, and the copies of the stack, are in X
pub record Unwinding (G : Graph) (T : Turns G) (X : List ℕ) (v₀ v : View) (b : Frame) (fs : List Frame) : Type 0 where
  pub to : ℕ
  pub waits : Waits G v₀ v to
  pub led : Led G T v.flow b to
  pub trail : Trail G T v.flow (b ∷ fs)
  pub distinct : Distinct (copies (b ∷ fs))
  pub load : (z : ℕ) → 0 < v.flow z → z ∈ X
  pub inside : (z : ℕ) → z ∈ copies (b ∷ fs) → z ∈ X
  pub found : (a : Frame) → a ∈ b ∷ fs → Found G v a.copy
