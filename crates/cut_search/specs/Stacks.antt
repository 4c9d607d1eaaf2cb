-- Definitions: the stack of a search in an array of numbers. Place 0 has its depth, each place from 1 on a frame: the copy, times 16, and its next turn. The turns of
-- a copy with n pins: the pin to be searched first, all pins, and itself.
use Rattle.std.specs.Prelude.{◌≡◌, refl, List, [], ◌∷◌, ℕ, zero, suc, ◌+◌, ◌-◌, ◌*◌, ◌/◌, ◌%◌, ◌≤◌, ◌<◌, get_or}
use Rattle.std.proofs.Common.{arith}
use Rattle.sequences.specs.Member.{◌∈◌}
use Rattle.cut_flow.specs.Search.{View}
use Rattle.cut_flow.specs.Stack.{Frame, frame, Turns, Stacked, Hanging, Unwinding}
use Rattle.cut_flow.specs.StackBounds.{owed}
use Rattle.cut_circuit.specs.Circuit.{Circuit, graph_of, pins_of, unless}
use Rattle.cut_circuit.specs.CircuitLaws.{pin-below, unless-zero, unless-positive}
use Rattle.cut_search.specs.SearchTable.{view_of, left_in}

-- ---- frames
abbrev pub frame_in : ℕ → Frame
frame_in n = frame (n / 16) (n % 16)

-- the frames up to place n, the last one first
unfoldable pub frames_at : List ℕ → ℕ → List Frame
frames_at stk zero = []
frames_at stk (suc n) = frame_in (get_or stk (suc n) 0) ∷ frames_at stk n

abbrev pub frames_of : List ℕ → List Frame
frames_of stk = frames_at stk (get_or stk 0 0)

-- ---- turns
abbrev pub turn_at : ℕ → ℕ → ℕ → ℕ
turn_at n f zero = suc f
turn_at n f (suc i) = unless (suc i - n) (suc i)

abbrev pub first_of : Circuit → ℕ → ℕ
first_of C x = get_or C.first (x / C.width - C.inputs) 0

pub turn-first : (n f i : ℕ) → i ≡ 0 → turn_at n f i ≡ f + 1
turn-first n f zero h = omega arith
turn-first n f (suc i) h = absurd (omega (arith, h))

pub turn-same : (n f i : ℕ) → ¬ (i ≡ 0) → i ≤ n → turn_at n f i ≡ i
turn-same n f zero h k = absurd (h refl)
turn-same n f (suc i) h k = unless-zero (suc i - n) (suc i) (omega (arith, k))

pub turn-self : (n f i : ℕ) → suc n ≤ i → turn_at n f i ≡ 0
turn-self n f zero h = absurd (omega (arith, h))
turn-self n f (suc i) h = unless-positive (suc i - n) (suc i) (omega (arith, h))

pub turn-pin : (n f j : ℕ) → j < n → turn_at n f (suc j) ≡ suc j
turn-pin n f j h = unless-zero (suc j - n) (suc j) (omega (arith, h))

pub turns_of : (C : Circuit) → Turns (graph_of C)
turns_of C = record {
  turn = λ x i. turn_at (pins_of C x) (first_of C x) i;
  last = λ x. suc (pins_of C x);
  self = λ x i h. turn-self (pins_of C x) (first_of C x) i h;
  every = λ x j e h. let k = (pin-below C x j h).1 in (suc j, omega (arith, k), turn-pin (pins_of C x) (first_of C x) j k);
}

pub last-is : (C : Circuit) (x : ℕ) → (turns_of C).last x ≡ suc (pins_of C x)
unfolding turns_of
last-is C x = refl

pub turn_is : (C : Circuit) (x i : ℕ) → (turns_of C).turn x i ≡ turn_at (pins_of C x) (first_of C x) i
unfolding turns_of
turn_is C x i = refl

-- ---- the search in its arrays: table, stack and counters, from f units, where the turn of the forced copies in R has come
abbrev pub node_of : Circuit → ℕ → ℕ
node_of C x = x / C.width

abbrev pub StackedIn : Circuit → ℕ → List ℕ → List ℕ → List ℕ → List ℕ → Type 0
StackedIn C f R t stk cnt = Stacked (graph_of C) (turns_of C) (node_of C) f (view_of t).flow (λ z. z ∈ R) (view_of t) (λ u. get_or cnt u 0) (frames_of stk)

pub record HangingIn (C : Circuit) (f : ℕ) (R t stk cnt : List ℕ) (y : ℕ) : Type 0 where
  pub top : Frame
  pub rest : List Frame
  pub frames : frames_of stk ≡ top ∷ rest
  pub hanging : Hanging (graph_of C) (turns_of C) (node_of C) f (view_of t).flow (λ z. z ∈ R) (view_of t) (λ u. get_or cnt u 0) top rest y

pub record UnwindingIn (C : Circuit) (X : List ℕ) (v₀ : View) (t stk : List ℕ) : Type 0 where
  pub top : Frame
  pub rest : List Frame
  pub frames : frames_of stk ≡ top ∷ rest
  pub unwinding : Unwinding (graph_of C) (turns_of C) X v₀ (view_of t) top rest

-- what a search ends by: ten for each mark left, and the turns still to come on the stack
unfoldable pub owing : List ℕ → List ℕ → ℕ
owing t stk = 10 * left_in t + owed 8 (frames_of stk)
