-- Definitions: a frame put on the stack: what is asked and told.
use Rattle.std.specs.Prelude.{◌≡◌, List, ◌∷◌, ℕ, ◌+◌, ◌*◌, ◌^◌, ◌<◌, length, get_or}
use Rattle.cut_flow.specs.Stack.{frame}
use Rattle.cut_search.specs.Stacks.{frames_of}

pub record PushAsked (stk : List ℕ) (x i : ℕ) : Type 0 where
  pub room : get_or stk 0 0 + 1 < length stk
  pub short : length stk < 2 ^ 32
  pub turn : i < 16
  pub fits : x * 16 + i < 2 ^ 32

pub record Pushed (stk stk' : List ℕ) (x i : ℕ) : Type 0 where
  pub frames : frames_of stk' ≡ frame x i ∷ frames_of stk
