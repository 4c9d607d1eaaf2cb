-- Definitions: marks: 0 for a gate that is no root so far, 1 for a root whose cut is still to be taken, 2 for one whose cut is taken.
use Rattle.std.specs.Prelude.{◌≡◌, List, Option, MatchOption, ℕ, zero, suc, ◌+◌, ◌-◌, ◌≤◌, ◌<◌, get_or}

-- gate g is node u
pub record IsAt (I G u g : ℕ) : Type 0 where
  pub node : u ≡ I + g
  pub gate : g < G

-- gate g is one of the nodes from one place up to another
pub record Among (I G : ℕ) (nodes : List ℕ) (from to g : ℕ) : Type 0 where
  pub place : ℕ
  pub low : from ≤ place
  pub high : place < to
  pub is_at : IsAt I G (get_or nodes place 0) g

-- The gates with P are marked; new marks are 1.
pub record Marks (P : ℕ → Type 0) (m m' : List ℕ) : Type 0 where
  pub kept : (g : ℕ) → ¬ (get_or m g 0 ≡ 0) → get_or m' g 0 ≡ get_or m g 0
  pub new : (g : ℕ) → get_or m g 0 ≡ 0 → ¬ (get_or m' g 0 ≡ 0) → (get_or m' g 0 ≡ 1) × P g
  pub marked : (g : ℕ) → P g → ¬ (get_or m' g 0 ≡ 0)

-- the first of n gates whose cut is still to be taken, if there is one
abbrev pub Pending : List ℕ → ℕ → Option ℕ → Type 0
Pending m n r =
    MatchOption r ((g : ℕ) → g < n → ¬ (get_or m g 0 ≡ 1)) (λ g. (g < n) × (get_or m g 0 ≡ 1) × ((u : ℕ) → u < g → ¬ (get_or m u 0 ≡ 1)))

-- what is left to do for the first n gates
unfoldable pub left : List ℕ → ℕ → ℕ
left m zero = 0
left m (suc n) = (2 - get_or m n 0) + left m n
