-- Definitions: marks on gates, and what they mean to the checks.
use Rattle.std.specs.Prelude.{◌≡◌, List, [], ◌∷◌, ◌⊎◌, ℕ, zero, suc, ◌+◌, ◌≤◌, ◌<◌, length, get_or}
use Rattle.std.proofs.Math.Decide.{ℕ_discrete}
use Rattle.sequences.specs.Keep.{keep}

-- gate g carries a mark
abbrev pub Marked : List ℕ → ℕ → Type 0
Marked m g = ¬ (get_or m g 0 ≡ 0)

-- a node is an input, or a marked gate
abbrev pub Known : ℕ → List ℕ → ℕ → Type 0
Known inputs m u = (u < inputs) ⊎ ((g : ℕ) × (u ≡ inputs + g) × Marked m g)

-- how many gates carry no mark
unfoldable pub unmarked : List ℕ → ℕ
unmarked m = length (keep (λ n. ℕ_discrete n 0) m)

-- marks stay, and r are new
pub record Grown (m m' : List ℕ) (r : ℕ) : Type 0 where
  pub size : length m' ≡ length m
  pub kept : (g : ℕ) → Marked m g → get_or m' g 0 ≡ get_or m g 0
  pub new : r + unmarked m' ≡ unmarked m
  pub same : r ≡ 0 → m' ≡ m

-- a node is an input, or a gate with a mark of at most v
abbrev pub Low : ℕ → List ℕ → ℕ → ℕ → Type 0
Low inputs m u v = (u < inputs) ⊎ ((g : ℕ) × (u ≡ inputs + g) × Marked m g × (get_or m g 0 ≤ v))

-- v may be put in the place of x: there is no mark, or a larger one
abbrev pub Above : ℕ → ℕ → Type 0
Above v x = (x ≡ 0) ⊎ (v < x)

-- what a mark can still fall by, where no mark counts as `top`
unfoldable pub room : ℕ → ℕ → ℕ
room top zero = top
room top (suc x) = suc x

-- the same of all marks together
unfoldable pub left : ℕ → List ℕ → ℕ
left top [] = 0
left top (x ∷ m) = room top x + left top m

-- marks stay or fall, r times in all
pub record Fallen (top : ℕ) (m m' : List ℕ) (r : ℕ) : Type 0 where
  pub size : length m' ≡ length m
  pub stay : (g : ℕ) → Marked m g → Marked m' g
  pub lower : (g : ℕ) → Marked m g → get_or m' g 0 ≤ get_or m g 0
  pub fewer : unmarked m' ≤ unmarked m
  pub new : r + left top m' ≤ left top m
  pub same : r ≡ 0 → m' ≡ m
