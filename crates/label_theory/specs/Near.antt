-- Definitions: labels that no labelling is below by more than c, what visits keep of them, and a trial in which labels raised by δ rose further.
use Rattle.std.specs.Prelude.{ℕ, ◌≤◌, ◌⊎◌, ℤ, pos, ◌+ℤ◌, ◌-ℤ◌, ◌≤ℤ◌, ◌<ℤ◌}
use Rattle.net_model.specs.Net.{Net, IsNode}
use Rattle.net_model.specs.Copies.{Cut}
use Rattle.label_theory.specs.Labels.{Low, Mode, Inside, LabellingIn}

-- at each node at most c above any labelling
abbrev pub Near : Mode → Net → ℕ → ℕ → ℕ → (ℕ → ℤ) → Type 0
Near M N k φ c m = (lab : ℕ → ℤ) → LabellingIn M N k φ lab → (v : ℕ) → IsNode N v → m v ≤ℤ (lab v +ℤ pos c)

-- wherever m is near by c, up to δ, so is m'
abbrev pub Keeps : Mode → Net → ℕ → ℕ → ℕ → (ℕ → ℤ) → (ℕ → ℤ) → Type 0
Keeps M N k φ δ m m' = (c : ℕ) → c ≤ δ → Near M N k φ c m → Near M N k φ c m'

-- a k-cut of height at most p under labels raised by up to δ: its members are those of a cut of height p − δ
abbrev pub TrialCut : Mode → Net → ℕ → ℕ → ℕ → (ℕ → ℤ) → ℕ → ℤ → Type 0
TrialCut M N k φ δ m v p = Cut N k v (Low φ m p) (Inside M φ (p -ℤ pos δ))

-- each node of m is no higher than in lo, or at most δ higher, and then m' is more than δ higher
abbrev pub Rose : Net → (ℕ → ℤ) → (ℕ → ℤ) → (ℕ → ℤ) → ℕ → Type 0
Rose N lo m m' δ = (v : ℕ) → IsNode N v → (m v ≤ℤ lo v) ⊎ ((m v ≤ℤ (lo v +ℤ pos δ)) × ((lo v +ℤ pos δ) <ℤ m' v))
