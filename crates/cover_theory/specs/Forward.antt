-- Definitions: forward covers (document 02, E6).
use Rattle.std.specs.Prelude.{List, ℕ, ◌≤◌, ◌<◌, ℤ, pos, ◌+ℤ◌, length, ◌≤ℤ◌}
use Rattle.sequences.specs.Member.{◌∈◌}
use Rattle.net_model.specs.Net.{Net}
use Rattle.net_model.specs.Copies.{Copy, IsCone, IsLeaves}
use Rattle.label_theory.specs.Labels.{Mode, plain, forward}
use Rattle.cover_theory.specs.Covers.{Cover, lut, IsCover, Meets}

-- what a mode asks of a member x of the cone of a LUT with lag r
abbrev pub LagInside : Mode → ℤ → Copy → Type 0
LagInside plain r x = Unit {0}
LagInside forward r x = (r +ℤ pos x.back) ≤ℤ pos 0

-- of all LUTs of a cover
abbrev pub Suited : Mode → Net → Cover → Type 0
Suited M N K =
    (i : ℕ) → i < length K.luts → (C : List Copy) → IsCone N (lut K i).root C → IsLeaves N C (lut K i).leaves
    → (x : Copy) → x ∈ C → LagInside M (lut K i).lag x

-- "A forward cover is one in which, for every LUT, lag plus the largest d among its cone's members is 0 or less."
abbrev pub Forward : Net → Cover → Type 0
Forward = Suited forward

-- some forward cover of N for k meets φ
pub record ForwardMet (N : Net) (k φ : ℕ) : Type 0 where
  pub cover : Cover
  pub is_cover : IsCover N k cover
  pub meets : Meets N cover φ
  pub forward : Forward N cover

-- "the least forward period has none below it"
pub record LeastForwardPeriod (N : Net) (k φ : ℕ) : Type 0 where
  pub positive : 1 ≤ φ
  pub met : ForwardMet N k φ
  pub least : (ψ : ℕ) → 1 ≤ ψ → ψ < φ → ¬ ForwardMet N k ψ
