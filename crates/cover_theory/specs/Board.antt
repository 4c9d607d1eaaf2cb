-- Definitions: what a cover's LUTs carry at each step when the net runs (document 01, "Under lag r the LUT's value at step t is the root's at step t − r"; demand 2).
use Rattle.std.specs.Prelude.{◌≡◌, Bool, List, [], ◌∷◌, ℕ, ◌<◌, ℤ, pos, ◌+ℤ◌, ◌-ℤ◌, length}
use Rattle.net_model.specs.Net.{Net}
use Rattle.net_model.specs.Copies.{Copy}
use Rattle.net_model.specs.Tables.{apply}
use Rattle.cover_theory.specs.Covers.{Cover, lut, lag_of, registers}

-- Node u under lag q carries b at step t: a run has values from step 0 on, so t − q must be one of its steps.
pub record Carries (value : ℕ → ℕ → Bool) (u : ℕ) (q t : ℤ) (b : Bool) : Type 0 where
  pub step : ℕ
  pub when : (t -ℤ q) ≡ pos step
  pub is : value u step ≡ b

-- The leaves of LUT i bring the values bs at step t, each through the registers of its connection.
pub data Brought (N : Net) (K : Cover) (value : ℕ → ℕ → Bool) (i : ℕ) (t : ℤ) : List Copy → List Bool → Type 0 where
  none : Brought N K value i t [] []
  next : {y : Copy} {L : List Copy} {b : Bool} {bs : List Bool}
      → Carries value y.node (lag_of N K y.node (K.feeder i y)) (t -ℤ registers N K i y) b
      → Brought N K value i t L bs → Brought N K value i t (y ∷ L) (b ∷ bs)

-- "Every run of the net, shifted by the lags, satisfies each LUT wherever its values exist": LUT i with the given table, at every step.
abbrev pub Satisfied : Net → Cover → (ℕ → ℕ → Bool) → ℕ → ℕ → Type 0
Satisfied N K value i table =
    (t : ℤ) (b : Bool) (bs : List Bool) → Carries value (lut K i).root (lut K i).lag t b → Brought N K value i t (lut K i).leaves bs → b ≡ apply table bs
