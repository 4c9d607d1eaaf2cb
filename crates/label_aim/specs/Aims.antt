-- Definitions: the mode of labels, a trial's rise, and the border that a question has by them.
use Rattle.std.specs.Prelude.{◌≡◌, Bool, true, false, cond, ℕ, ◌*◌, ◌≤◌, ℤ}
use Rattle.label_theory.specs.Labels.{Mode, plain, forward, Inside}
use Rattle.label_theory.specs.Modes.{Topped, Bordered}
use Rattle.cut_circuit.specs.declared.Extent.{Extent}
use Rattle.label_aim.specs.declared.Aim.{Aim}

abbrev pub mode_of : Bool → Mode
mode_of true = forward
mode_of false = plain

-- by how much the labels of a trial were raised
abbrev pub rise_in : Extent → Aim → ℕ
rise_in s a = cond a.trial (a.phi * s.width) 0

-- up to the reach the border r is what the mode asks of members at height h, where some height suits it at all
pub record BorderTold (M : Mode) (φ : ℕ) (h : ℤ) (border r : ℕ) : Type 0 where
  pub most : r ≤ border
  pub bordered : (reach : ℕ) → reach ≤ border → Topped M φ h → Bordered (Inside M φ h) reach r

-- the extent of a question about height h: the same but for its border
pub record Bordering (M : Mode) (φ : ℕ) (h : ℤ) (s e : Extent) : Type 0 where
  pub inputs : e.inputs ≡ s.inputs
  pub gates : e.gates ≡ s.gates
  pub width : e.width ≡ s.width
  pub border : BorderTold M φ h s.border e.border
