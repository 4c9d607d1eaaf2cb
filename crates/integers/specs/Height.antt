-- The height that a connection with d registers asks of its end: label − φ·d + 1, and how it moves with the label and with d.
use Rattle.std.specs.Prelude.{◌≡◌, ℕ, ◌+◌, ◌*◌, ℤ, pos, ◌+ℤ◌, ◌-ℤ◌, ◌≤ℤ◌, ◌<ℤ◌}
use Rattle.std.proofs.Common.{arith}
use Rattle.integers.specs.Parts.{up, dn, ints, +-parts, sub_parts}

abbrev pub height : ℕ → ℤ → ℕ → ℤ
height φ l d = (l -ℤ pos (φ * d)) +ℤ pos 1
