-- The lag of a label, ⌈label/φ⌉ − 1, is the one q with φ·q < label ≤ φ·q + φ; its place is what is left, in 1..φ.
use Rattle.std.specs.Prelude.{◌≡◌, refl, ℕ, suc, ◌+◌, ◌*◌, ◌-◌, ◌/◌, ◌≤◌, ◌<◌, ℤ, pos, negsuc, neg_ℤ, ◌+ℤ◌, ◌-ℤ◌, ◌*ℤ◌, ◌≤ℤ◌, ◌<ℤ◌}
use Rattle.std.proofs.Math.Nat.{div-add-mod, lt_of_mul-lt-mul_left}
use Rattle.std.proofs.Common.{mod-lt, arith}
use Rattle.std.specs.Int.Signed.{≤ℤ_refl}
use Rattle.integers.specs.Parts.{up, dn, ints, +-parts, sub_parts, neg_parts, *-parts, scale, pos-up}
use Rattle.integers.specs.Order.{≤ℤ_antisym}

-- ⌈z/φ⌉, for 1 ≤ φ
unfoldable pub ceil_div : ℤ → ℕ → ℤ
ceil_div (pos n) φ = pos ((n + (φ - 1)) / φ)
ceil_div (negsuc n) φ = neg_ℤ (pos (suc n / φ))

-- a label's lag is ⌈label/φ⌉ − 1
unfoldable pub lag : ℕ → ℤ → ℤ
lag φ z = ceil_div z φ -ℤ pos 1

-- and its place label − φ·lag
unfoldable pub place : ℕ → ℤ → ℕ
place φ z = up (z -ℤ (pos φ *ℤ lag φ z))

pub record Lag (φ : ℕ) (z q : ℤ) : Type 0 where
  pub over : (pos φ *ℤ q) <ℤ z
  pub under : z ≤ℤ ((pos φ *ℤ q) +ℤ pos φ)
