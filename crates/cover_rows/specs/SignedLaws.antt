-- Laws of numbers with a sign, of one byte or two.
use Rattle.std.specs.Prelude.{◌≡◌, refl, Bool, true, false, cond, ℕ, suc, ◌+◌, ◌-◌, ◌≤◌, ◌<◌, ltb, pos, negsuc, ◌-ℤ◌}
use Rattle.std.proofs.Common.{sym, ap, ◌∙◌, arith, lt-ltb, le-ltb, ltb-true, ltb-false}
use Rattle.std.specs.Int.Signed.{mag}
use Rattle.cover_records.specs.CoverBytes.{all_ones, half_range, from_signed}
use Rattle.cover_records.specs.RoundTrip.{two-halves}
use Rattle.net_fields.specs.ItemsRead.{number_room}

-- two halves are all
pub halves : (w : Bool) → half_range w + half_range w ≡ number_room w
halves false = refl
halves true = refl

pub half-small : (w : Bool) → half_range w ≤ 32768
half-small false = omega arith
half-small true = omega arith

-- less than is taken away
below : (b m : ℕ) → b ≤ m → (pos b -ℤ pos (suc m)) ≡ negsuc (m - b)
below b m h = ap (λ (t : Bool). cond t (negsuc (suc m - suc b)) (pos (b - suc m))) (lt-ltb b (suc m) (omega arith)) ∙ ap negsuc (same m b)
  where
    same : (m b : ℕ) → suc m - suc b ≡ m - b
    same m b = omega arith

module _ (w : Bool) (b : ℕ) where
  pub signed_low : b < half_range w → pos b ≡ from_signed w b
  signed_low h = sym (ap (λ (t : Bool). cond t (pos b) (negsuc (all_ones w - b))) (lt-ltb b (half_range w) h))

  pub signed_high : half_range w ≤ b → b < number_room w → (pos b -ℤ pos (half_range w + half_range w)) ≡ from_signed w b
  signed_high h l =
      let z = halves w in
      let two = two-halves w in
      ap (λ (n : ℕ). pos b -ℤ pos n) two ∙ below b (all_ones w) (omega arith) ∙ sym (ap (λ (t : Bool). cond t (pos b) (negsuc (all_ones w - b))) (le-ltb b (half_range w) h))

  -- it is at most half the range from 0
  pub signed-small : mag (from_signed w b) ≤ half_range w
  signed-small = go (ltb b (half_range w)) (ltb-true b (half_range w)) (ltb-false b (half_range w))
    where
      go : (t : Bool) → (t ≡ true → b < half_range w) → (t ≡ false → half_range w ≤ b) → mag (cond t (pos b) (negsuc (all_ones w - b))) ≤ half_range w
      go true f g = let h = f refl in omega arith
      go false f g = let h = g refl in let z = two-halves w in omega arith
