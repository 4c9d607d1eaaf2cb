-- An array of zeros has 0 at each place.
use Rattle.std.specs.Prelude.{◌≡◌, refl, ℕ, zero, suc, get_or, replicate}

pub zeros : (n j : ℕ) → ◌≡◌ {A = ℕ} (get_or (replicate n 0) j 0) 0
zeros zero j = refl
zeros (suc n) zero = refl
zeros (suc n) (suc j) = zeros n j
