-- Laws of the overlap and of agreement: how many steps overlap; agreement is decided.
use Rattle.std.specs.Prelude.{◌≡◌, List, length, get_or}
use Rattle.std.proofs.Math.Path.{refl}
use Prim.Native.Nat.{ℕ, zero, suc, ◌+◌, ◌≤◌, ◌<◌, suc-le-suc}
use Rattle.std.proofs.Common.{le_of_suc-le-suc}
use Rattle.std.proofs.Math.Decide.{ℕ_discrete, dec_le, dec_lt}
use native.Mathlib.Omega.{arith}
use Rattle.sequences.specs.Decide.{up_to, count-from, below?, dec-×, dec-→, dec_map, some-below?}
use Rattle.sequences.specs.Keep.{keep, bit, bit_yes, bit_no, length-keep_cons}
use Rattle.captures.specs.Captures.{most_shift, least_overlap, overlap, Agrees}

-- ---- how many steps overlap

-- of the m numbers from b on, those that stay below n with s added
module _ (n s : ℕ) where
  kept : ℕ → ℕ → ℕ
  kept b m = length (keep (λ i. dec_lt (i + s) n) (count-from b m))

  kept_step : (b m : ℕ) → kept b (suc m) ≡ bit (dec_lt (b + s) n) + kept (suc b) m
  unfolding kept count-from
  kept_step b m = length-keep_cons (λ i. dec_lt (i + s) n) b (count-from (suc b) m)

  kept-none : (b m : ℕ) → n ≤ b + s → kept b m ≡ 0
  unfolding kept
  kept-none b zero h = unfold keep count-from in refl
  kept-none b (suc m) h = omega (arith, kept_step b m, kept-none (suc b) m (omega arith), bit_no over (dec_lt (b + s) n))
    where
      over : b + s < n → ⊥
      over l = omega arith

  kept-all : (b m : ℕ) → b + m + s ≤ n → kept b m ≡ m
  unfolding kept
  kept-all b zero h = unfold keep count-from in refl
  kept-all b (suc m) h = omega (arith, kept_step b m, kept-all (suc b) m (omega arith), bit_yes under (dec_lt (b + s) n))
    where
      under : b + s < n
      under = omega arith

  kept-some : (b m : ℕ) → b + s ≤ n → n ≤ b + m + s → kept b m + (b + s) ≡ n
  unfolding kept
  kept-some b zero h k = unfold keep count-from in omega arith
  kept-some b (suc m) h k = go (dec_lt (b + s) n) (λ l. kept-some (suc b) m l (omega arith))
    where
      go : Dec (b + s < n) → (suc b + s ≤ n → kept (suc b) m + (suc b + s) ≡ n) → kept b (suc m) + (b + s) ≡ n
      go (yes l) rest = omega (arith, kept_step b m, rest (omega arith), bit_yes l (dec_lt (b + s) n))
      go (no l) rest = omega (arith, kept-none b (suc m) (omega (arith, l)), l)

module _ (first second : List ℕ) (s : ℕ) where
  pub overlap-none : length first ≤ s → overlap first second s ≡ 0
  unfolding overlap up_to kept
  overlap-none h = kept-none (length first) s 0 (length second) (omega arith)

  pub overlap-all : length second + s ≤ length first → overlap first second s ≡ length second
  unfolding overlap up_to kept
  overlap-all h = kept-all (length first) s 0 (length second) (omega arith)

  pub overlap-part : s ≤ length first → length first ≤ length second + s → overlap first second s + s ≡ length first
  unfolding overlap up_to kept
  overlap-part h k = let e = kept-some (length first) s 0 (length second) (omega arith) (omega arith) in omega arith

  -- the steps that overlap are those below their number
  pub in_overlap : (i : ℕ) → i < overlap first second s → (i < length second) × (i + s < length first)
  in_overlap i h = go (dec_le (length second + s) (length first)) (dec_le s (length first))
    where
      go : Dec (length second + s ≤ length first) → Dec (s ≤ length first) → (i < length second) × (i + s < length first)
      go (yes a) d = omega (arith, overlap-all a)
      go (no a) (yes b) = omega (arith, a, overlap-part b (omega (arith, a)))
      go (no a) (no b) = absurd (no_step (overlap-none (omega (arith, b))))
        where
          no_step : overlap first second s ≡ 0 → ⊥
          no_step e = omega arith

  pub overlap_in : (i : ℕ) → i < length second → i + s < length first → i < overlap first second s
  overlap_in i h k = go (dec_le (length second + s) (length first))
    where
      go : Dec (length second + s ≤ length first) → i < overlap first second s
      go (yes a) = omega (arith, overlap-all a)
      go (no a) = omega (arith, a, overlap-part (omega arith) (omega (arith, a)))

  -- ---- agreement

  unfoldable pub agrees? : Dec (Agrees first second s)
  agrees? =
      dec_map (λ h. record { enough = h.0; same = h.1 }) (λ a. (a.enough, a.same))
      (dec-× (dec_le least_overlap (overlap first second s)) (below? (length second) (λ i h. dec-→ (dec_lt (i + s) (length first)) (ℕ_discrete (get_or second i 0) (get_or first (i + s) 0)))))

-- a shift from 0 to 255 agrees
unfoldable pub some-agrees? : (first second : List ℕ) → Dec ((s : ℕ) × (s ≤ most_shift) × Agrees first second s)
some-agrees? first second =
    dec_map (λ r. (r.0, le_of_suc-le-suc r.1, r.2)) (λ r. (r.0, suc-le-suc r.1, r.2))
    (some-below? (suc most_shift) (λ s h. agrees? first second s))
