-- Laws of a candidate's LUTs kept in arrays: their number, and each by its place.
use Rattle.std.specs.Prelude.{◌≡◌, List, [], ◌∷◌, ◌++◌, ℤ, pos, length, get_or}
use Rattle.std.proofs.Math.Path.{refl, sym, ap, subst}
use Rattle.std.proofs.Common.{◌∙◌, add-zero, add-suc, suc-add, zero-add, not-suc-le-zero, le_of_suc-le-suc}
use Prim.Native.Nat.{ℕ, zero, suc, ◌+◌, ◌*◌, ◌≤◌, ◌<◌}
use native.Mathlib.Omega.{arith}
use Rattle.sequences.specs.Listed.{Listed, listed_next, listed-first}
use Rattle.sequences.specs.Member.{◌∈◌, here, there, not_in_nil}
use Rattle.cover_theory.specs.Key.{Entry}
use Rattle.cover_period.specs.Written.{no_entry}
use Rattle.cover_records.specs.Held.{Held, leaves_at, lut_at, luts_from, luts_in}

module _ (a : Held) where
  pub length-luts_from : (i n : ℕ) → length (luts_from a i n) ≡ n
  unfolding luts_from
  length-luts_from i zero = refl
  length-luts_from i (suc n) = ap suc (length-luts_from (suc i) n)

  pub get_or_luts_from : (i n j : ℕ) (d : Entry) → j < n → get_or (luts_from a i n) j d ≡ lut_at a (i + j)
  unfolding luts_from
  get_or_luts_from i zero j d h = absurd (not-suc-le-zero h)
  get_or_luts_from i (suc n) zero d h = ap (lut_at a) (sym (add-zero i))
  get_or_luts_from i (suc n) (suc j) d h = get_or_luts_from (suc i) n j d (le_of_suc-le-suc h) ∙ ap (lut_at a) (suc-add i j ∙ sym (add-suc i j))

  -- a LUT is at one of the places
  pub luts_from_in : (i n : ℕ) (e : Entry) → e ∈ luts_from a i n → (j : ℕ) × (j < n) × (e ≡ lut_at a (i + j))
  unfolding luts_from
  luts_from_in i zero e h = absurd (not_in_nil h)
  luts_from_in i (suc n) e h = go (luts_from_in (suc i) n e) h
    where
      go : (e ∈ luts_from a (suc i) n → (j : ℕ) × (j < n) × (e ≡ lut_at a (suc i + j))) → e ∈ lut_at a i ∷ luts_from a (suc i) n → (j : ℕ) × (j < suc n) × (e ≡ lut_at a (i + j))
      go rest (here q) = (zero, omega arith, q ∙ ap (lut_at a) (sym (add-zero i)))
      go rest (there m) =
          let r = rest m in
          (suc r.0, omega (arith, r.1), r.2 ∙ ap (lut_at a) (suc-add i r.0 ∙ sym (add-suc i r.0)))

  -- each place has its LUT
  pub in_luts_from : (i n j : ℕ) → j < n → lut_at a (i + j) ∈ luts_from a i n
  unfolding luts_from
  in_luts_from i zero j h = absurd (not-suc-le-zero h)
  in_luts_from i (suc n) zero h = here (ap (lut_at a) (add-zero i))
  in_luts_from i (suc n) (suc j) h = there (subst (λ (x : ℕ). lut_at a x ∈ luts_from a (suc i) n) (suc-add i j ∙ sym (add-suc i j)) (in_luts_from (suc i) n j (le_of_suc-le-suc h)))

  pub length-luts_in : (n : ℕ) → length (luts_in a n) ≡ n
  unfolding luts_in
  length-luts_in n = length-luts_from 0 n

  pub get_or_luts_in : (n j : ℕ) (d : Entry) → j < n → get_or (luts_in a n) j d ≡ lut_at a j
  unfolding luts_in
  get_or_luts_in n j d h = get_or_luts_from 0 n j d h ∙ ap (lut_at a) (zero-add j)

  pub luts_in_in : (n : ℕ) (e : Entry) → e ∈ luts_in a n → (j : ℕ) × (j < n) × (e ≡ lut_at a j)
  unfolding luts_in
  luts_in_in n e m = let r = luts_from_in 0 n e m in (r.0, r.1, r.2 ∙ ap (lut_at a) (zero-add r.0))

  pub in_luts_in : (n j : ℕ) → j < n → lut_at a j ∈ luts_in a n
  unfolding luts_in
  in_luts_in n j h = subst (λ (x : ℕ). lut_at a x ∈ luts_from a 0 n) (zero-add j) (in_luts_from 0 n j h)

  -- the parts of a LUT
  pub root-lut_at : (i : ℕ) → (lut_at a i).root ≡ get_or a.roots i 0
  unfolding lut_at
  root-lut_at i = refl

  pub leaves-lut_at : (i : ℕ) → (lut_at a i).leaves ≡ leaves_at a i
  unfolding lut_at
  leaves-lut_at i = refl

  pub lag-lut_at : (i : ℕ) → (lut_at a i).lag ≡ get_or a.lags i (pos 0)
  unfolding lut_at
  lag-lut_at i = refl

  pub table-lut_at : (i : ℕ) → (lut_at a i).table ≡ get_or a.tables i 0
  unfolding lut_at
  table-lut_at i = refl

  pub luts-listed : Listed (lut_at a) (luts_from a)
  unfolding luts_from
  luts-listed = record { none = λ i. refl; more = λ i n. refl }

  -- one LUT more
  pub luts_in-next : (n : ℕ) → luts_in a (n + 1) ≡ luts_in a n ++ (lut_at a n ∷ [])
  unfolding luts_in
  luts_in-next n = listed_next luts-listed n

-- arrays that agree on the LUTs
pub luts_in-same : (a b : Held) (n : ℕ) → ((j : ℕ) → j < n → lut_at a j ≡ lut_at b j) → luts_in a n ≡ luts_in b n
unfolding luts_in
luts_in-same a b n h = listed-first (luts-listed a) (luts-listed b) n h
