-- Laws of the image: what the program writes gate by gate is the image of the cover kept.
use Rattle.std.specs.Prelude.{◌≡◌, Bool, get_or}
use Rattle.std.proofs.Math.Path.{refl, sym, ap, ap₂}
use Rattle.std.proofs.Common.{◌∙◌, lt-ltb, le-ltb, ne_eqb}
use Rattle.std.proofs.Math.Bool.{true, false, cond}
use mathlib.Core.List.{List, [], ◌∷◌, ◌++◌, append_assoc, append-nil}
use Prim.Native.Nat.{ℕ, zero, suc, ◌+◌, ◌*◌, ◌≤◌, ◌<◌}
use Rattle.std.proofs.Math.Numerals.{add-one}
use native.Mathlib.Omega.{arith}
use Rattle.std.proofs.lemmas.Bool.{eqb-false}
use Rattle.std.proofs.Math.Dec.{eqb}
use Rattle.std.proofs.Math.ListN.{length, length-append}
use Rattle.net_model.specs.Arrays.{stride}
use Rattle.net_model.specs.ArrayLaws.{length-copies_from}
use Rattle.net_model.specs.FullTables.{repeated_table}
use Rattle.cover_theory.specs.Key.{Entry}
use Rattle.cover_records.specs.CoverBytes.{to_bytes}
use Rattle.cover_records.specs.RoundTrip.{length_to_bytes}
use Rattle.cover_records.specs.Kept.{Kept, short_table, entry_at, entries_from, entries_in, Whole}
use Rattle.cover_records.specs.Outcomes.{written}
use Rattle.cover_records.specs.LoaderImage.{image_bytes, loaded}
use Rattle.cover_writer.specs.Writing.{Wrote}
use Rattle.cover_writer.specs.CoverBytesLaws.{entries-split}
use Rattle.cover_image.specs.Images.{number_at, numbers_to, Imaged}

-- ---- one gate

module _ (marks luts : List ℕ) (g : ℕ) where
  pub number-none : get_or marks g 0 ≡ 0 → number_at marks luts g ≡ []
  unfolding number_at
  number-none e = rw e refl

  pub number-some : ¬ (get_or marks g 0 ≡ 0) → number_at marks luts g ≡ to_bytes 8 (get_or luts g 0)
  unfolding number_at
  number-some n = rw (ne_eqb (get_or marks g 0) 0 n) refl

  number-length : length (number_at marks luts g) ≤ 8
  unfolding number_at
  number-length = go (eqb (get_or marks g 0) 0)
    where
      go : (t : Bool) → length (cond t [] (to_bytes 8 (get_or luts g 0))) ≤ 8
      go true = omega arith
      go false = omega (arith, length_to_bytes 8 (get_or luts g 0))

-- ---- the gates below g

module _ (marks luts : List ℕ) where
  pub numbers-none : numbers_to marks luts 0 ≡ []
  unfolding numbers_to
  numbers-none = refl

  pub numbers-next : (g : ℕ) → numbers_to marks luts (g + 1) ≡ numbers_to marks luts g ++ number_at marks luts g
  unfolding numbers_to
  numbers-next g = rw add-one refl

  pub numbers-length : (g : ℕ) → length (numbers_to marks luts g) ≤ 8 * g
  unfolding numbers_to
  numbers-length zero = omega arith
  numbers-length (suc g) =
      let a = length-append (numbers_to marks luts g) (number_at marks luts g) in
      let b = number-length marks luts g in
      let c = numbers-length g in
      omega (arith, a, b, c)

  -- there is room for the next
  pub numbers-room : (g n room : ℕ) → g < n → 8 * n ≤ room → length (numbers_to marks luts g ++ number_at marks luts g) ≤ room
  numbers-room g n room h r =
      let a = length-append (numbers_to marks luts g) (number_at marks luts g) in
      let b = number-length marks luts g in
      let c = numbers-length g in
      omega (arith, a, b, c, h, r)

  pub numbers-so-far : (g n room : ℕ) → g ≤ n → 8 * n ≤ room → length (numbers_to marks luts g) ≤ room
  numbers-so-far g n room h r = let c = numbers-length g in omega (arith, c, h, r)

-- ---- the image

image_append : (es fs : List Entry) → image_bytes (es ++ fs) ≡ image_bytes es ++ image_bytes fs
unfolding image_bytes
image_append [] fs = refl
image_append (e ∷ es) fs =
    let t = to_bytes 8 (repeated_table (length e.leaves) e.table) in
    ap (λ (l : List ℕ). t ++ l) (image_append es fs) ∙ sym (append_assoc t (image_bytes es) (image_bytes fs))

module _ (a : Kept) (w : Whole a) where
  -- the number of a marked gate is its LUT's table repeated
  image-entry : (g : ℕ) → g < a.gates → ¬ (get_or a.marks g 0 ≡ 0) → to_bytes 8 (get_or a.tables g 0) ≡ image_bytes (entry_at a g ∷ [])
  unfolding image_bytes entry_at
  image-entry g h m =
      ap (to_bytes 8) (w.each g h m
      ∙ ap (λ (n : ℕ). repeated_table n (short_table (get_or a.sizes g 0) (get_or a.tables g 0))) (sym (length-copies_from a.nodes a.backs (stride * g) (get_or a.sizes g 0))))
      ∙ sym (append-nil _)

  image-at : (g : ℕ) → g < a.gates → number_at a.marks a.tables g ≡ image_bytes (entries_from a g 1)
  unfolding number_at entries_from
  image-at g h = go (eqb (get_or a.marks g 0) 0) refl
    where
      go : (t : Bool) → eqb (get_or a.marks g 0) 0 ≡ t → cond t [] (to_bytes 8 (get_or a.tables g 0)) ≡ image_bytes (cond t [] (entry_at a g ∷ []))
      go true e = unfold image_bytes in refl
      go false e = image-entry g h (eqb-false (get_or a.marks g 0) 0 e)

  image-to : (g : ℕ) → g ≤ a.gates → numbers_to a.marks a.tables g ≡ image_bytes (entries_from a 0 g)
  unfolding numbers_to
  image-to zero h = unfold entries_from image_bytes in refl
  image-to (suc g) h =
      ap₂ (λ (l m : List ℕ). l ++ m) (image-to g (omega arith)) (image-at g h)
      ∙ sym (ap (λ (n : ℕ). image_bytes (entries_from a 0 n)) (sym (add-one g)) ∙ ap image_bytes (entries-split a 0 g 1) ∙ ap (λ (i : ℕ). image_bytes (entries_from a 0 g ++ entries_from a i 1)) (zero_plus g)
      ∙ image_append (entries_from a 0 g) (entries_from a g 1))
    where
      zero_plus : (g : ℕ) → 0 + g ≡ g
      zero_plus g = omega arith

  -- **what is written is the image of the cover kept**
  image-is : numbers_to a.marks a.tables a.gates ≡ image_bytes (entries_in a)
  unfolding entries_in
  image-is = image-to a.gates (omega arith)

-- ---- the loader area

module _ {marks luts : List ℕ} {gates : ℕ} (loader : List ℕ) where
  -- none lent
  pub imaged_none : length loader ≡ 0 → Imaged marks luts gates loader loader
  unfolding loaded
  imaged_none e = record { image = λ a k w. sym (ap (λ (b : Bool). cond b (written (image_bytes (entries_in a)) loader) loader) (le-ltb 0 (length loader) (omega (arith, e)))) }

  pub imaged_lent : {after : List ℕ} {r : ℕ} → ¬ (length loader ≡ 0) → Wrote (numbers_to marks luts gates) loader after r → Imaged marks luts gates loader after
  unfolding loaded
  imaged_lent n v = record {
    image = λ a k w.
        v.area
        ∙ ap (λ (l : List ℕ). written l loader)
        (sym (ap₂ (λ (m t : List ℕ). numbers_to m t gates) k.marks_are k.luts_are) ∙ ap (numbers_to a.marks a.tables) (sym k.gates_are) ∙ image-is a w)
        ∙ sym (ap (λ (b : Bool). cond b (written (image_bytes (entries_in a)) loader) loader) (lt-ltb 0 (length loader) (some n)));
  }
    where
      some : ¬ (length loader ≡ 0) → 0 < length loader
      some n = omega (arith, n)
