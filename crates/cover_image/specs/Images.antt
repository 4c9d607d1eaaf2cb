-- Definitions: the image as the program makes it from arrays, what is asked of them, and what it is.
use Rattle.std.specs.Prelude.{◌≡◌, cond, List, [], ◌++◌, ℕ, zero, suc, ◌*◌, ◌≤◌, eqb, length, get_or}
use Rattle.cover_records.specs.CoverBytes.{to_bytes}
use Rattle.cover_records.specs.Kept.{Kept, entries_in, Whole}
use Rattle.cover_records.specs.LoaderImage.{loaded}

-- the eight bytes of gate g's number, none where it has no mark
unfoldable pub number_at : List ℕ → List ℕ → ℕ → List ℕ
number_at marks luts g = cond (eqb (get_or marks g 0) 0) [] (to_bytes 8 (get_or luts g 0))

-- those of the gates below g, by rising gate
unfoldable pub numbers_to : List ℕ → List ℕ → ℕ → List ℕ
unfolding number_at
numbers_to marks luts zero = []
numbers_to marks luts (suc g) = numbers_to marks luts g ++ number_at marks luts g

-- the arrays are long enough, and so is the loader area where one is lent
pub record Loadable (marks luts : List ℕ) (gates : ℕ) (loader : List ℕ) : Type 0 where
  pub at_marks : gates ≤ length marks
  pub at_luts : gates ≤ length luts
  pub room : ¬ (length loader ≡ 0) → 8 * gates ≤ length loader

-- a cover is kept with these marks and numbers
pub record Keeps (a : Kept) (marks luts : List ℕ) (gates : ℕ) : Type 0 where
  pub gates_are : a.gates ≡ gates
  pub marks_are : a.marks ≡ marks
  pub luts_are : a.tables ≡ luts

-- **the loader area has the image of each cover that is kept so, where its numbers are whole**
pub record Imaged (marks luts : List ℕ) (gates : ℕ) (before after : List ℕ) : Type 0 where
  pub image : (a : Kept) → Keeps a marks luts gates → Whole a → after ≡ loaded (entries_in a) before
