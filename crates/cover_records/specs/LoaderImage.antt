-- Definitions: the image for the chip's loader (document 02, E4), and the loader area with it.
use Rattle.std.specs.Prelude.{Bool, cond, List, [], ◌∷◌, ◌++◌, ℕ, ltb, length}
use Rattle.net_model.specs.FullTables.{repeated_table}
use Rattle.cover_theory.specs.Key.{Entry}
use Rattle.cover_records.specs.CoverBytes.{to_bytes}
use Rattle.cover_records.specs.Outcomes.{written}

-- "an image, eight bytes per LUT in root order, the first byte lowest": of its repeated table. The LUTs of a cover stand by rising root.
unfoldable pub image_bytes : List Entry → List ℕ
image_bytes [] = []
image_bytes (e ∷ es) = to_bytes 8 (repeated_table (length e.leaves) e.table) ++ image_bytes es

-- "if a loader area is lent (length 0 counts as none)"
abbrev pub is_lent : List ℕ → Bool
is_lent loader = ltb 0 (length loader)

-- the image in front; "those behind the image are always kept"
unfoldable pub loaded : List Entry → List ℕ → List ℕ
loaded es loader = cond (is_lent loader) (written (image_bytes es) loader) loader
