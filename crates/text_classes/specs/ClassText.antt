-- Definitions: what the generator of the table of classes prints (document 02, E12).
use Rattle.std.specs.Prelude.{List, [], ◌∷◌, ◌++◌, ℕ}
use Rattle.cover_records.specs.Listing.{decimal, newline}
use Rattle.lutclass.specs.Turnings.{generated}

-- "decimal, one a line"
abbrev pub number_line : ℕ → List ℕ
number_line n = decimal n ++ newline

unfoldable pub number_lines : List ℕ → List ℕ
number_lines [] = []
number_lines (n ∷ ns) = number_line n ++ number_lines ns

-- "A generator prints the constant table of 256 numbers, decimal, one a line"
unfoldable pub class_text : List ℕ
class_text = number_lines generated
