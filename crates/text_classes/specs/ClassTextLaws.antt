-- The generator's text, line by line; it is that of the shipped table.
use Rattle.std.specs.Prelude.{◌≡◌, refl, List, [], ◌∷◌, ◌++◌, map, ℕ, ◌+◌}
use Rattle.std.proofs.Common.{sym, ap, ◌∙◌, append_assoc, append-nil}
use Rattle.sequences.specs.Decide.{count-from, up_to}
use Rattle.sequences.specs.Listed.{Listed, listed_next}
use Rattle.lutclass.specs.Turnings.{class_of, generated}
use Rattle.lutclass.specs.ClassTable.{shipped}
use Rattle.lutclass.proofs.ClassTableLaws.{shipped-generated}
use Rattle.text_classes.specs.ClassText.{number_line, number_lines, class_text}

-- the lines of the first n entries
unfoldable pub first_lines : ℕ → List ℕ
first_lines n = number_lines (map class_of (up_to n))

lines_append : (a b : List ℕ) → number_lines (a ++ b) ≡ number_lines a ++ number_lines b
unfolding number_lines
lines_append [] b = refl
lines_append (n ∷ a) b = ap (λ (l : List ℕ). number_line n ++ l) (lines_append a b) ∙ sym (append_assoc (number_line n) (number_lines a) (number_lines b))

entries : Listed class_of (λ at n. map class_of (count-from at n))
unfolding count-from
entries = record { none = λ at. refl; more = λ at n. refl }

lines_one : (n : ℕ) → number_line n ≡ number_lines (n ∷ [])
unfolding number_lines
lines_one n = sym (append-nil (number_line n))

pub lines_none : first_lines 0 ≡ []
unfolding first_lines number_lines up_to count-from
lines_none = refl

pub lines_next : (n : ℕ) → first_lines n ++ number_line (class_of n) ≡ first_lines (n + 1)
unfolding first_lines up_to
lines_next n =
    ap (λ (l : List ℕ). number_lines (map class_of (count-from 0 n)) ++ l) (lines_one (class_of n))
    ∙ sym (lines_append (map class_of (count-from 0 n)) (class_of n ∷ []))
    ∙ ap number_lines (sym (listed_next entries n))

pub lines_all : first_lines 256 ≡ class_text
unfolding first_lines class_text generated
lines_all = refl

-- **The generator prints the shipped table.**
pub prints_shipped : class_text ≡ number_lines shipped
unfolding class_text
prints_shipped = ap number_lines (sym shipped-generated)
