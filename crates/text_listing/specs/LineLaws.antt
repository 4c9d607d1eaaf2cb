-- The lines of the text, by their parts.
use Rattle.std.specs.Prelude.{◌≡◌, List, [], ◌∷◌, ◌++◌, ℕ, zero, suc, ◌+◌, ◌-◌, ◌*◌, ◌<◌, ℤ, length, get_or}
use Rattle.std.proofs.Math.Path.{refl, ap}
use Rattle.std.proofs.Common.{sym, ap₂, ◌∙◌, append_assoc, append-nil, add-one, add-zero, zero-add, arith, ne_eqb}
use Rattle.integers.specs.Lag.{lag}
use Rattle.net_model.specs.Arrays.{stride, copies_from}
use Rattle.net_model.specs.ArrayLaws.{length-copies_from}
use Rattle.net_model.specs.Net.{Net}
use Rattle.cover_theory.specs.Key.{Entry}
use Rattle.cover_records.specs.Kept.{Kept, short_table, entry_at, entries_from, entries_in, label_at}
use Rattle.cover_records.specs.Listing.{decimal, signed, table_text, leaf_text, lut_line, lut_lines, cover_text, register_count, lut_word, label_word, lag_word, table_word, leaves_word, newline, period_word, luts_word, registers_word}
use Rattle.cover_writer.specs.Writing.{marked}
use Rattle.cover_writer.specs.CoverBytesLaws.{entries-split, count_entries}
use Rattle.text_listing.specs.Text.{line_front, line_back, first_line, line_at, lines_from}

-- ---- leaves

pub leaves_none : (nodes backs : List ℕ) (p n : ℕ) → n ≡ 0 → leaf_text (copies_from nodes backs p n) ≡ []
unfolding copies_from leaf_text
leaves_none nodes backs p n e = rw e refl

-- a leaf, and the others
pub leaves-more : (nodes backs : List ℕ) (p n : ℕ) → (n ≡ 0 → ⊥)
    → leaf_text (copies_from nodes backs p n) ≡ (((32 ∷ []) ++ decimal (get_or nodes p 0)) ++ ((58 ∷ []) ++ decimal (get_or backs p 0))) ++ leaf_text (copies_from nodes backs (p + 1) (n - 1))
unfolding copies_from leaf_text
leaves-more nodes backs p zero h = absurd (h refl)
leaves-more nodes backs p (suc n) h = let e : suc n - 1 ≡ n = omega arith in rw (e, add-one p) refl

-- the last leaf behind the others
pub leaves-last : (nodes backs : List ℕ) (p j : ℕ)
    → leaf_text (copies_from nodes backs p j) ++ (((32 ∷ []) ++ decimal (get_or nodes (p + j) 0)) ++ ((58 ∷ []) ++ decimal (get_or backs (p + j) 0))) ≡ leaf_text (copies_from nodes backs p (j + 1))
unfolding copies_from leaf_text
leaves-last nodes backs p j = rw (add-one j) (go p j)
  where
    leaf : ℕ → List ℕ
    leaf i = ((32 ∷ []) ++ decimal (get_or nodes i 0)) ++ ((58 ∷ []) ++ decimal (get_or backs i 0))

    go : (p j : ℕ) → leaf_text (copies_from nodes backs p j) ++ leaf (p + j) ≡ leaf_text (copies_from nodes backs p (suc j))
    go p zero = rw (add-zero p) (sym (append-nil (leaf p)))
    go p (suc j) =
        let e : suc p + j ≡ p + suc j = omega arith in
        append_assoc (leaf p) (leaf_text (copies_from nodes backs (suc p) j)) (leaf (p + suc j)) ∙ ap (λ (l : List ℕ). leaf p ++ l) (rw e at (go (suc p) j))

-- ---- a line

pub front-text : (root : ℕ) (label lag : ℤ) → ((lut_word ++ decimal root) ++ (label_word ++ signed label)) ++ (lag_word ++ signed lag) ≡ line_front root label lag
unfolding line_front
front-text root label lag = simp append_assoc

pub back-text : (n table : ℕ) (nodes backs : List ℕ) (p : ℕ)
    → (((table_word ++ table_text n table) ++ leaves_word) ++ leaf_text (copies_from nodes backs p n)) ++ newline ≡ line_back n table nodes backs p
unfolding line_back
back-text n table nodes backs p = simp append_assoc

regroup : (f a b c d e : List ℕ) → f ++ a ++ b ++ c ++ d ++ e ≡ f ++ (a ++ b ++ c ++ d ++ e)
regroup f a b c d e = simp append_assoc

module _ (a : Kept) (g : ℕ) where
  line-text : lut_line (label_at a) (entry_at a g)
      ≡ line_front (a.inputs + g) (label_at a (a.inputs + g)) (lag a.period (label_at a (a.inputs + g))) ++ line_back (get_or a.sizes g 0) (short_table (get_or a.sizes g 0) (get_or a.tables g 0)) a.nodes a.backs (stride * g)
  unfolding lut_line entry_at line_front line_back
  line-text =
      let L = copies_from a.nodes a.backs (stride * g) (get_or a.sizes g 0) in
      let t = short_table (get_or a.sizes g 0) (get_or a.tables g 0) in
      ap (λ (n : ℕ). lut_word ++ decimal (a.inputs + g) ++ label_word ++ signed (label_at a (a.inputs + g)) ++ lag_word ++ signed (lag a.period (label_at a (a.inputs + g))) ++ table_word ++ table_text n t ++ leaves_word ++ leaf_text L ++ newline)
      (length-copies_from a.nodes a.backs (stride * g) (get_or a.sizes g 0))
      ∙ regroup (lut_word ++ decimal (a.inputs + g) ++ label_word ++ signed (label_at a (a.inputs + g)) ++ lag_word ++ signed (lag a.period (label_at a (a.inputs + g)))) table_word (table_text (get_or a.sizes g 0) t) leaves_word (leaf_text L) newline

  pub line-none : get_or a.marks g 0 ≡ 0 → line_at a g ≡ []
  unfolding line_at entries_from lut_lines
  line-none m = rw m refl

  pub line-some : (get_or a.marks g 0 ≡ 0 → ⊥)
      → line_at a g ≡ line_front (a.inputs + g) (label_at a (a.inputs + g)) (lag a.period (label_at a (a.inputs + g))) ++ line_back (get_or a.sizes g 0) (short_table (get_or a.sizes g 0) (get_or a.tables g 0)) a.nodes a.backs (stride * g)
  unfolding line_at entries_from lut_lines
  line-some m = rw (ne_eqb (get_or a.marks g 0) 0 m) (append-nil (lut_line (label_at a) (entry_at a g)) ∙ line-text)

-- ---- all lines

lines_append : (label : ℕ → ℤ) (es fs : List Entry) → lut_lines label (es ++ fs) ≡ lut_lines label es ++ lut_lines label fs
unfolding lut_lines
lines_append label [] fs = refl
lines_append label (e ∷ es) fs = ap (λ (l : List ℕ). lut_line label e ++ l) (lines_append label es fs) ∙ sym (append_assoc (lut_line label e) (lut_lines label es) (lut_lines label fs))

pub lines_none : (a : Kept) (g : ℕ) → g ≡ a.gates → lines_from a g ≡ []
unfolding lines_from entries_from lut_lines
lines_none a g e = let f : a.gates - g ≡ 0 = omega arith in rw f refl

pub lines_more : (a : Kept) (g : ℕ) → g < a.gates → lines_from a g ≡ line_at a g ++ lines_from a (g + 1)
unfolding lines_from line_at
lines_more a g h =
    let e : a.gates - g ≡ 1 + (a.gates - (g + 1)) = omega arith in
    ap (λ (n : ℕ). lut_lines (label_at a) (entries_from a g n)) e ∙ ap (lut_lines (label_at a)) (entries-split a g 1 (a.gates - (g + 1)))
    ∙ lines_append (label_at a) (entries_from a g 1) (entries_from a (g + 1) (a.gates - (g + 1)))

-- the lines of the gates below g, and that of gate g
pub lines_next : (a : Kept) (g : ℕ) → lut_lines (label_at a) (entries_from a 0 g) ++ line_at a g ≡ lut_lines (label_at a) (entries_from a 0 (g + 1))
unfolding line_at
lines_next a g =
    let e = ap (λ (i : ℕ). lut_lines (label_at a) (entries_from a 0 g) ++ lut_lines (label_at a) (entries_from a i 1)) (sym (zero-add g)) in
    e ∙ sym (lines_append (label_at a) (entries_from a 0 g) (entries_from a (0 + g) 1)) ∙ ap (lut_lines (label_at a)) (sym (entries-split a 0 g 1))

pub lines_start : (a : Kept) → lut_lines (label_at a) (entries_from a 0 0) ≡ []
unfolding entries_from lut_lines
lines_start a = refl

pub lines_whole : (a : Kept) → lut_lines (label_at a) (entries_from a 0 a.gates) ≡ lines_from a 0
unfolding lines_from
lines_whole a = let g : a.gates ≡ a.gates - 0 = omega arith in ap (λ (n : ℕ). lut_lines (label_at a) (entries_from a 0 n)) g

-- ---- the text

pairs : (a b c d e f n : List ℕ) → ((a ++ b) ++ (c ++ d)) ++ (e ++ f) ++ n ≡ a ++ b ++ c ++ d ++ e ++ f ++ n
pairs a b c d e f n = simp append_assoc

pub first-text : (period count registers : ℕ) → ((period_word ++ decimal period) ++ (luts_word ++ decimal count)) ++ (registers_word ++ decimal registers) ++ newline ≡ first_line period count registers
unfolding first_line
first-text period count registers = pairs period_word (decimal period) luts_word (decimal count) registers_word (decimal registers) newline

pub cover-text : (N : Net) (a : Kept) (count registers : ℕ) → count ≡ marked a.marks a.gates → registers ≡ register_count N (entries_in a)
    → first_line a.period count registers ++ lines_from a 0 ≡ cover_text N a.period (label_at a) (entries_in a)
unfolding first_line lines_from cover_text entries_in
cover-text N a count registers e f =
    let g : a.gates - 0 ≡ a.gates = omega arith in
    ap₂ (λ (n m : ℕ). first_line a.period n m ++ lines_from a 0) (e ∙ sym (count_entries a a.gates)) f
    ∙ ap (λ (n : ℕ). first_line a.period (length (entries_in a)) (register_count N (entries_in a)) ++ lut_lines (label_at a) (entries_from a 0 n)) g
