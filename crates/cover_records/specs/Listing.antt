-- Definitions: the listing's text (document 01, "Listing and marked examples"), as bytes.
use Rattle.std.specs.Prelude.{Bool, true, false, cond, List, [], ◌∷◌, ◌++◌, ℕ, zero, suc, ◌+◌, ◌*◌, ◌/◌, ◌%◌, ◌^◌, ℤ, pos, negsuc, ◌+ℤ◌, ◌-ℤ◌, length}
use lib.Dec.{ltb}
use Rattle.net_model.specs.Net.{Net, Pin, size}
use Rattle.net_model.specs.Copies.{Copy}
use Rattle.cover_theory.specs.Key.{Entry}
use Rattle.cover_theory.specs.SharedRegisters.{Tap, tap, shared_count}

-- ---- numbers

-- digits of n in base b, at most `most` of them, low first, at least one
unfoldable pub digits_low : ℕ → ℕ → ℕ → List ℕ
digits_low b zero n = []
digits_low b (suc most) n = cond (ltb n b) (n ∷ []) (n % b ∷ digits_low b most (n / b))

unfoldable pub reversed : List ℕ → List ℕ → List ℕ
reversed [] done = done
reversed (d ∷ ds) done = reversed ds (d ∷ done)

-- '0' to '9', then 'a' to 'f'
abbrev pub digit : ℕ → ℕ
digit d = cond (ltb d 10) (48 + d) (87 + d)

unfoldable pub digit_text : List ℕ → List ℕ
digit_text [] = []
digit_text (d ∷ ds) = digit d ∷ digit_text ds

-- a number below 10 to the 20th in decimal
unfoldable pub decimal : ℕ → List ℕ
decimal n = digit_text (reversed (digits_low 10 20 n) [])

-- "negatives led by "-""
unfoldable pub signed : ℤ → List ℕ
signed (pos n) = decimal n
signed (negsuc n) = 45 ∷ decimal (suc n)

-- n hexadecimal digits, low first
unfoldable pub hex_low : ℕ → ℕ → List ℕ
hex_low zero w = []
hex_low (suc n) w = w % 16 ∷ hex_low n (w / 16)

-- "Table is lowercase hexadecimal, 2^n/4 digits, at least one"
unfoldable pub table_text : ℕ → ℕ → List ℕ
table_text n w = digit_text (reversed (hex_low ((2 ^ n + 3) / 4) w) [])

-- ---- registers

-- the lag written for node u: 0 for an input
unfoldable pub lag_in : List Entry → ℕ → ℤ
lag_in [] u = pos 0
lag_in (e ∷ es) u = cond (lib.Dec.eqb e.root u) e.lag (lag_in es u)

-- the connections of a LUT with lag r: "A leaf u:d of a LUT with lag r fed from lag q has d + r − q registers"
unfoldable pub leaf_taps : List Entry → ℤ → List Copy → List Tap
unfolding lag_in
leaf_taps all r [] = []
leaf_taps all r (y ∷ L) = tap y.node ((pos y.back +ℤ r) -ℤ lag_in all y.node) ∷ leaf_taps all r L

unfoldable pub lut_taps : List Entry → List Entry → List Tap
unfolding leaf_taps
lut_taps all [] = []
lut_taps all (e ∷ es) = leaf_taps all e.lag e.leaves ++ lut_taps all es

-- "an output has w − q"
unfoldable pub output_taps : List Entry → List Pin → List Tap
unfolding lag_in
output_taps all [] = []
output_taps all (o ∷ os) = tap o.src (pos o.count -ℤ lag_in all o.src) ∷ output_taps all os

-- all connections and outputs
unfoldable pub entry_taps : Net → List Entry → List Tap
unfolding lut_taps output_taps
entry_taps N es = lut_taps es es ++ output_taps es N.outputs

-- document 02, E2: "The count becomes, for each node, the largest number on any connection or output it feeds, added over all nodes."
unfoldable pub register_count : Net → List Entry → ℕ
unfolding entry_taps shared_count
register_count N es = shared_count (size N) (entry_taps N es)

-- ---- lines

abbrev pub newline : List ℕ
newline = 10 ∷ []

-- the words of the lines, with the spaces around them
abbrev pub period_word : List ℕ
period_word = 112 ∷ 101 ∷ 114 ∷ 105 ∷ 111 ∷ 100 ∷ 32 ∷ []

abbrev pub luts_word : List ℕ
luts_word = 32 ∷ 108 ∷ 117 ∷ 116 ∷ 115 ∷ 32 ∷ []

abbrev pub registers_word : List ℕ
registers_word = 32 ∷ 114 ∷ 101 ∷ 103 ∷ 105 ∷ 115 ∷ 116 ∷ 101 ∷ 114 ∷ 115 ∷ 32 ∷ []

abbrev pub lut_word : List ℕ
lut_word = 108 ∷ 117 ∷ 116 ∷ 32 ∷ []

abbrev pub label_word : List ℕ
label_word = 32 ∷ 108 ∷ 97 ∷ 98 ∷ 101 ∷ 108 ∷ 32 ∷ []

abbrev pub lag_word : List ℕ
lag_word = 32 ∷ 108 ∷ 97 ∷ 103 ∷ 32 ∷ []

abbrev pub table_word : List ℕ
table_word = 32 ∷ 116 ∷ 97 ∷ 98 ∷ 108 ∷ 101 ∷ 32 ∷ []

abbrev pub leaves_word : List ℕ
leaves_word = 32 ∷ 108 ∷ 101 ∷ 97 ∷ 118 ∷ 101 ∷ 115 ∷ []

abbrev pub refused_word : List ℕ
refused_word = 114 ∷ 101 ∷ 102 ∷ 117 ∷ 115 ∷ 101 ∷ 100 ∷ 32 ∷ []

abbrev pub excess_word : List ℕ
excess_word = 101 ∷ 120 ∷ 99 ∷ 101 ∷ 115 ∷ 115 ∷ 32 ∷ []

unfoldable pub leaf_text : List Copy → List ℕ
leaf_text [] = []
leaf_text (y ∷ L) = (32 ∷ decimal y.node) ++ (58 ∷ decimal y.back) ++ leaf_text L

-- "lut 2 label 1 lag 0 table 8 leaves 0:0 1:0"
unfoldable pub lut_line : (ℕ → ℤ) → Entry → List ℕ
lut_line label e =
    lut_word ++ decimal e.root ++ label_word ++ signed (label e.root) ++ lag_word ++ signed e.lag ++ table_word
    ++ table_text (length e.leaves) e.table ++ leaves_word ++ leaf_text e.leaves ++ newline

unfoldable pub lut_lines : (ℕ → ℤ) → List Entry → List ℕ
lut_lines label [] = []
lut_lines label (e ∷ es) = lut_line label e ++ lut_lines label es

-- "period 2 luts 2 registers 1", then a line for each LUT
unfoldable pub cover_text : Net → ℕ → (ℕ → ℤ) → List Entry → List ℕ
cover_text N period label es =
    period_word ++ decimal period ++ luts_word ++ decimal (length es) ++ registers_word ++ decimal (register_count N es) ++ newline ++ lut_lines label es

-- "A refusal prints `refused N`."
unfoldable pub refusal_text : ℕ → List ℕ
refusal_text n = refused_word ++ decimal n ++ newline

-- the marking program's line for an accepted record: `excess N`
unfoldable pub excess_text : ℕ → List ℕ
excess_text n = excess_word ++ decimal n ++ newline
