-- Definitions: what the listing's text asks of a cover kept in arrays, and what is told of it.
use Rattle.std.specs.Prelude.{◌≡◌, List, ◌++◌, ℕ, ◌+◌, ◌-◌, ◌*◌, ◌≤◌, ◌<◌, ℤ, length}
use Rattle.integers.specs.Lag.{lag}
use Rattle.net_model.specs.Arrays.{pins_in, copies_from}
use Rattle.sequences.specs.Member.{◌∈◌}
use Rattle.net_model.specs.Net.{Net, IsNode, size}
use Rattle.limits.specs.Limits.{most_gates, most_nodes, text_room, depth_room}
use Rattle.cover_theory.specs.Key.{Entry}
use Rattle.cover_theory.specs.SharedRegisters.{Tap}
use Rattle.cover_records.specs.Kept.{Kept, entries_from, entries_in, label_at}
use Rattle.cover_records.specs.Listing.{cover_text, decimal, signed, table_text, leaf_text, lut_word, label_word, lag_word, table_word, leaves_word, newline, period_word, luts_word, registers_word, lut_lines, entry_taps}
use Rattle.cover_writer.specs.Writing.{ArraysHeld, LutsHeld, Below, Wrote}

-- ---- what is asked, and what is told

-- the cover can be written as text, with n outputs whose sources and register counts are os and oc
pub record Listable (a : Kept) (os oc : List ℕ) (n : ℕ) (out : List ℕ) : Type 0 where
  pub arrays : ArraysHeld a
  pub luts : LutsHeld a
  pub gates : a.gates ≤ most_gates
  pub sources : n ≤ length os
  pub counts : n ≤ length oc
  pub small : Below depth_room oc 0 n
  pub room : text_room ≤ length out

-- what feeds the connections and outputs are nodes of the net, and it has no more than a net can have
pub record FedBy (N : Net) (es : List Entry) : Type 0 where
  pub few : size N ≤ most_nodes
  pub nodes : (t : Tap) → t ∈ entry_taps N es → IsNode N t.source

-- the text of the cover, for every net that has these outputs and feeds it
pub record Lists (a : Kept) (os oc : List ℕ) (n : ℕ) (before after : List ℕ) (r : ℕ) : Type 0 where
  pub each : (N : Net) → N.outputs ≡ pins_in os oc 0 n → FedBy N (entries_in a) → Wrote (cover_text N a.period (label_at a) (entries_in a)) before after r

-- a LUT's line up to its lag, and from its table on
unfoldable pub line_front : ℕ → ℤ → ℤ → List ℕ
line_front root label lag = lut_word ++ decimal root ++ label_word ++ signed label ++ lag_word ++ signed lag

unfoldable pub line_back : ℕ → ℕ → List ℕ → List ℕ → ℕ → List ℕ
line_back n table nodes backs p = table_word ++ table_text n table ++ leaves_word ++ leaf_text (copies_from nodes backs p n) ++ newline

-- the first line
unfoldable pub first_line : ℕ → ℕ → ℕ → List ℕ
first_line period count registers = period_word ++ decimal period ++ luts_word ++ decimal count ++ registers_word ++ decimal registers ++ newline

-- the line of gate g, none where it has no LUT
unfoldable pub line_at : Kept → ℕ → List ℕ
line_at a g = lut_lines (label_at a) (entries_from a g 1)

-- the lines of the gates from gate g on
unfoldable pub lines_from : Kept → ℕ → List ℕ
lines_from a g = lut_lines (label_at a) (entries_from a g (a.gates - g))

-- gate g of the arrays, and room for its line
pub record GateAsked (a : Kept) (g at : ℕ) (out : List ℕ) : Type 0 where
  pub arrays : ArraysHeld a
  pub luts : LutsHeld a
  pub gate : g < a.gates
  pub room : at + 361 ≤ length out

-- the gates from gate g on, and room for their lines
pub record GatesAsked (a : Kept) (g at : ℕ) (out : List ℕ) : Type 0 where
  pub arrays : ArraysHeld a
  pub luts : LutsHeld a
  pub gate : g ≤ a.gates
  pub room : at + 361 * (a.gates - g) ≤ length out
