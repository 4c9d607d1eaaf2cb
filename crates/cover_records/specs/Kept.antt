-- Definitions: a written cover kept in arrays, as programs keep it. The LUT of gate g, counted from 0, has its leaves from place stride·g on, and its full table; gates without a LUT have mark 0.
use Rattle.std.specs.Prelude.{◌≡◌, cond, List, [], ◌∷◌, ℕ, zero, suc, ◌+◌, ◌*◌, ◌%◌, ◌^◌, ◌<◌, eqb, ℤ, pos, get_or}
use Rattle.integers.specs.Lag.{lag}
use Rattle.net_model.specs.Arrays.{stride, copies_from}
use Rattle.net_model.specs.FullTables.{repeated_table}
use Rattle.cover_theory.specs.Key.{Entry}

pub record Kept : Type 0 where
  pub inputs : ℕ
  pub gates : ℕ
  pub period : ℕ
  pub labels : List ℤ
  pub marks : List ℕ
  pub sizes : List ℕ
  pub nodes : List ℕ
  pub backs : List ℕ
  pub tables : List ℕ

abbrev pub kept : ℕ → ℕ → ℕ → List ℤ → List ℕ → List ℕ → List ℕ → List ℕ → List ℕ → Kept
kept inputs gates period labels marks sizes nodes backs tables = record {
  inputs = inputs;
  gates = gates;
  period = period;
  labels = labels;
  marks = marks;
  sizes = sizes;
  nodes = nodes;
  backs = backs;
  tables = tables;
}

-- the label of node u
abbrev pub label_at : Kept → ℕ → ℤ
label_at a u = get_or a.labels u (pos 0)

-- "Records keep the short form, being the low 2^n bits." (document 02, E4)
abbrev pub short_table : ℕ → ℕ → ℕ
short_table n full = full % 2 ^ (2 ^ n)

-- the LUT of gate g
unfoldable pub entry_at : Kept → ℕ → Entry
unfolding copies_from
entry_at a g = record {
  root = a.inputs + g;
  leaves = copies_from a.nodes a.backs (stride * g) (get_or a.sizes g 0);
  lag = lag a.period (label_at a (a.inputs + g));
  table = short_table (get_or a.sizes g 0) (get_or a.tables g 0);
}

-- the LUTs of n gates, from gate g on
unfoldable pub entries_from : Kept → ℕ → ℕ → List Entry
unfolding entry_at
entries_from a g zero = []
entries_from a g (suc n) = cond (eqb (get_or a.marks g 0) 0) (entries_from a (suc g) n) (entry_at a g ∷ entries_from a (suc g) n)

-- all LUTs, by rising root
unfoldable pub entries_in : Kept → List Entry
unfolding entries_from
entries_in a = entries_from a 0 a.gates

-- each LUT's number is its short table, repeated
pub record Whole (a : Kept) : Type 0 where
  pub each : (g : ℕ) → g < a.gates → ¬ (get_or a.marks g 0 ≡ 0) → get_or a.tables g 0 ≡ repeated_table (get_or a.sizes g 0) (short_table (get_or a.sizes g 0) (get_or a.tables g 0))
