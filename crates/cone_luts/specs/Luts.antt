-- Definitions: the full tables of LUTs kept in arrays, and what a program that computes them asks and tells. Gate g has its leaves from place stride·g on.
use Rattle.std.specs.Prelude.{◌≡◌, List, ℕ, suc, ◌+◌, ◌*◌, ◌≤◌, ◌<◌, length, get_or, Option, MatchOption}
use Rattle.net_model.specs.Net.{Net}
use Rattle.net_model.specs.Checks.{Loopless}
use Rattle.net_model.specs.Copies.{Copy, IsCut, Rising}
use Rattle.net_model.specs.Arrays.{stride, copies_from}
use Rattle.net_model.specs.Wired.{Wired}
use Rattle.net_model.specs.FullTables.{full_of}
use Rattle.cone_theory.specs.Ranks.{Ranked}
use Rattle.cone_copies.specs.CopyLists.{SmallWires}
use Rattle.cone_table.specs.ConeWords.{Tabled}

-- r is the full table of the LUT of gate g with leaves L, for every net with this wiring and these tables where L is a cut.
pub record LutTable (I G : ℕ) (ps so co ts : List ℕ) (L : List Copy) (g r : ℕ) : Type 0 where
  pub table : (N : Net) → Wired N I G ps so co → Tabled N I G ts → Ranked N → Loopless N → (k : ℕ) (J : IsCut N k (I + g) L) → r ≡ full_of N (I + g) J.cone L

-- the leaves L are a cut of gate g, and r is the LUT's full table, for every net with this wiring and these tables
pub record LutCut (I G : ℕ) (ps so co ts : List ℕ) (L : List Copy) (g r : ℕ) : Type 0 where
  pub cut : (N : Net) → Wired N I G ps so co → (k : ℕ) → length L ≤ k → IsCut N k (I + g) L
  pub table : LutTable I G ps so co ts L g r

-- they are no cut
abbrev pub LutNone : ℕ → ℕ → List ℕ → List ℕ → List ℕ → List Copy → ℕ → Type 0
LutNone I G ps so co L g = (N : Net) → Wired N I G ps so co → Ranked N → (k : ℕ) → ¬ IsCut N k (I + g) L

-- whether they are a cut, and then the full table
abbrev pub LutTried : ℕ → ℕ → List ℕ → List ℕ → List ℕ → List ℕ → List Copy → ℕ → Option ℕ → Type 0
LutTried I G ps so co ts L g r = MatchOption r (LutNone I G ps so co L g) (LutCut I G ps so co ts L g)

-- row i of the arrays has its leaves from place stride·i on, and they rise
pub record Row (sizes nodes backs : List ℕ) (i : ℕ) : Type 0 where
  pub at_sizes : i < length sizes
  pub few : get_or sizes i 0 ≤ stride
  pub at_nodes : stride * suc i ≤ length nodes
  pub at_backs : stride * suc i ≤ length backs
  pub rising : Rising (copies_from nodes backs (stride * i) (get_or sizes i 0))

-- the arrays of a net's gates and of its LUTs, whose leaves rise
pub record Tabulates (I G : ℕ) (ps so co ts marks sizes nodes backs : List ℕ) : Type 0 where
  pub wires : SmallWires I G ps so co
  pub at_tables : G ≤ length ts
  pub at_marks : G ≤ length marks
  pub at_sizes : G ≤ length sizes
  pub at_nodes : stride * G ≤ length nodes
  pub at_backs : stride * G ≤ length backs
  pub few : (g : ℕ) → g < G → ¬ (get_or marks g 0 ≡ 0) → get_or sizes g 0 ≤ stride
  pub rising : (g : ℕ) → g < G → ¬ (get_or marks g 0 ≡ 0) → Rising (copies_from nodes backs (stride * g) (get_or sizes g 0))

-- r is the full table of gate g, where it has a mark
pub record GateTable (I G : ℕ) (ps so co ts marks sizes nodes backs : List ℕ) (g r : ℕ) : Type 0 where
  pub marked : ¬ (get_or marks g 0 ≡ 0) → LutTable I G ps so co ts (copies_from nodes backs (stride * g) (get_or sizes g 0)) g r

-- the tables of the gates below n
pub record Tabulated (I G : ℕ) (ps so co ts marks sizes nodes backs luts : List ℕ) (n : ℕ) : Type 0 where
  pub each : (g : ℕ) → g < n → GateTable I G ps so co ts marks sizes nodes backs g (get_or luts g 0)
