-- Definitions: what checks 14 and 15 of a candidate's LUTs ask and tell. LUT i has its leaves from place stride·i on.
use Rattle.std.specs.Prelude.{◌≡◌, Bool, true, false, List, ℕ, ◌+◌, ◌-◌, ◌*◌, ◌≤◌, ◌<◌, ℤ, length, get_or, Option}
use Rattle.net_model.specs.Net.{Net}
use Rattle.net_model.specs.Checks.{Loopless}
use Rattle.net_model.specs.Copies.{IsCut, Rising}
use Rattle.net_model.specs.Arrays.{stride, copies_from}
use Rattle.net_model.specs.Wired.{Wired}
use Rattle.net_model.specs.FullTables.{repeated_table}
use Rattle.cone_theory.specs.Ranks.{Ranked}
use Rattle.cover_theory.specs.Key.{Entry}
use Rattle.cover_records.specs.Held.{held, luts_in}
use Rattle.cover_records.specs.Kept.{short_table}
use Rattle.cover_records.specs.Marking.{CutsRight, TablesRight}
use Rattle.cone_copies.specs.CopyLists.{SmallWires}
use Rattle.cone_table.specs.ConeWords.{Tabled}
use Rattle.cone_luts.specs.Luts.{LutTable, LutTried}

-- the arrays of a net's gates and of n LUTs: roots are gates, leaves at most k and rising
pub record Cutting (I G : ℕ) (ps so co ts roots sizes nodes backs : List ℕ) (k n : ℕ) : Type 0 where
  pub wires : SmallWires I G ps so co
  pub at_tables : G ≤ length ts
  pub few : k ≤ stride
  pub at_roots : n ≤ length roots
  pub at_sizes : n ≤ length sizes
  pub at_nodes : stride * n ≤ length nodes
  pub at_backs : stride * n ≤ length backs
  pub low : (i : ℕ) → i < n → I ≤ get_or roots i 0
  pub high : (i : ℕ) → i < n → get_or roots i 0 < I + G
  pub most : (i : ℕ) → i < n → get_or sizes i 0 ≤ k
  pub rising : (i : ℕ) → i < n → Rising (copies_from nodes backs (stride * i) (get_or sizes i 0))

-- what is known of the leaves of LUT i: whether they are a cut of its root, and then the full table
abbrev pub TriedAt : ℕ → ℕ → List ℕ → List ℕ → List ℕ → List ℕ → List ℕ → List ℕ → List ℕ → List ℕ → ℕ → Option ℕ → Type 0
TriedAt I G ps so co ts roots sizes nodes backs i r = LutTried I G ps so co ts (copies_from nodes backs (stride * i) (get_or sizes i 0)) (get_or roots i 0 - I) r

-- the leaves of LUT i are a cut of its root, and t is its full table
pub record Good (I G : ℕ) (ps so co ts roots sizes nodes backs : List ℕ) (k i t : ℕ) : Type 0 where
  pub cut : (N : Net) → Wired N I G ps so co → IsCut N k (get_or roots i 0) (copies_from nodes backs (stride * i) (get_or sizes i 0))
  pub table : LutTable I G ps so co ts (copies_from nodes backs (stride * i) (get_or sizes i 0)) (get_or roots i 0 - I) t

-- so are those of the LUTs below m
pub record AllGood (I G : ℕ) (ps so co ts roots sizes nodes backs : List ℕ) (k m : ℕ) (right : List ℕ) : Type 0 where
  pub each : (i : ℕ) → i < m → Good I G ps so co ts roots sizes nodes backs k i (get_or right i 0)

-- whether some LUT's leaves are no cut; if none are, right has the full tables of all n
pub record CutsTried (I G : ℕ) (ps so co ts roots sizes nodes backs : List ℕ) (k n : ℕ) (right : List ℕ) (r : Bool) : Type 0 where
  pub good : r ≡ false → AllGood I G ps so co ts roots sizes nodes backs k n right
  pub bad : r ≡ true → (i : ℕ) × (i < n) × ((N : Net) → Wired N I G ps so co → Ranked N → ¬ IsCut N k (get_or roots i 0) (copies_from nodes backs (stride * i) (get_or sizes i 0)))

-- t is the short form of the full table of a LUT with n leaves: no bit behind the first 2^n, and repeated it is the full one
pub record ShortOf (t n full : ℕ) : Type 0 where
  pub short : short_table n t ≡ t
  pub whole : repeated_table n t ≡ full

-- whether it is not
pub record WrongTold (t n full : ℕ) (r : Bool) : Type 0 where
  pub right : r ≡ false → ShortOf t n full
  pub wrong : r ≡ true → ¬ ShortOf t n full

-- the first m tables are the short forms of the full ones
pub record Same (tables sizes fulls : List ℕ) (m : ℕ) : Type 0 where
  pub each : (i : ℕ) → i < m → ShortOf (get_or tables i 0) (get_or sizes i 0) (get_or fulls i 0)

-- whether some is not
pub record Compared (tables sizes fulls : List ℕ) (m : ℕ) (r : Bool) : Type 0 where
  pub same : r ≡ false → Same tables sizes fulls m
  pub differ : r ≡ true → ¬ Same tables sizes fulls m

-- r is the number of the first of 14 and 15 that the LUTs break, or 0
pub data CutAs (N : Net) (k : ℕ) (es : List Entry) (r : ℕ) : Type 0 where
  no_cut : r ≡ 14 → ¬ CutsRight N k es → CutAs N k es r
  wrong : r ≡ 15 → CutsRight N k es → ¬ TablesRight N k es → CutAs N k es r
  right : r ≡ 0 → CutsRight N k es → TablesRight N k es → CutAs N k es r

-- the answer for every net with these arrays that has no registerless loop and whose gates are all reached
pub record CutsTold (I G : ℕ) (ps so co ts roots sizes nodes backs luts : List ℕ) (k n r : ℕ) : Type 0 where
  pub tells : (N : Net) → Wired N I G ps so co → Tabled N I G ts → Ranked N → Loopless N → (lags : List ℤ) → CutAs N k (luts_in (held roots sizes nodes backs lags luts) n) r
