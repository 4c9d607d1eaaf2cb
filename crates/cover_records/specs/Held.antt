-- Definitions: a candidate's LUTs kept in arrays, as programs keep them. LUT i has its leaves from place stride·i on.
use Rattle.std.specs.Prelude.{List, [], ◌∷◌, ℕ, zero, suc, ◌+◌, ◌*◌, ◌≤◌, ◌<◌, ℤ, pos, length, get_or}
use Rattle.std.specs.Int.Signed.{mag}
use Rattle.limits.specs.Limits.{depth_room}
use Rattle.net_model.specs.Arrays.{stride, copies_from}
use Rattle.net_model.specs.Copies.{Copy, Rising}
use Rattle.cover_theory.specs.Key.{Entry}

pub record Held : Type 0 where
  pub roots : List ℕ
  pub sizes : List ℕ
  pub nodes : List ℕ
  pub backs : List ℕ
  pub lags : List ℤ
  pub tables : List ℕ

abbrev pub held : List ℕ → List ℕ → List ℕ → List ℕ → List ℤ → List ℕ → Held
held roots sizes nodes backs lags tables = record { roots = roots; sizes = sizes; nodes = nodes; backs = backs; lags = lags; tables = tables }

-- the leaves of LUT i
abbrev pub leaves_at : Held → ℕ → List Copy
leaves_at a i = copies_from a.nodes a.backs (stride * i) (get_or a.sizes i 0)

-- LUT i
unfoldable pub lut_at : Held → ℕ → Entry
unfolding copies_from
lut_at a i = record { root = get_or a.roots i 0; leaves = leaves_at a i; lag = get_or a.lags i (pos 0); table = get_or a.tables i 0 }

-- n LUTs, from LUT i on
unfoldable pub luts_from : Held → ℕ → ℕ → List Entry
unfolding lut_at
luts_from a i zero = []
luts_from a i (suc n) = lut_at a i ∷ luts_from a (suc i) n

-- the first n LUTs
unfoldable pub luts_in : Held → ℕ → List Entry
unfolding luts_from
luts_in a n = luts_from a 0 n

-- What check 13 leaves true of n LUTs for a net with I inputs and G gates: roots are gates, leaves at most k, rising, nodes of the net; d's of two bytes, lags of one.
pub record WellHeld (I G k n : ℕ) (a : Held) : Type 0 where
  pub at_roots : n ≤ length a.roots
  pub at_sizes : n ≤ length a.sizes
  pub at_nodes : stride * n ≤ length a.nodes
  pub at_backs : stride * n ≤ length a.backs
  pub at_lags : n ≤ length a.lags
  pub at_tables : n ≤ length a.tables
  pub low : (i : ℕ) → i < n → I ≤ get_or a.roots i 0
  pub high : (i : ℕ) → i < n → get_or a.roots i 0 < I + G
  pub few : (i : ℕ) → i < n → get_or a.sizes i 0 ≤ k
  pub rising : (i : ℕ) → i < n → Rising (leaves_at a i)
  pub node : (i j : ℕ) → i < n → j < get_or a.sizes i 0 → get_or a.nodes (stride * i + j) 0 < I + G
  pub back : (i j : ℕ) → i < n → j < get_or a.sizes i 0 → get_or a.backs (stride * i + j) 0 < depth_room
  pub lag : (i : ℕ) → i < n → mag (get_or a.lags i (pos 0)) ≤ 128
