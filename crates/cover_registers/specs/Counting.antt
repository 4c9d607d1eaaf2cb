-- Definitions: the register count of a cover kept in arrays, over its leaves and outputs.
use Rattle.std.specs.Prelude.{◌≡◌, false, List, [], ◌++◌, ℕ, ◌+◌, ◌*◌, ◌≤◌, ◌<◌, ℤ, length, get_or}
use Rattle.limits.specs.Limits.{depth_room, most_gates, most_nodes}
use Rattle.integers.specs.Parts.{up, dn}
use Rattle.integers.specs.Lag.{lag}
use Rattle.net_model.specs.Arrays.{stride, pins_in}
use Rattle.cover_theory.specs.Key.{Entry}
use Rattle.cover_theory.specs.SharedRegisters.{Tap, shared_count}
use Rattle.cover_records.specs.Kept.{Kept, kept, entries_from, entries_in, label_at}
use Rattle.cover_records.specs.Listing.{lut_taps, output_taps}
use Rattle.cover_records.specs.RoundTrip.{SmallLag}
use Rattle.signed.specs.Range.{Small}
use Rattle.cover_writer.specs.Writing.{Below}

-- a whole number from −m to m
pub record Within (m : ℕ) (z : ℤ) : Type 0 where
  pub high : up z ≤ m
  pub low : dn z ≤ m

-- r is z, from −m to m
pub record Counted (m : ℕ) (z r : ℤ) : Type 0 where
  pub same : r ≡ z
  pub within : Within m r

-- the arrays of labels and marks alone
abbrev pub marking : ℕ → ℕ → ℕ → List ℤ → List ℕ → Kept
marking inputs gates period labels marks = kept inputs gates period labels marks [] [] [] []

-- the lags of the marked gates
abbrev pub lags_of : Kept → List Entry
lags_of a = entries_in (marking a.inputs a.gates a.period a.labels a.marks)

-- all connections, and n outputs
unfoldable pub taps_of : Kept → List ℕ → List ℕ → ℕ → List Tap
taps_of a os oc n = lut_taps (lags_of a) (entries_from a 0 a.gates) ++ output_taps (lags_of a) (pins_in os oc 0 n)

-- the register count, over a place for each node that a net can have
unfoldable pub registers_of : Kept → List ℕ → List ℕ → ℕ → ℕ
unfolding taps_of
registers_of a os oc n = shared_count most_nodes (taps_of a os oc n)

-- the arrays are long enough, and the lags of the marked gates are small
pub record LagsHeld (a : Kept) : Type 0 where
  pub marks : a.gates ≤ length a.marks
  pub labels : a.inputs + a.gates ≤ length a.labels
  pub least : 1 ≤ a.period
  pub period : a.period < 256
  pub label : (g : ℕ) → g < a.gates → (get_or a.marks g 0 ≡ 0 → ⊥) → Small (label_at a (a.inputs + g))
  pub small : (g : ℕ) → g < a.gates → (get_or a.marks g 0 ≡ 0 → ⊥) → SmallLag false (lag a.period (label_at a (a.inputs + g)))

-- the arrays hold the leaves of the marked gates, without their tables
pub record LeavesHeld (a : Kept) : Type 0 where
  pub lags : LagsHeld (marking a.inputs a.gates a.period a.labels a.marks)
  pub few : a.gates ≤ most_gates
  pub sizes : a.gates ≤ length a.sizes
  pub nodes : stride * a.gates ≤ length a.nodes
  pub backs : stride * a.gates ≤ length a.backs
  pub leaves : (g : ℕ) → g < a.gates → (get_or a.marks g 0 ≡ 0 → ⊥) → get_or a.sizes g 0 ≤ stride
  pub small : (g : ℕ) → g < a.gates → (get_or a.marks g 0 ≡ 0 → ⊥) → Below depth_room a.backs (stride * g) (get_or a.sizes g 0)
