-- Definitions: each check of document 01, "What is turned back", and the number that its order picks.
use Rattle.std.specs.Prelude.{◌≡◌, List, ℕ, ◌≤◌, ◌<◌, length}
use Rattle.limits.specs.Limits.{least_k, most_k, most_period, cover_area, scratch_area}
use Rattle.limits.specs.Courses.{long}
use Rattle.net_model.specs.Net.{Net}
use Rattle.net_model.specs.Checks.{Loopless, AllReached, AllLeading}
use Rattle.label_theory.specs.Labels.{Reachable}
use Rattle.net_bytes.specs.Reading.{got, refused}
use Rattle.net_bytes.specs.Walk.{net_reader}
use Rattle.cover_records.specs.CoverBytes.{Record, cover_reader}
use Rattle.cover_records.specs.Marking.{CutsRight, TablesRight, AllFed, EnoughRegisters, ShortChains}

-- the bytes are the record of the net N
abbrev pub IsNet : ℕ → List ℕ → Net → Type 0
IsNet k net N = (rest : List ℕ) × (net_reader long k net ≡ got N rest)

-- the bytes are, in the layout, the record r of a candidate
abbrev pub IsRecord : Net → ℕ → List ℕ → Record → Type 0
IsRecord N k bytes r = (rest : List ℕ) × (cover_reader long N k bytes ≡ got r rest)

-- Check n of the net fails: "4 to 8 arise in one walk from the first byte, the first met counting", and
-- "9. A loop has no register. 10. Some gate is reached from no input. 11. Some gate leads to no output."
pub data NetFails (k : ℕ) (net : List ℕ) (n : ℕ) : Type 0 where
  walk : net_reader long k net ≡ refused n → NetFails k net n
  loop : (N : Net) → IsNet k net N → ¬ Loopless N → n ≡ 9 → NetFails k net n
  unreached : (N : Net) → IsNet k net N → ¬ AllReached N → n ≡ 10 → NetFails k net n
  unled : (N : Net) → IsNet k net N → ¬ AllLeading N → n ≡ 11 → NetFails k net n

-- "1. k is outside 2..6."
abbrev pub Outside : ℕ → Type 0
Outside k = ¬ ((least_k ≤ k) × (k ≤ most_k))

-- Check n of map fails: "Map checks 1 to 12."
pub data MapFails (net : List ℕ) (k target : ℕ) (area scratch : List ℕ) (n : ℕ) : Type 0 where
  outside : Outside k → n ≡ 1 → MapFails net k target area scratch n
  above : most_period < target → n ≡ 2 → MapFails net k target area scratch n
  room : length area < cover_area → n ≡ 3 → MapFails net k target area scratch n
  space : length scratch < scratch_area → n ≡ 3 → MapFails net k target area scratch n
  of_net : NetFails k net n → MapFails net k target area scratch n
  -- "12. The target is not 0 and is not reachable."
  unreachable : (N : Net) → IsNet k net N → ¬ (target ≡ 0) → ¬ Reachable N k target → n ≡ 12 → MapFails net k target area scratch n

-- Check n of mark fails: "mark checks 1, 3 to 11 and 13 to 18."
pub data MarkFails (net : List ℕ) (k : ℕ) (bytes scratch : List ℕ) (n : ℕ) : Type 0 where
  outside : Outside k → n ≡ 1 → MarkFails net k bytes scratch n
  space : length scratch < scratch_area → n ≡ 3 → MarkFails net k bytes scratch n
  of_net : NetFails k net n → MarkFails net k bytes scratch n
  -- "13. The candidate's record breaks the layout"
  layout : (N : Net) → IsNet k net N → cover_reader long N k bytes ≡ refused n → MarkFails net k bytes scratch n
  -- "14. Some LUT's leaves are no cut of its root. 15. Some table is wrong. 16. A gate leaf or gate source of an output has no LUT.
  -- 17. Some connection gets fewer than 0 registers. 18. Some registerless chain is longer than the period."
  cuts : (N : Net) (r : Record) → IsNet k net N → IsRecord N k bytes r → ¬ CutsRight N k r.entries → n ≡ 14 → MarkFails net k bytes scratch n
  tables : (N : Net) (r : Record) → IsNet k net N → IsRecord N k bytes r → ¬ TablesRight N k r.entries → n ≡ 15 → MarkFails net k bytes scratch n
  fed : (N : Net) (r : Record) → IsNet k net N → IsRecord N k bytes r → ¬ AllFed N r.entries → n ≡ 16 → MarkFails net k bytes scratch n
  enough : (N : Net) (r : Record) → IsNet k net N → IsRecord N k bytes r → ¬ EnoughRegisters N r.entries → n ≡ 17 → MarkFails net k bytes scratch n
  chains : (N : Net) (r : Record) → IsNet k net N → IsRecord N k bytes r → ¬ ShortChains N r.period r.entries → n ≡ 18 → MarkFails net k bytes scratch n

-- the number that the order picks: that check fails, and none before it
pub record First (Fails : ℕ → Type 0) (n : ℕ) : Type 0 where
  pub fails : Fails n
  pub none : (m : ℕ) → m < n → ¬ Fails m

-- the numbers of the two jobs
abbrev pub OfMap : ℕ → Type 0
OfMap n = (1 ≤ n) × (n ≤ 12)

abbrev pub OfMark : ℕ → Type 0
OfMark n = (1 ≤ n) × (n ≤ 18) × (¬ (n ≡ 2)) × (¬ (n ≡ 12))
