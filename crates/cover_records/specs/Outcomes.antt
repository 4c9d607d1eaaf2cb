-- Definitions: the outcome of map and of mark for every input (document 01, "What is turned back"): the answer, the cover area, the scratch.
use Rattle.std.specs.Prelude.{◌≡◌, refl, Bool, true, false, cond, not, ◌||◌, List, [], ◌∷◌, ◌++◌, ℕ, zero, suc, ◌-◌, ◌≤◌, ltb, length, drop, replicate}
use Rattle.std.proofs.Common.{suc-le-suc, zero-le}
use Rattle.net_model.specs.Net.{Net}
use Rattle.net_model.specs.Checks.{Sound, Fits, Loopless, AllReached, AllLeading, Passed}
use Rattle.cone_theory.specs.ChecksDecided.{loopless?, reached?, leading?}
use Rattle.cone_theory.specs.Ranks.{ranked}
use Rattle.label_theory.specs.Labels.{Mode, plain, forward}
use Rattle.cover_theory.specs.Key.{KeyIn, Entry, entries}
use Rattle.cover_period.specs.Joined.{key_in?}
use Rattle.cover_period.specs.Period.{least_period, least_period_in, least_key_in}
use Rattle.limits.specs.Limits.{least_k}
use Rattle.limits.specs.declared.Rules.{Rules}
use Rattle.net_bytes.specs.Reading.{Result, got, refused, between}
use Rattle.net_bytes.specs.Walk.{net_reader}
use Rattle.net_bytes.specs.Sound.{walk-sound, walk-fits}
use Rattle.cover_records.specs.CoverBytes.{Record, cover_reader, cover_bytes}
use Rattle.cover_records.specs.Marking.{CutsRight, TablesRight, AllFed, EnoughRegisters, ShortChains}
use Rattle.cover_records.specs.MarkingDecided.{cuts_right?, tables_right?, all_fed?, enough?, short_chains?}

-- The answer of map, the record's length, or of mark, the excess; or "A refusal returns its number and no count."
pub data Answer : Type 0 where
  accepted : ℕ → Answer
  turned_back : ℕ → Answer

-- Checks 4 to 11: the net with all that they ask of it, or the first refusal.
pub data Checked (k : ℕ) : Type 0 where
  passes : (N : Net) → Passed N k → Checked k
  fails : ℕ → Checked k

-- "9. A loop has no register. 10. Some gate is reached from no input. 11. Some gate leads to no output."
unfoldable pub check_graph : (N : Net) (k : ℕ) → Sound N → Fits N k → Dec (Loopless N) → Dec (AllReached N) → Dec (AllLeading N) → Checked k
check_graph N k s f (no a) b c = fails 9
check_graph N k s f (yes a) (no b) c = fails 10
check_graph N k s f (yes a) (yes b) (no c) = fails 11
check_graph N k s f (yes a) (yes b) (yes c) = passes N (record { sound = s; fits = f; loopless = a; reached = b; leading = c })

unfoldable pub check_read : (R : Rules) (k : ℕ) (s : List ℕ) (r : Result Net) → net_reader R k s ≡ r → Checked k
unfolding check_graph
check_read R k s (refused n) e = fails n
check_read R k s (got N rest) e = check_graph N k (walk-sound R k s N rest e) (walk-fits R k s N rest e) (loopless? N) (reached? N) (leading? N)

-- "4 to 8 arise in one walk from the first byte, the first met counting", then 9, 10, 11.
unfoldable pub check_net : Rules → (k : ℕ) → List ℕ → Checked k
unfolding check_read
check_net R k s = check_read R k s (net_reader R k s) refl

-- ---- map

pub record MapOutcome : Type 0 where
  pub answer : Answer
  pub area : List ℕ
  pub scratch : List ℕ

-- "its first 65,536 bytes are 0, the rest kept"
unfoldable pub cleared : ℕ → List ℕ → List ℕ
cleared n s = replicate n 0 ++ drop n s

-- the record in front; "bytes behind it are kept"
abbrev pub written : List ℕ → List ℕ → List ℕ
written bytes area = bytes ++ drop (length bytes) area

-- 1, 2 and 3, in this order; 0 if all pass
unfoldable pub map_sizes : Rules → ℕ → ℕ → List ℕ → List ℕ → ℕ
map_sizes R k target area scratch =
    cond (not (between least_k R.most k)) 1
    (cond (ltb R.period target) 2 (cond (ltb (length area) R.area || ltb (length scratch) R.scratch) 3 0))

-- In each mode (document 02, E6: "Map gains this mode"): the period and the written cover for a target, or none that meets it
pub data MappedIn (M : Mode) (N : Net) (k : ℕ) : Type 0 where
  covered : (φ : ℕ) → KeyIn M N k φ → MappedIn M N k
  unreachable : MappedIn M N k

abbrev pub Mapped : Net → ℕ → Type 0
Mapped = MappedIn plain

unfoldable pub for_target : {M : Mode} (N : Net) (k φ : ℕ) → Dec (KeyIn M N k φ) → MappedIn M N k
for_target N k φ (yes K) = covered φ K
for_target N k φ (no n) = unreachable

-- "12. The target is not 0 and is not reachable." Document 02, E6: "22, in place of 12, no forward cover meets the target."
abbrev pub unmet : Mode → ℕ
unmet plain = 12
unmet forward = 22

unfoldable pub map_written : Rules → {M : Mode} {N : Net} {k : ℕ} → MappedIn M N k → List ℕ → List ℕ → MapOutcome
map_written R (covered φ K) area scratch =
    let bytes = cover_bytes R φ (entries K) in
    record { answer = accepted (length bytes); area = written bytes area; scratch = cleared R.scratch scratch }
map_written R {M} unreachable area scratch = record { answer = turned_back (unmet M); area = area; scratch = cleared R.scratch scratch }

-- "(0 means the least period)"
unfoldable pub mapped_in : (M : Mode) (N : Net) (k target : ℕ) → Passed N k → MappedIn M N k
unfolding for_target
mapped_in M N k zero p = covered (least_period_in p M) (least_key_in p M)
mapped_in M N k (suc t) p = for_target N k (suc t) (key_in? p (suc-le-suc zero-le) M)

abbrev pub mapped : (N : Net) (k target : ℕ) → Passed N k → Mapped N k
mapped = mapped_in plain

unfoldable pub map_checked_in : Mode → Rules → (k target : ℕ) → Checked k → List ℕ → List ℕ → MapOutcome
unfolding mapped_in map_written
map_checked_in M R k target (fails n) area scratch = record { answer = turned_back n; area = area; scratch = cleared R.scratch scratch }
map_checked_in M R k target (passes N p) area scratch = map_written R (mapped_in M N k target p) area scratch

abbrev pub map_checked : Rules → (k target : ℕ) → Checked k → List ℕ → List ℕ → MapOutcome
map_checked = map_checked_in plain

unfoldable pub map_sized : Rules → ℕ → (k target : ℕ) → List ℕ → List ℕ → List ℕ → MapOutcome
unfolding map_checked_in check_net
map_sized R zero k target net area scratch = map_checked R k target (check_net R k net) area scratch
map_sized R (suc n) k target net area scratch = record { answer = turned_back (suc n); area = area; scratch = scratch }

-- Map under rules R for every input, in document 01's mode: net, k, target, cover area and scratch.
unfoldable pub map_outcome : Rules → List ℕ → (k target : ℕ) → List ℕ → List ℕ → MapOutcome
unfolding map_sized map_sizes
map_outcome R net k target area scratch = map_sized R (map_sizes R k target area scratch) k target net area scratch

-- ---- mark

pub record MarkOutcome : Type 0 where
  pub answer : Answer
  pub scratch : List ℕ

-- 1 and 3; 0 if both pass
unfoldable pub mark_sizes : Rules → ℕ → List ℕ → ℕ
mark_sizes R k scratch = cond (not (between least_k R.most k)) 1 (cond (ltb (length scratch) R.scratch) 3 0)

-- "13 to 18 are each tested over the whole record before the next."
unfoldable pub judged : (N : Net) (k : ℕ) (r : Record)
    → Dec (CutsRight N k r.entries) → Dec (TablesRight N k r.entries) → Dec (AllFed N r.entries) → Dec (EnoughRegisters N r.entries)
    → Dec (ShortChains N r.period r.entries) → ℕ → Answer
judged N k r (no a) b c d e excess = turned_back 14
judged N k r (yes a) (no b) c d e excess = turned_back 15
judged N k r (yes a) (yes b) (no c) d e excess = turned_back 16
judged N k r (yes a) (yes b) (yes c) (no d) e excess = turned_back 17
judged N k r (yes a) (yes b) (yes c) (yes d) (no e) excess = turned_back 18
judged N k r (yes a) (yes b) (yes c) (yes d) (yes e) excess = accepted excess

-- "Mark returns the excess, stated period minus least period."
unfoldable pub mark_read : (N : Net) (k : ℕ) → Passed N k → Result Record → Answer
unfolding judged
mark_read N k p (refused n) = turned_back n
mark_read N k p (got r rest) =
    judged N k r (cuts_right? (ranked p.reached) k r.entries) (tables_right? p r.entries) (all_fed? N r.entries) (enough? N r.entries)
    (short_chains? N r.period r.entries) (r.period - least_period p)

unfoldable pub mark_checked : Rules → (k : ℕ) → Checked k → List ℕ → Answer
unfolding mark_read
mark_checked R k (fails n) bytes = turned_back n
mark_checked R k (passes N p) bytes = mark_read N k p (cover_reader R N k bytes)

unfoldable pub mark_sized : Rules → ℕ → (k : ℕ) → List ℕ → List ℕ → List ℕ → MarkOutcome
unfolding mark_checked check_net
mark_sized R zero k net bytes scratch = record { answer = mark_checked R k (check_net R k net) bytes; scratch = cleared R.scratch scratch }
mark_sized R (suc n) k net bytes scratch = record { answer = turned_back (suc n); scratch = scratch }

-- Mark under rules R for every input: net, k, the candidate's record and scratch.
unfoldable pub mark_outcome : Rules → List ℕ → (k : ℕ) → List ℕ → List ℕ → MarkOutcome
unfolding mark_sized mark_sizes
mark_outcome R net k bytes scratch = mark_sized R (mark_sizes R k scratch) k net bytes scratch
