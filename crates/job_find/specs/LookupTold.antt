-- Definitions: what document 02, E1, asks of the answer, without saying how it is found.
use Rattle.std.specs.Prelude.{◌≡◌, List, ◌∷◌, ◌++◌, ◌↔◌, ℕ, ◌+◌, ◌-◌, ◌≤◌, ◌<◌, length, take}
use Rattle.limits.specs.declared.Rules.{Rules}
use Rattle.sequences.specs.Member.{◌∈◌}
use Rattle.net_bytes.specs.Reading.{got}
use Rattle.net_bytes.specs.Short.{number_bytes}
use Rattle.cover_theory.specs.Key.{Entry, HasLut}
use Rattle.cover_records.specs.CoverBytes.{Record, cover_bytes}
use Rattle.job_find.specs.RootLookup.{Lookup, found, absent, turned_back, look_reader, look_up}

-- The whole record r has a LUT with root g, and o is "its root's byte offset": the length of what stands before it.
pub record RootAt (R : Rules) (r : Record) (g o : ℕ) : Type 0 where
  pub before : List Entry
  pub lut : Entry
  pub after : List Entry
  pub listed : r.entries ≡ before ++ (lut ∷ after)
  pub rooted : lut.root ≡ g
  pub place : o ≡ length (cover_bytes R r.period before)

-- what E1 asks of bytes that are the record r
pub record RootTold (R : Rules) (g : ℕ) (bytes : List ℕ) (r : Record) : Type 0 where
  -- "the yes or no must equal that from the whole record, and the yes comes with its root's byte offset"
  pub present : (o : ℕ) → (look_up R g bytes ≡ found o) ↔ RootAt R r g o
  pub missing : (look_up R g bytes ≡ absent) ↔ (¬ HasLut r.entries g)
  -- never 19
  pub fine : (n : ℕ) → ¬ (look_up R g bytes ≡ turned_back n)
  -- the bytes are those of the LUTs, one behind the other, so that the offset is where the LUT stands
  pub whole : bytes ≡ cover_bytes R r.period r.entries
  -- "reading may stop at the first root not below g": whatever stands behind that root, the answer is the same
  pub stop : (before after : List Entry) (e : Entry) → r.entries ≡ before ++ (e ∷ after) → ((x : Entry) → x ∈ before → x.root < g) → g ≤ e.root
      → (v : List ℕ) → look_up R g (take (length (cover_bytes R r.period before) + number_bytes R.wide) bytes ++ v) ≡ look_up R g bytes

-- Of any bytes: where the reading ended with some bytes left, these never change the answer.
abbrev pub Unread : Rules → ℕ → Type 0
Unread R g = (bytes rest : List ℕ) (a : Lookup) → look_reader R (length bytes) g bytes ≡ got a rest
    → (v : List ℕ) → look_up R g (take (length bytes - length rest) bytes ++ v) ≡ a
