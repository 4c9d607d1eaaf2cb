-- Definitions: what reading some bytes or numbers, and counting them, promises.
use Rattle.std.specs.Prelude.{◌≡◌, List, Bool, cond, ℕ, ◌≤◌, ◌<◌, length, get_or, take, drop, Result, IfOk}
use Rattle.std.specs.Int.Count.{ones}
use Rattle.limits.specs.Limits.{depth_room, most_items}
use Rattle.net_bytes.specs.Reading.{times}
use Rattle.net_bytes.specs.Walk.{table_bytes}
use Rattle.refusals.specs.declared.Refusal.{Refusal}
use Rattle.net_fields.specs.declared.Field.{Field}
use Rattle.net_fields.specs.declared.Read.{Read}
use Rattle.net_fields.specs.declared.NumberField.{NumberField}
use Rattle.net_fields.specs.Fields.{field_byte, field_number}
use Rattle.net_fields.specs.Outcomes.{outcome}

-- n values in an array that has room for more, which are 0
pub record Values (n : ℕ) (l : List ℕ) : Type 0 where
  pub spare : (i : ℕ) → n ≤ i → get_or l i 0 ≡ 0
  pub long : length l ≡ most_items

-- n bytes of a field from place `at` on are read, and the values behind them are 0
pub record ItemsRead (s : List ℕ) (at n : ℕ) (f : Field) (r : Result (Read (List ℕ)) Refusal) : Type 0 where
  pub result : times n (field_byte f) (drop at s) ≡ outcome (take n) s r
  pub values : IfOk r (λ x. Values n x.value)

-- the numbers of one byte, or of two
abbrev pub number_room : Bool → ℕ
number_room two = cond two depth_room 256

-- a number of a field at place `at` is read
pub record NumberRead (two : Bool) (s : List ℕ) (at : ℕ) (f : NumberField) (r : Result (Read ℕ) Refusal) : Type 0 where
  pub result : field_number two f (drop at s) ≡ outcome (λ n. n) s r
  pub small : IfOk r (λ x. x.value < number_room two)

-- numbers of one byte, or of two
abbrev pub Small : Bool → List ℕ → Type 0
Small two l = (i : ℕ) → get_or l i 0 < number_room two

-- n numbers of a field from place `at` on are read, and the values behind them are 0
pub record NumbersRead (two : Bool) (s : List ℕ) (at n : ℕ) (f : NumberField) (r : Result (Read (List ℕ)) Refusal) : Type 0 where
  pub result : times n (field_number two f) (drop at s) ≡ outcome (take n) s r
  pub values : IfOk r (λ x. Values n x.value)
  pub small : IfOk r (λ x. Small two x.value)

-- the ones of a map
pub record Count (map r : ℕ) : Type 0 where
  pub is : r ≡ ones map
  pub most : r ≤ most_items

-- the table's length in bytes
pub record TableBytes (pins r : ℕ) : Type 0 where
  pub is : r ≡ table_bytes pins
  pub most : r ≤ most_items
