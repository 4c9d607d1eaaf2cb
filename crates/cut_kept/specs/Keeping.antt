-- Definitions: what the functions that write and read a row ask and tell.
use Rattle.std.specs.Prelude.{◌≡◌, Option, None, Some, IfSome, List, ◌⊎◌, ℕ, ◌+◌, ◌*◌, ◌/◌, ◌%◌, ◌^◌, ◌≤◌, ◌<◌, ℤ, length, get_or, set}
use Rattle.limits.specs.Limits.{most_k}
use Rattle.net_model.specs.Copies.{copy}
use Rattle.label_theory.specs.Labels.{Low}
use Rattle.signed.specs.Range.{Small, room, label_in}
use Rattle.cut_search.specs.SearchTable.{listed, Touched}
use Rattle.cut_least.specs.Collect.{LeafMark}
use Rattle.cut_kept.specs.KeptCuts.{row_places, row_at, CutRow, row_in, InRow, RowFits}

-- ---- numbers gathered
-- outside the n places from `at` on, l' is as l
abbrev pub SameBeside : ℕ → ℕ → List ℕ → List ℕ → Type 0
SameBeside at n l l' = (j : ℕ) → (j < at) ⊎ (at + n ≤ j) → get_or l' j 0 ≡ get_or l j 0

-- How c was written behind m numbers: there is no place for it, or it is the next.
pub data TakeTold (l : List ℕ) (at m c : ℕ) (l' : List ℕ) (r : Option ℕ) : Type 0 where
  full : r ≡ None → l' ≡ l → TakeTold l at m c l' r
  taken : r ≡ Some (m + 1) → l' ≡ set l (at + m) c → m < most_k → TakeTold l at m c l' r

-- How c was dealt with that is to be written where P holds.
pub data DueTold (P : Type 0) (l : List ℕ) (at m c : ℕ) (l' : List ℕ) (r : Option ℕ) : Type 0 where
  passed : r ≡ Some m → l' ≡ l → ¬ P → DueTold P l at m c l' r
  due : TakeTold l at m c l' r → DueTold P l at m c l' r

-- What is due stands in the first r places from `at` on; the first m are as they were.
pub record Gathered (most : ℕ) (Due : ℕ → Type 0) (l : List ℕ) (at m : ℕ) (l' : List ℕ) (r : ℕ) : Type 0 where
  pub more : m ≤ r
  pub kept : (j : ℕ) → j < m → get_or l' (at + j) 0 ≡ get_or l (at + j) 0
  pub inside : (j : ℕ) → m ≤ j → j < r → get_or l' (at + j) 0 < most
  pub all : (y : ℕ) → Due y → (j : ℕ) × (j < r) × (get_or l' (at + j) 0 ≡ y)

-- The same, unless there are too many for the places.
pub record Gathers (most : ℕ) (Due : ℕ → Type 0) (l : List ℕ) (at m : ℕ) (l' : List ℕ) (r : Option ℕ) : Type 0 where
  pub fits : IfSome r (λ n. (n ≤ most_k) × Gathered most Due l at m l' n)
  pub same : SameBeside at most_k l l'
  pub long : length l' ≡ length l

-- ---- leaves
-- y is marked out and not in, and among the first i of the list
abbrev pub LeafAmong : List ℕ → List ℕ → ℕ → ℕ → Type 0
LeafAmong t list i y = (n : ℕ) × (n < i) × (listed list n ≡ y) × LeafMark t y

pub record GatherAsked (t list l : List ℕ) (at : ℕ) : Type 0 where
  pub touched : Touched t list
  pub room : at + most_k ≤ length l
  pub small : length t < 2 ^ 32

-- ---- a row
-- The row of gate g has all that is due, unless it is empty.
pub record RowTold (gates most : ℕ) (Due : ℕ → Type 0) (l₀ l : List ℕ) (g b : ℕ) : Type 0 where
  pub fits : RowFits most (row_in gates l g)
  pub border : 0 < (row_in gates l g).count → (row_in gates l g).border ≡ b
  pub all : 0 < (row_in gates l g).count → (y : ℕ) → Due y → InRow (row_in gates l g) y
  pub same : SameBeside (row_at gates g) row_places l₀ l

-- How m numbers became a row, or too many of them an empty one.
pub data CloseTold (gates : ℕ) (l : List ℕ) (g border : ℕ) (m : Option ℕ) (l' : List ℕ) : Type 0 where
  dropped : m ≡ None → l' ≡ set l (row_at gates g) 0 → CloseTold gates l g border m l'
  closed : (n : ℕ) → m ≡ Some n → l' ≡ set (set l (row_at gates g) n) (row_at gates g + 1) border → CloseTold gates l g border m l'

pub record CloseAsked (gates : ℕ) (l : List ℕ) (g border : ℕ) : Type 0 where
  pub gate : g < gates
  pub room : row_at gates gates ≤ length l
  pub near : border < 2 ^ 32

pub record RowAsked (gates : ℕ) (t list l : List ℕ) (g border : ℕ) : Type 0 where
  pub touched : Touched t list
  pub close : CloseAsked gates l g border
  pub small : length t < 2 ^ 32

-- A row is written where the r leaves are at most k.
pub record RowKept (gates : ℕ) (t l₀ l : List ℕ) (g border k r : ℕ) : Type 0 where
  pub many : k < r → l ≡ l₀
  pub row : r ≤ k → RowTold gates (length t) (LeafMark t) l₀ l g border

-- ---- a row read
pub record ServeAsked (inputs gates width : ℕ) (l : List ℕ) (ls : List ℤ) (φ g : ℕ) : Type 0 where
  pub gate : g < gates
  pub places : row_at gates gates ≤ length l
  pub fits : RowFits ((inputs + gates) * width) (row_in gates l g)
  pub wide : 0 < width
  pub labels : length ls ≡ inputs + gates
  pub small : (u : ℕ) → Small (label_in ls u)
  pub shift : φ * width ≤ room

-- the first n numbers from place `at` on are copies low enough for leaves
abbrev pub LowFrom : ℕ → List ℕ → ℕ → ℕ → ℕ → (ℕ → ℤ) → ℤ → Type 0
LowFrom width l at n φ lab h = (i : ℕ) → i < n → Low φ lab h (copy (get_or l (at + i) 0 / width) (get_or l (at + i) 0 % width))

-- the numbers are copies low enough for leaves
abbrev pub AllLow : ℕ → List ℕ → ℕ → (ℕ → ℤ) → ℤ → Type 0
AllLow width l φ lab h = (i : ℕ) → i < length l → Low φ lab h (copy (get_or l i 0 / width) (get_or l i 0 % width))

-- the numbers are copies that have labels
pub record AllLowAsked (width : ℕ) (l : List ℕ) (ls : List ℤ) (φ : ℕ) : Type 0 where
  pub wide : 0 < width
  pub label : (i : ℕ) → i < length l → get_or l i 0 / width < length ls
  pub small : (u : ℕ) → Small (label_in ls u)
  pub shift : φ * width ≤ room

-- The row has a cut of at most k leaves, all low enough, found within the border.
pub record Serves (w : CutRow) (width border k φ : ℕ) (lab : ℕ → ℤ) (h : ℤ) : Type 0 where
  pub some : 0 < w.count
  pub few : w.count ≤ k
  pub near : w.border ≤ border
  pub low : (x : ℕ) → InRow w x → Low φ lab h (copy (x / width) (x % width))
