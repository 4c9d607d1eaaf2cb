-- A graph of copies, given by functions: the copies below `size`, the sources of each copy's pins, the terminals and the forced set; and what
-- separates the forced set from the terminals.
use Rattle.std.specs.Prelude.{◌≡◌, List, ℕ, ◌≤◌, ◌<◌}
use Rattle.sequences.specs.Member.{◌∈◌}

-- x has `pins x` pins, and pin j of x reads `source x j`; x is a terminal where `terminal x` is positive, and in the forced set where `forced x` is.
pub record Graph : Type 0 where
  pub size : ℕ
  pub pins : ℕ → ℕ
  pub source : ℕ → ℕ → ℕ
  pub terminal : ℕ → ℕ
  pub forced : ℕ → ℕ

-- y feeds x.
pub record Feeding (G : Graph) (y x : ℕ) : Type 0 where
  pub pin : ℕ
  pub below : pin < G.pins x
  pub source : G.source x pin ≡ y

-- Terminals have no pins, the forced set has no terminal, and sources stay inside.
pub record Lawful (G : Graph) : Type 0 where
  pub bare : (x : ℕ) → 0 < G.terminal x → G.pins x ≡ 0
  pub inner : (x : ℕ) → 0 < G.forced x → G.terminal x ≡ 0
  pub forced : (x : ℕ) → 0 < G.forced x → x < G.size
  pub inside : (x j : ℕ) → x < G.size → j < G.pins x → G.source x j < G.size

-- A bounded number that falls from each copy to its sources, up to the terminals.
pub record Order (G : Graph) : Type 0 where
  pub measure : ℕ → ℕ
  pub bound : ℕ
  pub most : (x : ℕ) → measure x ≤ bound
  pub falls : (x j : ℕ) → j < G.pins x → G.terminal (G.source x j) ≡ 0 → measure (G.source x j) < measure x

-- C contains the forced set and no terminal.
pub record Separation (G : Graph) (C : ℕ → Type 0) : Type 0 where
  pub contains : (x : ℕ) → 0 < G.forced x → C x
  pub free : (x : ℕ) → C x → G.terminal x ≡ 0

-- y, outside C, feeds a member of C.
pub record Leaf (G : Graph) (C : ℕ → Type 0) (y : ℕ) : Type 0 where
  pub outside : ¬ C y
  pub member : ℕ
  pub is_member : C member
  pub feeds : Feeding G y member

-- L lists all the leaves of C.
abbrev pub Lists : Graph → (ℕ → Type 0) → List ℕ → Type 0
Lists G C L = (y : ℕ) → Leaf G C y → y ∈ L

-- From c to r by feeds inside C.
pub data Leads (G : Graph) (C : ℕ → Type 0) (r : ℕ) : ℕ → Type 0 where
  stop : {c : ℕ} → c ≡ r → Leads G C r c
  step : {c : ℕ} (x : ℕ) → C x → Feeding G c x → Leads G C r x → Leads G C r c
