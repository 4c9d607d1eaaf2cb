-- Definitions: labellings and reachability (document 01, "Labels and the written cover").
use Rattle.std.specs.Prelude.{◌≡◌, ℕ, ◌*◌, ℤ, pos, ◌+ℤ◌, ◌-ℤ◌, ◌≤ℤ◌}
use Rattle.integers.specs.Height.{height}
use Rattle.sequences.specs.Member.{◌∈◌}
use Rattle.net_model.specs.Net.{Net, Pin, IsGate, IsInput}
use Rattle.net_model.specs.Copies.{Copy, Cut}

-- A leaf u:d with label(u) − φ·d + 1 at most h. A cut's height, "the largest of label(u) − φ·d + 1 over its leaves", is at most h if each leaf's is.
abbrev pub Low : ℕ → (ℕ → ℤ) → ℤ → Copy → Type 0
Low φ lab h y = height φ (lab y.node) y.back ≤ℤ h

-- Document 01's labellings are plain. Those of covers whose registers move forward only (document 02, E6) ask one thing more of a cone's members.
pub data Mode : Type 0 where
  plain forward : Mode

-- the members x of a cone of a cut of height at most h
abbrev pub Inside : Mode → ℕ → ℤ → Copy → Type 0
Inside plain φ h x = Unit {0}
Inside forward φ h x = (h +ℤ pos (φ * x.back)) ≤ℤ pos φ

-- a k-cut of v of height at most h
abbrev pub LowCutIn : Mode → Net → ℕ → ℕ → (ℕ → ℤ) → ℕ → ℤ → Type 0
LowCutIn M N k φ lab v h = Cut N k v (Low φ lab h) (Inside M φ h)

abbrev pub LowCut : Net → ℕ → ℕ → (ℕ → ℤ) → ℕ → ℤ → Type 0
LowCut = LowCutIn plain

-- "A labelling for φ gives each input 0 and each gate a whole number such that each gate has a k-cut whose height ... is at most its number."
pub record LabellingIn (M : Mode) (N : Net) (k φ : ℕ) (lab : ℕ → ℤ) : Type 0 where
  pub inputs : (v : ℕ) → IsInput N v → lab v ≡ pos 0
  pub gates : (v : ℕ) → IsGate N v → LowCutIn M N k φ lab v (lab v)

abbrev pub Labelling : Net → ℕ → ℕ → (ℕ → ℤ) → Type 0
Labelling = LabellingIn plain

-- "If there is one there is a least one, gate by gate."
pub record LeastIn (M : Mode) (N : Net) (k φ : ℕ) (lab : ℕ → ℤ) : Type 0 where
  pub labelling : LabellingIn M N k φ lab
  pub least : (other : ℕ → ℤ) → LabellingIn M N k φ other → (v : ℕ) → IsGate N v → lab v ≤ℤ other v

abbrev pub Least : Net → ℕ → ℕ → (ℕ → ℤ) → Type 0
Least = LeastIn plain

-- "label(u) − φ·w ≤ φ at every output"
abbrev pub OutputsMet : Net → ℕ → (ℕ → ℤ) → Type 0
OutputsMet N φ lab = (o : Pin) → o ∈ N.outputs → (lab o.src -ℤ pos (φ * o.count)) ≤ℤ pos φ

-- "The target is reachable if the least labelling exists and label(u) − φ·w ≤ φ at every output."
pub record ReachableIn (M : Mode) (N : Net) (k φ : ℕ) : Type 0 where
  pub label : ℕ → ℤ
  pub least : LeastIn M N k φ label
  pub outputs : OutputsMet N φ label

abbrev pub Reachable : Net → ℕ → ℕ → Type 0
Reachable = ReachableIn plain
