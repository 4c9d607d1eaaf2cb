-- Definitions: what checks 6, 7, 9, 10 and 11 of document 01 ask of a net, as statements about it, free of its limits.
use Rattle.std.specs.Prelude.{◌≡◌, ℕ, ◌≤◌, ◌<◌, length}
use Rattle.sequences.specs.Member.{◌∈◌}
use Rattle.net_model.specs.Net.{Net, Pin, size, IsGate, IsInput, IsNode, pins}

-- 6, as far as it speaks of sources: each pin and each output reads a node.
pub record Sound (N : Net) : Type 0 where
  pub pin : (v : ℕ) → IsGate N v → (p : Pin) → p ∈ pins N v → IsNode N p.src
  pub output : (o : Pin) → o ∈ N.outputs → IsNode N o.src

-- 7: "A gate has more pins than k": none has.
abbrev pub Fits : Net → ℕ → Type 0
Fits N k = (v : ℕ) → IsGate N v → length (pins N v) ≤ k

-- Node s drives gate v with no register between them.
pub record Drives (N : Net) (s v : ℕ) : Type 0 where
  pub gate : IsGate N v
  pub pin : Pin
  pub is_pin : pin ∈ pins N v
  pub source : pin.src ≡ s
  pub free : pin.count ≡ 0

-- a path of pins without registers, of at least one pin
pub data Line (N : Net) : ℕ → ℕ → Type 0 where
  one : {s v : ℕ} → Drives N s v → Line N s v
  more : {s u v : ℕ} → Drives N s u → Line N u v → Line N s v

-- 9: "A loop has no register": each loop has one.
abbrev pub Loopless : Net → Type 0
Loopless N = (v : ℕ) → ¬ Line N v v

-- Node v is reached from an input, through pins with any counts.
pub data Reached (N : Net) : ℕ → Type 0 where
  input : {v : ℕ} → IsInput N v → Reached N v
  along : {v : ℕ} (p : Pin) → IsGate N v → p ∈ pins N v → Reached N p.src → Reached N v

-- 10: "Some gate is reached from no input": each is reached from one.
abbrev pub AllReached : Net → Type 0
AllReached N = (v : ℕ) → IsGate N v → Reached N v

-- Node v leads to an output, through pins with any counts.
pub data Leading (N : Net) : ℕ → Type 0 where
  output : {v : ℕ} (o : Pin) → o ∈ N.outputs → o.src ≡ v → Leading N v
  along : {v : ℕ} (u : ℕ) (p : Pin) → IsGate N u → p ∈ pins N u → p.src ≡ v → Leading N u → Leading N v

-- 11: "Some gate leads to no output": each leads to one.
abbrev pub AllLeading : Net → Type 0
AllLeading N = (v : ℕ) → IsGate N v → Leading N v

-- What the theorems ask of a net and k: the checks 6, 7, 9, 10 and 11 passed.
pub record Passed (N : Net) (k : ℕ) : Type 0 where
  pub sound : Sound N
  pub fits : Fits N k
  pub loopless : Loopless N
  pub reached : AllReached N
  pub leading : AllLeading N
