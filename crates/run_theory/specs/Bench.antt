-- Definitions: the run of a net from its section (document 02, E5). A section gives a node's values before step 0: `section v j` is the value of v
-- at step −(j + 1). `inputs v t` is the value of input v at step t, `value v t` that of any node, from step 0 on.
use Rattle.std.specs.Prelude.{◌≡◌, Bool, false, cond, List, map, ℕ, zero, suc, ◌*◌, ◌≤◌, ◌<◌, ltb, length}
use Rattle.sequences.specs.Member.{◌∈◌}
use Rattle.net_model.specs.Net.{Net, Pin, IsNode, IsInput, IsGate, gate, pins}
use Rattle.net_model.specs.Tables.{apply}

-- "none or some steps earlier": the value n steps before step t, where `past j` is the value j + 1 steps before step 0
unfoldable pub ago : (ℕ → Bool) → (ℕ → Bool) → ℕ → ℕ → Bool
ago past now t zero = now t
ago past now zero (suc n) = past n
ago past now (suc t) (suc n) = ago past now t n

-- "a pin's value from the gate or input behind it, none or some steps earlier"; an output's likewise
abbrev pub pin_from : (ℕ → ℕ → Bool) → (ℕ → ℕ → Bool) → ℕ → Pin → Bool
pin_from section value t p = ago (section p.src) (value p.src) t p.count

-- "A gate's value at a step comes from its pins"
abbrev pub gate_from : Net → (ℕ → ℕ → Bool) → (ℕ → ℕ → Bool) → ℕ → ℕ → Bool
gate_from N section value v t = apply (gate N v).table (map (pin_from section value t) (pins N v))

-- `value` are the values of the run from this section with these inputs, from step 0 on. "The section need not obey the tables."
pub record Bench (N : Net) (section inputs value : ℕ → ℕ → Bool) : Type 0 where
  pub input : (v t : ℕ) → IsInput N v → value v t ≡ inputs v t
  pub gate : (v t : ℕ) → IsGate N v → value v t ≡ gate_from N section value v t

-- ---- the values as a function

-- what a node's value at a step is made of, from values of nodes at steps
abbrev pub Rule : Type 0
Rule = (ℕ → ℕ → Bool) → ℕ → ℕ → Bool

-- a rule applied again and again
unfoldable pub repeated : Rule → ℕ → ℕ → ℕ → Bool
repeated F zero v t = false
repeated F (suc n) v t = F (repeated F n) v t

abbrev pub bench_rule : Net → (ℕ → ℕ → Bool) → (ℕ → ℕ → Bool) → Rule
bench_rule N section inputs value v t = cond (ltb v N.inputs) (inputs v t) (gate_from N section value v t)

-- The value of v at step t. It rests on values of earlier steps and, within a step, on at most as many gates in a row as there are: so many turns are enough.
unfoldable pub value_at : Net → (ℕ → ℕ → Bool) → (ℕ → ℕ → Bool) → ℕ → ℕ → Bool
unfolding repeated
value_at N section inputs v t = repeated (bench_rule N section inputs) (suc t * suc (length N.gates)) v t

-- ---- what a program keeps

-- the values before step T, as a section for the steps from T on
abbrev pub section_at : (ℕ → ℕ → Bool) → (ℕ → ℕ → Bool) → ℕ → ℕ → ℕ → Bool
section_at section value T v j = ago (section v) (value v) T (suc j)

-- no pin and no output reads more than w steps back
pub record Counts (N : Net) (w : ℕ) : Type 0 where
  pub pin : (v : ℕ) → IsGate N v → (p : Pin) → p ∈ pins N v → p.count ≤ w
  pub output : (o : Pin) → o ∈ N.outputs → o.count ≤ w

-- `kept` has each node's last w values before step T
abbrev pub Keeps : Net → ℕ → (ℕ → ℕ → Bool) → (ℕ → ℕ → Bool) → (ℕ → ℕ → Bool) → ℕ → Type 0
Keeps N w section value kept T = (v j : ℕ) → IsNode N v → j < w → kept v j ≡ section_at section value T v j
