-- Definitions: the value of a gate at a step, and runs (document 01, "The net").
use Rattle.std.specs.Prelude.{◌≡◌, Bool, List, map, ℕ, ◌-◌, ◌≤◌}
use Rattle.sequences.specs.Member.{◌∈◌}
use Rattle.net_model.specs.Net.{Net, Pin, IsGate, gate, pins}
use Rattle.net_model.specs.Tables.{apply}

-- "The value of a gate at step t is its table applied to each pin's source at step t−w."
abbrev pub gate_at : Net → (ℕ → ℕ → Bool) → ℕ → ℕ → Bool
gate_at N value v t = apply (gate N v).table (map (λ (p : Pin). value p.src (t - p.count)) (pins N v))

-- A run: a value of each node at each step from 0 on; a gate obeys its table at every step at which all its pins' values exist.
pub record Run (N : Net) (value : ℕ → ℕ → Bool) : Type 0 where
  pub obeys : (v t : ℕ) → IsGate N v → ((p : Pin) → p ∈ pins N v → p.count ≤ t) → value v t ≡ gate_at N value v t
