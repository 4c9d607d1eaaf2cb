-- Laws of a net kept as arrays: its sizes, and the pins of each gate by their places.
use Rattle.std.specs.Prelude.{◌≡◌, List, [], ◌∷◌, ℕ, zero, suc, ◌+◌, ◌-◌, ◌*◌, ◌≤◌, ◌<◌, length}
use Rattle.std.proofs.Math.Path.{refl, ap}
use Rattle.std.proofs.Common.{sym, ◌∙◌, subst, add-zero, add-suc, suc-add, zero-add, not-suc-le-zero, le_of_suc-le-suc}
use Rattle.std.proofs.Math.Decide.{ℕ_discrete}
use native.Mathlib.Omega.{arith}
use Rattle.std.proofs.Math.ListN.{get_or}
use Rattle.sequences.specs.Listed.{Listed}
use Rattle.sequences.specs.Member.{◌∈◌, here, there, not_in_nil}
use Rattle.net_model.specs.Net.{Net, Pin, Gate, IsGate, gate, pins, nothing, size}
use Rattle.net_model.specs.Arrays.{Arrays, net_in, pins_in, gates_in, stride, copy_at, copies_from}
use Rattle.net_model.specs.Copies.{Copy, copy}

pub length-pins_in : (s c : List ℕ) (at n : ℕ) → length (pins_in s c at n) ≡ n
unfolding pins_in
length-pins_in s c at zero = refl
length-pins_in s c at (suc n) = ap suc (length-pins_in s c (suc at) n)

-- the pin at place i
abbrev pub pin_at : List ℕ → List ℕ → ℕ → Pin
pin_at s c i = record { src = get_or s i 0; count = get_or c i 0 }

pub pins-listed : (s c : List ℕ) → Listed (pin_at s c) (pins_in s c)
unfolding pins_in
pins-listed s c = record { none = λ at. refl; more = λ at n. refl }

pub get_or_pins_in : (s c : List ℕ) (at n j : ℕ) (d : Pin) → j < n → get_or (pins_in s c at n) j d ≡ pin_at s c (at + j)
unfolding pins_in
get_or_pins_in s c at zero j d h = absurd (not-suc-le-zero h)
get_or_pins_in s c at (suc n) zero d h = ap (pin_at s c) (sym (add-zero at))
get_or_pins_in s c at (suc n) (suc j) d h = get_or_pins_in s c (suc at) n j d (le_of_suc-le-suc h) ∙ ap (pin_at s c) (suc-add at j ∙ sym (add-suc at j))

-- a pin is at one of the places
pub pins_in_in : (s c : List ℕ) (at n : ℕ) (p : Pin) → p ∈ pins_in s c at n → (j : ℕ) × (j < n) × (p ≡ pin_at s c (at + j))
unfolding pins_in
pins_in_in s c at zero p h = absurd (not_in_nil h)
pins_in_in s c at (suc n) p h = go (pins_in_in s c (suc at) n p) h
  where
    go : (p ∈ pins_in s c (suc at) n → (j : ℕ) × (j < n) × (p ≡ pin_at s c (suc at + j)))
        → p ∈ pin_at s c at ∷ pins_in s c (suc at) n → (j : ℕ) × (j < suc n) × (p ≡ pin_at s c (at + j))
    go rest (here e) = (zero, omega arith, e ∙ ap (pin_at s c) (sym (add-zero at)))
    go rest (there m) =
        let r = rest m in
        (suc r.0, omega (arith, r.1), r.2 ∙ ap (pin_at s c) (suc-add at r.0 ∙ sym (add-suc at r.0)))

-- each place has its pin
pub in_pins_in : (s c : List ℕ) (at n j : ℕ) → j < n → pin_at s c (at + j) ∈ pins_in s c at n
unfolding pins_in
in_pins_in s c at zero j h = absurd (not-suc-le-zero h)
in_pins_in s c at (suc n) zero h = here (ap (pin_at s c) (add-zero at))
in_pins_in s c at (suc n) (suc j) h =
    there (subst (λ (i : ℕ). pin_at s c i ∈ pins_in s c (suc at) n) (suc-add at j ∙ sym (add-suc at j)) (in_pins_in s c (suc at) n j (le_of_suc-le-suc h)))

pub length-gates_in : (ps s c ts : List ℕ) (g n : ℕ) → length (gates_in ps s c ts g n) ≡ n
unfolding gates_in
length-gates_in ps s c ts g zero = refl
length-gates_in ps s c ts g (suc n) = ap suc (length-gates_in ps s c ts (suc g) n)

abbrev pub gate_at : List ℕ → List ℕ → List ℕ → List ℕ → ℕ → Gate
gate_at ps s c ts g = record { pins = pins_in s c (stride * g) (get_or ps g 0); table = get_or ts g 0 }

pub gates-listed : (ps s c ts : List ℕ) → Listed (gate_at ps s c ts) (gates_in ps s c ts)
unfolding gates_in
gates-listed ps s c ts = record { none = λ g. refl; more = λ g n. refl }

pub get_or_gates_in : (ps s c ts : List ℕ) (g n i : ℕ) (d : Gate) → i < n → get_or (gates_in ps s c ts g n) i d ≡ gate_at ps s c ts (g + i)
unfolding gates_in
get_or_gates_in ps s c ts g zero i d h = absurd (not-suc-le-zero h)
get_or_gates_in ps s c ts g (suc n) zero d h = ap (gate_at ps s c ts) (sym (add-zero g))
get_or_gates_in ps s c ts g (suc n) (suc i) d h =
    get_or_gates_in ps s c ts (suc g) n i d (le_of_suc-le-suc h) ∙ ap (gate_at ps s c ts) (suc-add g i ∙ sym (add-suc g i))

module _ (a : Arrays) where
  pub gates-net_in : length (net_in a).gates ≡ a.gates
  unfolding net_in
  gates-net_in = length-gates_in a.pins a.sources a.counts a.tables 0 a.gates

  pub inputs-net_in : (net_in a).inputs ≡ a.inputs
  unfolding net_in
  inputs-net_in = refl

  pub outputs-net_in : (net_in a).outputs ≡ pins_in a.out_sources a.out_counts 0 a.outputs
  unfolding net_in
  outputs-net_in = refl

  pub size-net_in : size (net_in a) ≡ a.inputs + a.gates
  unfolding net_in
  size-net_in = ap (λ (n : ℕ). a.inputs + n) gates-net_in

  -- gate g of the net, which is node inputs + g, and its pins
  pub gate-net_in : (v g : ℕ) → v ≡ a.inputs + g → g < a.gates → gate (net_in a) v ≡ gate_at a.pins a.sources a.counts a.tables g
  unfolding net_in gate
  gate-net_in v g e h =
      let i : v - a.inputs ≡ g = omega arith in
      ap (λ (n : ℕ). get_or (gates_in a.pins a.sources a.counts a.tables 0 a.gates) n nothing) i
      ∙ get_or_gates_in a.pins a.sources a.counts a.tables 0 a.gates g nothing h ∙ ap (gate_at a.pins a.sources a.counts a.tables) (zero-add g)

  pub pins-net_in : (v g : ℕ) → v ≡ a.inputs + g → g < a.gates → pins (net_in a) v ≡ pins_in a.sources a.counts (stride * g) (get_or a.pins g 0)
  pins-net_in v g e h = ap (λ (x : Gate). x.pins) (gate-net_in v g e h)

  pub is_gate-net_in : (v g : ℕ) → v ≡ a.inputs + g → g < a.gates → IsGate (net_in a) v
  is_gate-net_in v g e h =
      let z = size-net_in in
      let i = inputs-net_in in
      record { low = omega arith; high = omega arith }

  -- a gate's place among the gates
  pub place_of_gate : (v : ℕ) → IsGate (net_in a) v → (g : ℕ) × (v ≡ a.inputs + g) × (g < a.gates)
  place_of_gate v h =
      let z = size-net_in in
      let i = inputs-net_in in
      let l = h.low in
      let u = h.high in
      (v - a.inputs, omega arith, omega arith)

-- ---- lists of copies by their places

pub copies-listed : (nodes backs : List ℕ) → Listed (copy_at nodes backs) (copies_from nodes backs)
unfolding copies_from
copies-listed nodes backs = record { none = λ at. refl; more = λ at n. refl }

pub length-copies_from : (nodes backs : List ℕ) (at n : ℕ) → length (copies_from nodes backs at n) ≡ n
unfolding copies_from
length-copies_from nodes backs at zero = refl
length-copies_from nodes backs at (suc n) = ap suc (length-copies_from nodes backs (suc at) n)

pub copies_from_in : (nodes backs : List ℕ) (at n : ℕ) (c : Copy) → c ∈ copies_from nodes backs at n → (i : ℕ) × (at ≤ i) × (i < at + n) × (c ≡ copy (get_or nodes i 0) (get_or backs i 0))
unfolding copies_from
copies_from_in nodes backs at zero c h = absurd (not_in_nil h)
copies_from_in nodes backs at (suc n) c h = go (copies_from_in nodes backs (suc at) n c) h
  where
    go : (c ∈ copies_from nodes backs (suc at) n → (i : ℕ) × (suc at ≤ i) × (i < suc at + n) × (c ≡ copy (get_or nodes i 0) (get_or backs i 0)))
        → c ∈ copy (get_or nodes at 0) (get_or backs at 0) ∷ copies_from nodes backs (suc at) n → (i : ℕ) × (at ≤ i) × (i < at + suc n) × (c ≡ copy (get_or nodes i 0) (get_or backs i 0))
    go rest (here e) = (at, omega arith, omega arith, e)
    go rest (there m) = let r = rest m in (r.0, omega (arith, r.1), omega (arith, r.2), r.3)

pub in_copies_from : (nodes backs : List ℕ) (at n i : ℕ) → at ≤ i → i < at + n → copy (get_or nodes i 0) (get_or backs i 0) ∈ copies_from nodes backs at n
unfolding copies_from
in_copies_from nodes backs at zero i h k = absurd (omega (arith, h, k))
in_copies_from nodes backs at (suc n) i h k = go (λ p. in_copies_from nodes backs (suc at) n i p (omega (arith, k))) (ℕ_discrete i at)
  where
    go : (suc at ≤ i → copy (get_or nodes i 0) (get_or backs i 0) ∈ copies_from nodes backs (suc at) n) → Dec (i ≡ at) → copy (get_or nodes i 0) (get_or backs i 0) ∈ copy (get_or nodes at 0) (get_or backs at 0) ∷ copies_from nodes backs (suc at) n
    go rest (yes e) = here (ap (λ (j : ℕ). copy (get_or nodes j 0) (get_or backs j 0)) e)
    go rest (no m) = there (rest (omega (arith, h, m)))

pub get_or_copies_from : (nodes backs : List ℕ) (at n i : ℕ) (d : Copy) → i < n → get_or (copies_from nodes backs at n) i d ≡ copy_at nodes backs (at + i)
unfolding copies_from
get_or_copies_from nodes backs at zero i d h = absurd (not-suc-le-zero h)
get_or_copies_from nodes backs at (suc n) zero d h = ap (copy_at nodes backs) (sym (add-zero at))
get_or_copies_from nodes backs at (suc n) (suc i) d h =
    get_or_copies_from nodes backs (suc at) n i d (le_of_suc-le-suc h) ∙ ap (copy_at nodes backs) (suc-add at i ∙ sym (add-suc at i))
