-- Laws of a net's wiring in arrays: gates and pins by their places.
use Rattle.std.specs.Prelude.{◌≡◌, refl, List, ℕ, ◌+◌, ◌-◌, ◌*◌, ◌<◌, get_or}
use Rattle.std.proofs.Common.{subst, arith}
use Rattle.sequences.specs.Member.{◌∈◌}
use Rattle.net_model.specs.Net.{Net, Pin, IsGate, pins}
use Rattle.net_model.specs.Arrays.{Arrays, net_in, stride}
use Rattle.net_model.specs.ArrayLaws.{gates-net_in, inputs-net_in, pins-net_in, pin_at, pins_in_in, in_pins_in}
use Rattle.net_model.specs.Wired.{Wired}

pub net_in-wired : (a : Arrays) → Wired (net_in a) a.inputs a.gates a.pins a.sources a.counts
net_in-wired a = record { inputs = inputs-net_in a; gates = gates-net_in a; wiring = λ g h. pins-net_in a (a.inputs + g) g refl h }

module _ {N : Net} {I G : ℕ} {counted sources counts : List ℕ} (w : Wired N I G counted sources counts) where
  -- gates by their places
  pub wired-gate : (g : ℕ) → g < G → IsGate N (I + g)
  wired-gate g h = let a = w.inputs in let b = w.gates in record { low = omega arith; high = omega arith }

  pub gate-wired : (v : ℕ) → IsGate N v → (g : ℕ) × (g < G) × (v ≡ I + g)
  gate-wired v i =
      let a = w.inputs in
      let b = w.gates in
      let l = i.low in
      let h = i.high in
      (v - I, omega arith, omega arith)

  -- pins by their places
  pub wired-pin : (g j : ℕ) → g < G → j < get_or counted g 0 → pin_at sources counts (stride * g + j) ∈ pins N (I + g)
  wired-pin g j h k = rw (w.wiring g h) (in_pins_in sources counts (stride * g) (get_or counted g 0) j k)

  pub pin-wired : (g : ℕ) → g < G → (p : Pin) → p ∈ pins N (I + g) → (j : ℕ) × (j < get_or counted g 0) × (p ≡ pin_at sources counts (stride * g + j))
  pin-wired g h p m = pins_in_in sources counts (stride * g) (get_or counted g 0) p (subst (λ (l : List Pin). p ∈ l) (w.wiring g h) m)
