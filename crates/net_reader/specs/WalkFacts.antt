-- Laws: what holds of the arrays where the walk read a net.
use Rattle.std.specs.Prelude.{◌≡◌, ℕ, ◌+◌, ◌*◌, ◌^◌, ◌≤◌, ◌<◌, Ok}
use Rattle.std.proofs.Common.{sym, ◌∙◌, zero-add, arith}
use Rattle.std.proofs.Math.Path.{ap, subst}
use mathlib.Core.List.{List, []}
use Rattle.std.proofs.Math.ListN.{length, get_or}
use Rattle.limits.specs.Limits.{most_inputs, most_gates, most_outputs, most_pins, most_count}
use Rattle.limits.specs.Courses.{Offered}
use Rattle.limits.specs.CourseLaws.{offered_within}
use Rattle.limits.specs.declared.Rules.{Rules}
use Rattle.sequences.specs.Member.{in_get_or}
use Rattle.net_model.specs.Net.{Gate, size, nothing}
use Rattle.net_model.specs.Arrays.{Arrays, net_in, pins_in, gates_in, stride}
use Rattle.net_model.specs.ArrayLaws.{pin_at, gate_at, length-pins_in, in_pins_in, get_or_gates_in, length-gates_in, gates-net_in, inputs-net_in, size-net_in}
use Rattle.net_bytes.specs.Reading.{got}
use Rattle.net_bytes.specs.Walk.{net_reader}
use Rattle.net_bytes.specs.Sound.{PinFacts, GateFacts, NetFacts, walk-facts}
use Rattle.net_reader.specs.declared.NetSizes.{NetSizes}
use Rattle.net_reader.specs.ReadAnswer.{arrays_of, result_of}

-- "I is 1..16, G 1..32, outputs O 1..16", checks 6 and 7, and the tables' lengths, as facts about the arrays
pub record WalkFacts (k : ℕ) (w : Arrays) : Type 0 where
  pub inputs-low : 1 ≤ w.inputs
  pub inputs-high : w.inputs ≤ most_inputs
  pub gates-low : 1 ≤ w.gates
  pub gates-high : w.gates ≤ most_gates
  pub outputs-low : 1 ≤ w.outputs
  pub outputs-high : w.outputs ≤ most_outputs
  pub pins-low : (g : ℕ) → g < w.gates → 1 ≤ get_or w.pins g 0
  pub pins-high : (g : ℕ) → g < w.gates → get_or w.pins g 0 ≤ most_pins
  pub pins-fit : (g : ℕ) → g < w.gates → get_or w.pins g 0 ≤ k
  pub source : (g j : ℕ) → g < w.gates → j < get_or w.pins g 0 → get_or w.sources (stride * g + j) 0 < w.inputs + w.gates
  pub count : (g j : ℕ) → g < w.gates → j < get_or w.pins g 0 → get_or w.counts (stride * g + j) 0 ≤ most_count
  pub table : (g : ℕ) → g < w.gates → get_or w.tables g 0 < 2 ^ (2 ^ get_or w.pins g 0)
  pub out-source : (o : ℕ) → o < w.outputs → get_or w.out_sources o 0 < w.inputs + w.gates
  pub out-count : (o : ℕ) → o < w.outputs → get_or w.out_counts o 0 ≤ most_count

module _ (R : Rules) (within : R.gates ≤ most_gates) (k : ℕ) (w : Arrays) (f : NetFacts R k (net_in w)) where
  nodes : size (net_in w) ≡ w.inputs + w.gates
  nodes = size-net_in w

  gate-of : (g : ℕ) → g < w.gates → GateFacts k (w.inputs + w.gates) (gate_at w.pins w.sources w.counts w.tables g)
  unfolding net_in
  gate-of g h =
      let l : List Gate = gates_in w.pins w.sources w.counts w.tables 0 w.gates in
      let inside : g < length l = subst (λ (n : ℕ). g < n) (sym (length-gates_in w.pins w.sources w.counts w.tables 0 w.gates)) h in
      let same : get_or l g nothing ≡ gate_at w.pins w.sources w.counts w.tables g =
      get_or_gates_in w.pins w.sources w.counts w.tables 0 w.gates g nothing h
      ∙ ap (gate_at w.pins w.sources w.counts w.tables) (zero-add g) in
      subst (λ (n : ℕ). GateFacts k n (gate_at w.pins w.sources w.counts w.tables g)) nodes
      (subst (GateFacts k (size (net_in w))) same (f.gate (get_or l g nothing) (in_get_or l g nothing inside)))

  pin_of : (g j : ℕ) → g < w.gates → j < get_or w.pins g 0 → PinFacts (w.inputs + w.gates) (pin_at w.sources w.counts (stride * g + j))
  pin_of g j h b = (gate-of g h).pin (pin_at w.sources w.counts (stride * g + j)) (in_pins_in w.sources w.counts (stride * g) (get_or w.pins g 0) j b)

  output-of : (o : ℕ) → o < w.outputs → PinFacts (w.inputs + w.gates) (pin_at w.out_sources w.out_counts o)
  unfolding net_in
  output-of o h =
      subst (λ (i : ℕ). PinFacts (w.inputs + w.gates) (pin_at w.out_sources w.out_counts i)) (zero-add o)
      (subst (λ (n : ℕ). PinFacts n (pin_at w.out_sources w.out_counts (0 + o))) nodes
      (f.output (pin_at w.out_sources w.out_counts (0 + o)) (in_pins_in w.out_sources w.out_counts 0 w.outputs o h)))

  pins-number : (g : ℕ) → length (pins_in w.sources w.counts (stride * g) (get_or w.pins g 0)) ≡ get_or w.pins g 0
  pins-number g = length-pins_in w.sources w.counts (stride * g) (get_or w.pins g 0)

  gates-number : length (net_in w).gates ≡ w.gates
  gates-number = gates-net_in w

  outputs-number : length (net_in w).outputs ≡ w.outputs
  unfolding net_in
  outputs-number = length-pins_in w.out_sources w.out_counts 0 w.outputs

  pub facts-of : WalkFacts k w
  facts-of = record {
    inputs-low = subst (λ (n : ℕ). 1 ≤ n) (inputs-net_in w) f.inputs-low;
    inputs-high = subst (λ (n : ℕ). n ≤ most_inputs) (inputs-net_in w) f.inputs-high;
    gates-low = subst (λ (n : ℕ). 1 ≤ n) gates-number f.gates-low;
    gates-high = let high = f.gates-high in subst (λ (n : ℕ). n ≤ most_gates) gates-number (omega arith);
    outputs-low = subst (λ (n : ℕ). 1 ≤ n) outputs-number f.outputs-low;
    outputs-high = subst (λ (n : ℕ). n ≤ most_outputs) outputs-number f.outputs-high;
    pins-low = λ g h. subst (λ (n : ℕ). 1 ≤ n) (pins-number g) (gate-of g h).some;
    pins-high = λ g h. subst (λ (n : ℕ). n ≤ most_pins) (pins-number g) (gate-of g h).most;
    pins-fit = λ g h. subst (λ (n : ℕ). n ≤ k) (pins-number g) (gate-of g h).fits;
    source = λ g j h b. (pin_of g j h b).source;
    count = λ g j h b. (pin_of g j h b).count;
    table = λ g h. subst (λ (n : ℕ). get_or w.tables g 0 < 2 ^ (2 ^ n)) (pins-number g) (gate-of g h).table;
    out-source = λ o h. (output-of o h).source;
    out-count = λ o h. (output-of o h).count;
  }

-- where a net was read, the reader gives the net of the slices, and the facts hold of it
module _ (R : Rules) (k : ℕ) (s : List ℕ) (z : NetSizes) (net ts : List ℕ) (e : net_reader R k s ≡ result_of (Ok z) net ts) where
  pub read-gives : net_reader R k s ≡ got (net_in (arrays_of z net ts)) []
  read-gives = e

  pub read-facts : Offered R → WalkFacts k (arrays_of z net ts)
  read-facts offered = facts-of R (offered_within offered).gates k (arrays_of z net ts) (walk-facts R k s (net_in (arrays_of z net ts)) [] e).0
