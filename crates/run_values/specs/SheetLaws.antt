-- Laws of a step: a gate's value from its pins, what is told without pins, and why the calls end.
use Rattle.std.specs.Prelude.{◌≡◌, Bool, cond, List, map, ◌⊎◌, length, get_or, set}
use Rattle.std.proofs.Math.Path.{refl, ap}
use Rattle.std.proofs.Common.{sym, ap₂, ◌∙◌, subst, inl, inr, zero-add, suc-mul, mul-le-mul_right, add-one, lt-ltb, le-ltb, length-set, get_or-drop, get_or-set_other}
use Prim.Native.Nat.{ℕ, zero, suc, ◌+◌, ◌-◌, ◌*◌, ◌/◌, ◌%◌, ◌^◌, ◌≤◌, ◌<◌}
use Rattle.std.proofs.Math.Nat.{pow-le-pow_right}
use native.Mathlib.Omega.{arith}
use Rattle.std.proofs.Math.Decide.{ℕ_discrete, dec_lt}
use Rattle.std.proofs.lemmas.List.{length-map}
use Rattle.std.proofs.Math.Seq.{get_or-set_same}
use Rattle.limits.specs.Limits.{most_count}
use Rattle.sequences.specs.Member.{◌∈◌}
use Rattle.net_model.specs.Net.{Pin, Gate, IsNode, IsGate, pins}
use Rattle.net_model.specs.Arrays.{net_in, pins_in, stride}
use Rattle.net_model.specs.ArrayLaws.{pin_at, length-pins_in, pins_in_in, in_pins_in, inputs-net_in, size-net_in, gates-net_in, outputs-net_in, gate-net_in, pins-net_in, is_gate-net_in, place_of_gate}
use Rattle.net_model.specs.Checks.{Sound}
use Rattle.net_model.specs.PackedNet.{sources_at, counts_at}
use Rattle.net_model.specs.Tables.{bit, as_number, apply}
use Rattle.cone_values.specs.Words.{as_number_small, index-small}
use Rattle.net_reader.specs.ReadAnswer.{arrays_of}
use Rattle.net_reader.specs.declared.NetSizes.{NetSizes}
use Rattle.net_checks.specs.Graphs.{sources_of, counts_of, outs_of, delays_of}
use Rattle.run_theory.specs.Bench.{ago, Bench, Counts}
use Rattle.run_theory.specs.BenchBytes.{section_in}
use Rattle.run_theory.proofs.BenchLaws.{bench}
use Rattle.run_theory.specs.LevelOf.{level_of, level-rises, level-bound}
use Rattle.run_values.specs.Sheets.{Runnable, Sheet, net_of, word_in, value_of, value_back, pin_of, told, StepReady, More, NodeAsked, NodeTold, PinAsked, PinTold, pins_now, node_measure, pin_measure}

-- ---- the net

module _ {z : NetSizes} {net tables : List ℕ} (r : Runnable z net tables) where
  pub runnable-sound : Sound (net_in (arrays_of z net tables))
  runnable-sound = record { pin = pin; output = output }
    where
      pin : (v : ℕ) → IsGate (net_in (arrays_of z net tables)) v → (p : Pin) → p ∈ pins (net_in (arrays_of z net tables)) v → IsNode (net_in (arrays_of z net tables)) p.src
      pin v i p m =
          let g = place_of_gate (arrays_of z net tables) v i in
          let at = pins_in_in (sources_of z net) (counts_of z net) (stride * g.0) (get_or net g.0 0) p (subst (λ (l : List Pin). p ∈ l) (pins-net_in (arrays_of z net tables) v g.0 g.1 g.2) m) in
          omega (arith, size-net_in (arrays_of z net tables), ap (λ (q : Pin). q.src) at.2, r.wires.node g.0 at.0 g.2 at.1)

      output : (o : Pin) → o ∈ (net_in (arrays_of z net tables)).outputs → IsNode (net_in (arrays_of z net tables)) o.src
      output o m =
          let at = pins_in_in (outs_of z net) (delays_of z net) 0 z.outputs o (subst (λ (l : List Pin). o ∈ l) (outputs-net_in (arrays_of z net tables)) m) in
          omega (arith, size-net_in (arrays_of z net tables), ap (λ (q : Pin). q.src) at.2, ap (λ (i : ℕ). get_or (outs_of z net) i 0) (zero-add at.0), r.out_node at.0 at.1)

  pub runnable-counts : Counts (net_in (arrays_of z net tables)) most_count
  runnable-counts = record { pin = pin; output = output }
    where
      pin : (v : ℕ) → IsGate (net_in (arrays_of z net tables)) v → (p : Pin) → p ∈ pins (net_in (arrays_of z net tables)) v → p.count ≤ most_count
      pin v i p m =
          let g = place_of_gate (arrays_of z net tables) v i in
          let at = pins_in_in (sources_of z net) (counts_of z net) (stride * g.0) (get_or net g.0 0) p (subst (λ (l : List Pin). p ∈ l) (pins-net_in (arrays_of z net tables) v g.0 g.1 g.2) m) in
          omega (arith, ap (λ (q : Pin). q.count) at.2, r.count g.0 at.0 g.2 at.1)

      output : (o : Pin) → o ∈ (net_in (arrays_of z net tables)).outputs → o.count ≤ most_count
      output o m =
          let at = pins_in_in (outs_of z net) (delays_of z net) 0 z.outputs o (subst (λ (l : List Pin). o ∈ l) (outputs-net_in (arrays_of z net tables)) m) in
          omega (arith, ap (λ (q : Pin). q.count) at.2, ap (λ (i : ℕ). get_or (delays_of z net) i 0) (zero-add at.0), r.out_count at.0 at.1)

-- the run from what is kept
module _ (S : Sheet) (r : Runnable S.sizes S.net S.tables) where
  pub sheet-bench : Bench (net_of S) (section_in S.kept) (word_in S.word) (value_of S)
  sheet-bench = bench (runnable-sound r) r.loopless (section_in S.kept) (word_in S.word)

  pub input-value : (v : ℕ) → v < S.sizes.inputs → value_of S v 0 ≡ bit S.word v
  input-value v h = sheet-bench.input v 0 (omega (arith, inputs-net_in (arrays_of S.sizes S.net S.tables)))

  -- a gate's value comes from its pins
  pub gate-value : (g : ℕ) → g < S.sizes.gates → value_of S (S.sizes.inputs + g) 0 ≡ bit (get_or S.tables g 0) (pins_now S (stride * g) (get_or S.net g 0))
  unfolding pins_now
  gate-value g h =
      sheet-bench.gate (S.sizes.inputs + g) 0 (is_gate-net_in (arrays_of S.sizes S.net S.tables) (S.sizes.inputs + g) g refl h)
      ∙ ap (λ (x : Gate). apply x.table (map (pin_of S) x.pins)) (gate-net_in (arrays_of S.sizes S.net S.tables) (S.sizes.inputs + g) g refl h)

-- ---- the pins of a gate as a number

pub pins-none : (S : Sheet) (at : ℕ) → pins_now S at 0 ≡ 0
unfolding pins_now pins_in
pins-none S at = refl

pub pins-more : (S : Sheet) (at n : ℕ)
    → pins_now S at (suc n) ≡ as_number (pin_of S (pin_at (sources_of S.sizes S.net) (counts_of S.sizes S.net) at)) + 2 * pins_now S (suc at) n
unfolding pins_now pins_in
pins-more S at n = refl

pub pins-low : (S : Sheet) (at n : ℕ) → n ≤ stride → pins_now S at n < 64
unfolding pins_now
pins-low S at n h =
    let few = index-small (map (pin_of S) (pins_in (sources_of S.sizes S.net) (counts_of S.sizes S.net) at n)) in
    let long : length (map (pin_of S) (pins_in (sources_of S.sizes S.net) (counts_of S.sizes S.net) at n)) ≡ n =
    length-map (pins_in (sources_of S.sizes S.net) (counts_of S.sizes S.net) at n) (pin_of S) ∙ length-pins_in (sources_of S.sizes S.net) (counts_of S.sizes S.net) at n in
    omega (arith, ap (λ (i : ℕ). 2 ^ i) long, pow-le-pow_right {n = 2} (omega arith) h)

-- ---- what is told without pins

module _ (I : ℕ) (kept : List ℕ) (word : ℕ) (known : List ℕ) (v : ℕ) where
  pub told_back : (back : ℕ) → 0 < back → told I kept word known v back ≡ 1 + as_number (bit (get_or kept v 0) (back - 1))
  told_back zero h = absurd (omega arith)
  told_back (suc back) h =
      let same : back ≡ suc back - 1 = omega arith in
      let one : suc (as_number (bit (get_or kept v 0) back)) ≡ 1 + as_number (bit (get_or kept v 0) back) = omega arith in
      one ∙ ap (λ (j : ℕ). 1 + as_number (bit (get_or kept v 0) j)) same

  pub told-input : (back : ℕ) → back ≤ 0 → v < I → told I kept word known v back ≡ 1 + as_number (bit word v)
  told-input zero z h =
      let one : suc (as_number (bit word v)) ≡ 1 + as_number (bit word v) = omega arith in
      ap (λ (b : Bool). cond b (suc (as_number (bit word v))) (get_or known (v - I) 0)) (lt-ltb v I h) ∙ one
  told-input (suc back) z h = absurd (omega arith)

  pub told-gate : (back : ℕ) → back ≤ 0 → I ≤ v → told I kept word known v back ≡ get_or known (v - I) 0
  told-gate zero z h = ap (λ (b : Bool). cond b (suc (as_number (bit word v))) (get_or known (v - I) 0)) (le-ltb v I h)
  told-gate (suc back) z h = absurd (omega arith)

module _ {S : Sheet} {known : List ℕ} (r : StepReady S known) where
  -- where something is told, it is the value
  pub told-right : (v back : ℕ) → v < S.sizes.inputs + S.sizes.gates → 1 ≤ told S.sizes.inputs S.kept S.word known v back
      → told S.sizes.inputs S.kept S.word known v back ≡ suc (as_number (value_back S v back))
  unfolding ago
  told-right v zero n h = go (dec_lt v S.sizes.inputs)
    where
      go : Dec (v < S.sizes.inputs) → told S.sizes.inputs S.kept S.word known v 0 ≡ suc (as_number (value_of S v 0))
      go (yes l) =
          let e = told-input S.sizes.inputs S.kept S.word known v 0 (omega arith) l in
          omega (arith, ap as_number (input-value S r.net v l))
      go (no m) =
          let l : S.sizes.inputs ≤ v = omega arith in
          let at : S.sizes.inputs + (v - S.sizes.inputs) ≡ v = omega arith in
          let e = told-gate S.sizes.inputs S.kept S.word known v 0 (omega arith) l in
          e ∙ by (r.right (v - S.sizes.inputs) (omega arith)) (omega arith)
          ∙ ap (λ (u : ℕ). suc (as_number (value_of S u 0))) at
        where
          by : {x y : ℕ} → (x ≡ 0) ⊎ (x ≡ y) → 1 ≤ x → x ≡ y
          by (inl e) k = absurd (omega arith)
          by (inr e) k = e
  told-right v (suc back) n h = refl

  -- where nothing is told, it is a gate at this step
  pub told-nothing : (v back : ℕ) → told S.sizes.inputs S.kept S.word known v back ≡ 0 → (back ≡ 0) × (S.sizes.inputs ≤ v)
  told-nothing v zero e = go (dec_lt v S.sizes.inputs)
    where
      go : Dec (v < S.sizes.inputs) → (◌≡◌ {A = ℕ} 0 0) × (S.sizes.inputs ≤ v)
      go (yes l) = absurd (omega (arith, told-input S.sizes.inputs S.kept S.word known v 0 (omega arith) l))
      go (no m) = (refl, omega arith)
  told-nothing v (suc back) e = absurd (omega arith)

  pub more-none : More S known known
  more-none = record { ready = r; long = refl; stays = λ g h. h }

  -- a gate's value is noted
  pub more-noted : (g value : ℕ) → g < S.sizes.gates → value ≡ as_number (value_of S (S.sizes.inputs + g) 0) → More S known (set known g (value + 1))
  more-noted g value h e = record {
    ready = record { net = r.net; kept = r.kept; size = omega (arith, length-set known g (value + 1), r.size); right = right };
    long = length-set known g (value + 1);
    stays = λ i l. stays i l (ℕ_discrete i g);
  }
    where
      right : (i : ℕ) → i < S.sizes.gates → (get_or (set known g (value + 1)) i 0 ≡ 0) ⊎ (get_or (set known g (value + 1)) i 0 ≡ suc (as_number (value_of S (S.sizes.inputs + i) 0)))
      right i l = go (ℕ_discrete i g)
        where
          go : Dec (i ≡ g) → (get_or (set known g (value + 1)) i 0 ≡ 0) ⊎ (get_or (set known g (value + 1)) i 0 ≡ suc (as_number (value_of S (S.sizes.inputs + i) 0)))
          go (yes q) =
              inr (ap (λ (j : ℕ). get_or (set known g (value + 1)) j 0) q ∙ get_or-set_same known g (value + 1) 0 (omega (arith, r.size)) ∙ add-one value ∙ ap suc e
              ∙ ap (λ (j : ℕ). suc (as_number (value_of S (S.sizes.inputs + j) 0))) (sym q))
          go (no n) = subst (λ (x : ℕ). (x ≡ 0) ⊎ (x ≡ suc (as_number (value_of S (S.sizes.inputs + i) 0)))) (sym (get_or-set_other known g i (value + 1) 0 n)) (r.right i l)

      stays : (i : ℕ) → 1 ≤ get_or known i 0 → Dec (i ≡ g) → 1 ≤ get_or (set known g (value + 1)) i 0
      stays i l (yes q) = omega (arith, ap (λ (j : ℕ). get_or (set known g (value + 1)) j 0) q, get_or-set_same known g (value + 1) 0 (omega (arith, r.size)))
      stays i l (no n) = omega (arith, get_or-set_other known g i (value + 1) 0 n)

pub more_trans : {S : Sheet} {a b c : List ℕ} → More S a b → More S b c → More S a c
more_trans m n = record { ready = n.ready; long = n.long ∙ m.long; stays = λ g h. n.stays g (m.stays g h) }

-- ---- why the calls end

module _ (S : Sheet) where
  -- a pin of a gate of this step
  pub pin-falls : (v p j : ℕ) → S.sizes.inputs ≤ v → p ≡ stride * (v - S.sizes.inputs) + j → j < stride → pin_measure S p < node_measure S v 0
  pin-falls v p j h e l =
      let same : S.sizes.inputs + p / stride ≡ v = omega arith in
      omega (arith, ap (level_of (net_of S)) same)

  -- the node behind a pin: at an earlier step, or at this step and of a smaller depth
  pub node-falls : {known : List ℕ} (p : ℕ) → PinAsked S known p → (source count : ℕ) → source ≡ get_or (sources_of S.sizes S.net) p 0 → count ≡ get_or (counts_of S.sizes S.net) p 0
      → node_measure S source count < pin_measure S p
  node-falls p a source count es ec = go count ec
    where
      high : (v : ℕ) → level_of (net_of S) v ≤ S.sizes.gates
      high v = omega (arith, level-bound (net_of S) v, gates-net_in (arrays_of S.sizes S.net S.tables))

      go : (c : ℕ) → c ≡ get_or (counts_of S.sizes S.net) p 0 → node_measure S source c < pin_measure S p
      go zero z =
          let place : stride * (p / stride) + p % stride ≡ p = omega arith in
          let m = in_pins_in (sources_of S.sizes S.net) (counts_of S.sizes S.net) (stride * (p / stride)) (get_or S.net (p / stride) 0) (p % stride) a.pin in
          let rises = level-rises a.ready.net.loopless (record {
            gate = is_gate-net_in (arrays_of S.sizes S.net S.tables) (S.sizes.inputs + p / stride) (p / stride) refl a.gate;
            pin = pin_at (sources_of S.sizes S.net) (counts_of S.sizes S.net) (stride * (p / stride) + p % stride);
            is_pin = subst (λ (l : List Pin). pin_at (sources_of S.sizes S.net) (counts_of S.sizes S.net) (stride * (p / stride) + p % stride) ∈ l)
                (sym (pins-net_in (arrays_of S.sizes S.net S.tables) (S.sizes.inputs + p / stride) (p / stride) refl a.gate)) m;
            source = ap (λ (i : ℕ). get_or (sources_of S.sizes S.net) i 0) place ∙ sym es;
            free = ap (λ (i : ℕ). get_or (counts_of S.sizes S.net) i 0) place ∙ sym z;
          }) in
          omega arith
      go (suc c) z =
          let fewer : suc (most_count - suc c) ≤ most_count = omega arith in
          omega (arith, mul-le-mul_right (2 * suc S.sizes.gates) fewer, suc-mul (most_count - suc c) (2 * suc S.sizes.gates), high source)

pub below : {a b t : ℕ} → a < b → b ≡ t → a < t
below h e = omega arith

-- ---- node by node

module _ {S : Sheet} {known : List ℕ} {v back : ℕ} (a : NodeAsked S known v back) {x : ℕ} (e : x ≡ told S.sizes.inputs S.kept S.word known v back) where
  -- the value is told
  pub node-told : 1 ≤ x → NodeTold S known known v back (x - 1)
  node-told h = record {
    value = omega (arith, told-right a.ready v back a.node (omega arith));
    more = more-none a.ready;
    noted = λ z l. omega (arith, told-gate S.sizes.inputs S.kept S.word known v back (omega arith) l);
  }

  module _ (n : x ≤ 0) where
    pub node-gate : (back ≡ 0) × (S.sizes.inputs ≤ v)
    node-gate = told-nothing a.ready v back (omega arith)

    pub node-inside : v - S.sizes.inputs < S.sizes.gates
    node-inside = omega (arith, node-gate.1, a.node)

    pub node-few : get_or S.net (v - S.sizes.inputs) 0 ≤ stride
    node-few = a.ready.net.wires.pins (v - S.sizes.inputs) node-inside

    -- the number that the pins from pin j on make
    pub node-none : 0 ≡ pins_now S (stride * (v - S.sizes.inputs) + get_or S.net (v - S.sizes.inputs) 0) (get_or S.net (v - S.sizes.inputs) 0 - get_or S.net (v - S.sizes.inputs) 0)
    node-none =
        let at = stride * (v - S.sizes.inputs) + get_or S.net (v - S.sizes.inputs) 0 in
        let none : get_or S.net (v - S.sizes.inputs) 0 - get_or S.net (v - S.sizes.inputs) 0 ≡ 0 = omega arith in
        sym (ap (pins_now S at) none ∙ pins-none S at)

    pub node-small : (at j : ℕ) → at ≡ pins_now S (stride * (v - S.sizes.inputs) + j) (get_or S.net (v - S.sizes.inputs) 0 - j) → at < 64
    node-small at j e =
        let few = node-few in
        omega (arith, pins-low S (stride * (v - S.sizes.inputs) + j) (get_or S.net (v - S.sizes.inputs) 0 - j) (omega arith))

    -- one more pin in front of those passed
    pub node-next : {old new : List ℕ} (at j r : ℕ) → 0 < j → j ≤ get_or S.net (v - S.sizes.inputs) 0
        → at ≡ pins_now S (stride * (v - S.sizes.inputs) + j) (get_or S.net (v - S.sizes.inputs) 0 - j) → PinTold S old new (stride * (v - S.sizes.inputs) + (j - 1)) r
        → 2 * at + r ≡ pins_now S (stride * (v - S.sizes.inputs) + (j - 1)) (get_or S.net (v - S.sizes.inputs) 0 - (j - 1))
    node-next at j r low high e t =
        let g = v - S.sizes.inputs in
        let n = get_or S.net (v - S.sizes.inputs) 0 in
        let more : n - (j - 1) ≡ suc (n - j) = omega arith in
        let next : suc (stride * g + (j - 1)) ≡ stride * g + j = omega arith in
        let made = pins-more S (stride * g + (j - 1)) (n - j) in
        let all = ap (pins_now S (stride * g + (j - 1))) more in
        let rest = ap (λ (i : ℕ). pins_now S i (n - j)) next in
        omega (arith, t.value)

    -- its pins have to be asked
    module _ {known' : List ℕ} (m : More S known known') where
      pub node-asks : (j : ℕ) → 0 < j → j ≤ get_or S.net (v - S.sizes.inputs) 0 → PinAsked S known' (stride * (v - S.sizes.inputs) + (j - 1))
      node-asks j low high =
          let few = node-few in
          let place : (stride * (v - S.sizes.inputs) + (j - 1)) / stride ≡ v - S.sizes.inputs = omega arith in
          let pin : (stride * (v - S.sizes.inputs) + (j - 1)) % stride ≡ j - 1 = omega arith in
          record { ready = m.ready; gate = omega (arith, node-inside); pin = omega (arith, ap (λ (g : ℕ). get_or S.net g 0) place) }

      pub node-falls-to : (j : ℕ) → 0 < j → j ≤ get_or S.net (v - S.sizes.inputs) 0 → pin_measure S (stride * (v - S.sizes.inputs) + (j - 1)) < node_measure S v back
      node-falls-to j low high =
          let few = node-few in
          subst (λ (b : ℕ). pin_measure S (stride * (v - S.sizes.inputs) + (j - 1)) < node_measure S v b) (sym node-gate.0)
          (pin-falls S v (stride * (v - S.sizes.inputs) + (j - 1)) (j - 1) node-gate.1 refl (omega arith))

      -- all pins are known
      pub node-noted : (at j value : ℕ) → j ≤ 0 → at ≡ pins_now S (stride * (v - S.sizes.inputs) + j) (get_or S.net (v - S.sizes.inputs) 0 - j)
          → value ≡ as_number (bit (get_or S.tables (v - S.sizes.inputs) 0) at) → NodeTold S known (set known' (v - S.sizes.inputs) (value + 1)) v back value
      unfolding ago
      node-noted at j value z q d = record {
        value = is ∙ ap (λ (b : ℕ). as_number (value_back S v b)) (sym node-gate.0);
        more = more_trans m (more-noted m.ready g value node-inside this);
        noted = λ u l. omega (arith, get_or-set_same known' g (value + 1) 0 (omega (arith, m.ready.size)));
      }
        where
          g : ℕ
          g = v - S.sizes.inputs

          first : pins_now S (stride * (v - S.sizes.inputs) + j) (get_or S.net (v - S.sizes.inputs) 0 - j) ≡ pins_now S (stride * (v - S.sizes.inputs)) (get_or S.net (v - S.sizes.inputs) 0)
          first = ap₂ (pins_now S) (omega arith) (omega arith)

          this : value ≡ as_number (value_of S (S.sizes.inputs + (v - S.sizes.inputs)) 0)
          this = d ∙ ap (λ (i : ℕ). as_number (bit (get_or S.tables (v - S.sizes.inputs) 0) i)) (q ∙ first) ∙ ap as_number (sym (gate-value S a.ready.net (v - S.sizes.inputs) node-inside))

          is : value ≡ as_number (value_of S v 0)
          is = let same : S.sizes.inputs + (v - S.sizes.inputs) ≡ v = omega (arith, node-gate.1) in this ∙ ap (λ (u : ℕ). as_number (value_of S u 0)) same

-- ---- pin by pin

pub pin-small : {S : Sheet} {old new : List ℕ} {p r : ℕ} → PinTold S old new p r → r ≤ 1
pin-small {S} {p} t = omega (arith, t.value, as_number_small (pin_of S (pin_at (sources_of S.sizes S.net) (counts_of S.sizes S.net) p)))

module _ {S : Sheet} {known : List ℕ} {p : ℕ} (a : PinAsked S known p) {source count : ℕ} (s : source ≡ get_or S.net (sources_at S.sizes.gates + p) 0) (c : count ≡ get_or S.net (counts_at S.sizes.gates + p) 0) where
  source_is : source ≡ get_or (sources_of S.sizes S.net) p 0
  source_is = s ∙ sym (get_or-drop (sources_at S.sizes.gates) S.net p 0)

  count-is : count ≡ get_or (counts_of S.sizes S.net) p 0
  count-is = c ∙ sym (get_or-drop (counts_at S.sizes.gates) S.net p 0)

  pub pin-asks : NodeAsked S known source count
  pin-asks =
      let place : stride * (p / stride) + p % stride ≡ p = omega arith in
      record {
        ready = a.ready;
        node = omega (arith, source_is, ap (λ (i : ℕ). get_or (sources_of S.sizes S.net) i 0) place, a.ready.net.wires.node (p / stride) (p % stride) a.gate a.pin);
        count = omega (arith, count-is, ap (λ (i : ℕ). get_or (counts_of S.sizes S.net) i 0) place, a.ready.net.count (p / stride) (p % stride) a.gate a.pin);
      }

  pub pin-falls-to : node_measure S source count < pin_measure S p
  pin-falls-to = node-falls S p a source count source_is count-is

  pub pin-told : {known' : List ℕ} {r : ℕ} → NodeTold S known known' source count r → PinTold S known known' p r
  pin-told t = record { value = t.value ∙ ap₂ (λ (u b : ℕ). as_number (value_back S u b)) source_is count-is; more = t.more }
