-- Laws: what the walk guarantees of the net that it gives.
use Rattle.std.specs.Prelude.{◌≡◌, refl, Bool, true, false, cond, ◌&&◌, List, [], ◌∷◌, ◌⊎◌, ℕ, zero, suc, ◌+◌, ◌-◌, ◌*◌, ◌/◌, ◌^◌, ◌≤◌, ◌<◌, leb, ltb, length, get_or}
use Rattle.std.proofs.Common.{sym, ap, ◌∙◌, subst, inl, inr, div-one, arith, lit≤, ltb-true, leb-true}
use Rattle.std.proofs.lemmas.Bool.{false≢true}
use Rattle.std.specs.Int.Count.{ones, ones_in}
use Rattle.std.proofs.lemmas.Nat.{ones-le}
use Rattle.limits.specs.Limits.{most_count, most_inputs, most_outputs, most_pins}
use Rattle.limits.specs.declared.Rules.{Rules}
use Rattle.sequences.specs.Member.{◌∈◌, in_get_or}
use Rattle.net_model.specs.Net.{Net, Pin, Gate, size, gate, pins, nothing, IsGate, IsNode}
use Rattle.net_model.specs.Checks.{Sound, Fits}
use Rattle.net_bytes.specs.Reading.{between, give, got, times, check, at_end}
use Rattle.net_bytes.specs.Walk.{Head, head_of, is_head, Drawn, drawn, is_past, net_reader, drawn_reader, head_reader, body_reader, section_reader, gate_reader, output_reader, net_byte, net_number, only_bits, table_byte, table_bytes, pins_from, from_bytes, first}
use Rattle.net_bytes.specs.Readers.{Gives, Each, got-value, then-got, check-got, byte-got, number-got, at_end-got, times-got}
use Rattle.net_bytes.specs.Stages.{made_gate, from_pin_map, from_width, from_maps, from_sources, from_counts, from_table, gate_stages, from_out_map, from_out_source, from_out_counts, output_stages, from_gates, from_sizes, from_gate_list, from_output_list, body_stages, from_head, from_body, drawn_stages, net_of, net_stages}
use Rattle.net_bytes.specs.Maps.{ones_in_lem, some_one, length-pins_from, each-pins_from, first-each, table_lt}

pub between-true : (low high b : ℕ) → between low high b ≡ true → (low ≤ b) × (b ≤ high)
between-true low high b e = go (leb low b) (leb b high) (leb-true low b) (leb-true b high) e
  where
    go : (x y : Bool) → (x ≡ true → low ≤ b) → (y ≡ true → b ≤ high) → (x && y) ≡ true → (low ≤ b) × (b ≤ high)
    go true y f g e = (f refl, g e)
    go false y f g e = absurd (false≢true e)

pub record PinFacts (nodes : ℕ) (p : Pin) : Type 0 where
  pub source : p.src < nodes
  pub count : p.count ≤ most_count

pub record GateFacts (k nodes : ℕ) (g : Gate) : Type 0 where
  pub some : 1 ≤ length g.pins
  pub most : length g.pins ≤ most_pins
  pub fits : length g.pins ≤ k
  pub pin : Each (PinFacts nodes) g.pins
  pub table : g.table < 2 ^ (2 ^ length g.pins)

-- what the walk guarantees of a net
pub record NetFacts (R : Rules) (k : ℕ) (N : Net) : Type 0 where
  pub inputs-low : 1 ≤ N.inputs
  pub inputs-high : N.inputs ≤ most_inputs
  pub gates-low : 1 ≤ length N.gates
  pub gates-high : length N.gates ≤ R.gates
  pub outputs-low : 1 ≤ length N.outputs
  pub outputs-high : length N.outputs ≤ most_outputs
  pub gate : Each (GateFacts k (size N)) N.gates
  pub output : Each (PinFacts (size N)) N.outputs

module _ (wide : Bool) (k nodes : ℕ) (pos : 0 < nodes) where
  gate-made : (p r m : ℕ) (s c t : List ℕ) → ones p ≡ m → between 1 63 p ≡ true → leb (ones p) k ≡ true
      → Each (λ (b : ℕ). ltb b nodes ≡ true) s → Each (λ (b : ℕ). between 1 most_count b ≡ true) c
      → length t ≡ table_bytes m → Each (λ (b : ℕ). table_byte m b ≡ true) t
      → GateFacts k nodes (record { pins = pins_from most_pins 0 p r s c; table = from_bytes t })
  gate-made p r m s c t hm hp hk hs hc ht et =
      let range = between-true 1 63 p hp in
      let low = range.0 in
      let high = range.1 in
      let digits : ones p ≡ ones_in most_pins p = ones_in_lem most_pins p (omega arith) in
      let long : length (pins_from most_pins 0 p r s c) ≡ ones p = length-pins_from most_pins 0 p r s c ∙ ap (ones_in most_pins) (div-one p) ∙ sym digits in
      let six : ones p ≤ most_pins = ones-le most_pins p (omega arith) in
      record {
        some = omega (arith, some_one most_pins p (omega arith) low);
        most = omega arith;
        fits = omega (arith, leb-true (ones p) k hk);
        pin = λ q h. pin_facts q
            (each-pins_from (λ (b : ℕ). b < nodes) (λ (b : ℕ). b ≤ most_count) pos (lit≤ tt) most_pins 0 p r s c
            (λ b m. ltb-true b nodes (hs b m)) (λ b m. (between-true 1 most_count b (hc b m)).1) q h);
        table = rw (long, hm) (table_lt m t ht et);
      }
    where
      pin_facts : (q : Pin) → (q.src < nodes) × (q.count ≤ most_count) → PinFacts nodes q
      pin_facts q h = record { source = h.0; count = h.1 }

  pub gate-facts : Gives (gate_reader wide k nodes) (GateFacts k nodes)
  gate-facts s g end e =
      let x1 = then-got (net_byte 6 (between 1 63) s) (from_pin_map wide k nodes) g end (sym (gate_stages wide k nodes s) ∙ e) in
      let p = x1.0 in
      let x2 = then-got (check (leb (ones p) k) 7 (ones p) x1.1) (from_width wide nodes p) g end x1.3 in
      let m = x2.0 in
      let x3 = then-got (net_byte 6 (only_bits 8 p) x2.1) (from_maps wide nodes p m) g end x2.3 in
      let r = x3.0 in
      let x4 = then-got (times m (net_number wide 6 (λ b. ltb b nodes)) x3.1) (from_sources m p r) g end x3.3 in
      let x5 = then-got (times (ones r) (net_byte 6 (between 1 most_count)) x4.1) (from_counts m p r x4.0) g end x4.3 in
      let x6 = then-got (times (table_bytes m) (net_byte 6 (table_byte m)) x5.1) (from_table p r x4.0 x5.0) g end x5.3 in
      let w = check-got (leb (ones p) k) 7 (ones p) x1.1 m x2.1 x2.2 in
      let ss = times-got (λ (b : ℕ). ltb b nodes ≡ true) m (net_number wide 6 (λ b. ltb b nodes)) (number-got wide 4 6 (λ b. ltb b nodes)) x3.1 x4.0 x4.1 x4.2 in
      let cs = times-got (λ (b : ℕ). between 1 most_count b ≡ true) (ones r) (net_byte 6 (between 1 most_count)) (byte-got 4 6 (between 1 most_count)) x4.1 x5.0 x5.1 x5.2 in
      let ts = times-got (λ (b : ℕ). table_byte m b ≡ true) (table_bytes m) (net_byte 6 (table_byte m)) (byte-got 4 6 (table_byte m)) x5.1 x6.0 x6.1 x6.2 in
      let same = got-value (made_gate p r x4.0 x5.0 x6.0) x6.1 g end x6.3 in
      rw (← same) (gate-made p r m x4.0 x5.0 x6.0 w.1 (byte-got 4 6 (between 1 63) s p x1.1 x1.2) w.0 ss.1 cs.1
      ts.0 ts.1)

  pub output-facts : Gives (output_reader wide nodes) (PinFacts nodes)
  output-facts s o end e =
      let x1 = then-got (net_byte 6 (λ b. leb b 1) s) (from_out_map wide nodes) o end (sym (output_stages wide nodes s) ∙ e) in
      let m = x1.0 in
      let x2 = then-got (net_number wide 6 (λ b. ltb b nodes) x1.1) (from_out_source m) o end x1.3 in
      let x3 = then-got (times m (net_byte 6 (between 1 most_count)) x2.1) (from_out_counts x2.0) o end x2.3 in
      let cs = times-got (λ (b : ℕ). between 1 most_count b ≡ true) m (net_byte 6 (between 1 most_count)) (byte-got 4 6 (between 1 most_count)) x2.1 x3.0 x3.1 x3.2 in
      let same = got-value (record { src = x2.0; count = first x3.0 }) x3.1 o end x3.3 in
      rw (← same) (record {
        source = ltb-true x2.0 nodes (number-got wide 4 6 (λ b. ltb b nodes) x1.1 x2.0 x2.1 x2.2);
        count = first-each (λ (b : ℕ). b ≤ most_count) x3.0 (lit≤ tt) (λ b h. (between-true 1 most_count b (cs.1 b h)).1);
      })

-- what the body guarantees behind a head that passed its test
pub body-facts : (R : Rules) (k i : ℕ) → between 1 most_inputs i ≡ true → Gives (body_reader R k i) (NetFacts R k)
body-facts R k i hi s N end e =
    let w = R.wide in
    let x2 = then-got (net_number w 5 (between 1 R.gates) s) (from_gates w k i) N end (sym (body_stages R k i s) ∙ e) in
    let g = x2.0 in
    let x3 = then-got (net_byte 5 (between 1 most_outputs) x2.1) (from_sizes w k i g) N end x2.3 in
    let o = x3.0 in
    let x4 = then-got (times g (gate_reader w k (i + g)) x3.1) (from_gate_list w i g o) N end x3.3 in
    let x5 = then-got (times o (output_reader w (i + g)) x4.1) (from_output_list i x4.0) N end x4.3 in
    let same = got-value (record { inputs = i; gates = x4.0; outputs = x5.0 }) x5.1 N end x5.3 in
    let is = between-true 1 most_inputs i hi in
    let gr = between-true 1 R.gates g (number-got w 4 5 (between 1 R.gates) s g x2.1 x2.2) in
    let or = between-true 1 most_outputs o (byte-got 4 5 (between 1 most_outputs) x2.1 o x3.1 x3.2) in
    let il = is.0 in
    let pos : 0 < i + g = omega arith in
    let gs = times-got (GateFacts k (i + g)) g (gate_reader w k (i + g)) (gate-facts w k (i + g) pos) x3.1 x4.0 x4.1 x4.2 in
    let os = times-got (PinFacts (i + g)) o (output_reader w (i + g)) (output-facts w k (i + g) pos) x4.1 x5.0 x5.1 x5.2 in
    let all : i + length x4.0 ≡ i + g = ap (λ (n : ℕ). i + n) gs.0 in
    let facts : NetFacts R k (record { inputs = i; gates = x4.0; outputs = x5.0 }) = record {
      inputs-low = is.0;
      inputs-high = is.1;
      gates-low = rw gs.0 gr.0;
      gates-high = rw gs.0 gr.1;
      outputs-low = rw os.0 or.0;
      outputs-high = rw os.0 or.1;
      gate = rw all gs.1;
      output = rw all os.1;
    } in
    subst (NetFacts R k) same facts

-- what the walk guarantees of a net and its section: a byte a node or none at all
pub record DrawnFacts (R : Rules) (k : ℕ) (d : Drawn) : Type 0 where
  pub net : NetFacts R k d.net
  pub long : (length d.section ≡ 0) ⊎ (length d.section ≡ size d.net)
  pub past : Each (λ (b : ℕ). b ≤ 7) d.section

-- and no byte is left
pub drawn-facts : (R : Rules) (k : ℕ) (s : List ℕ) (d : Drawn) (end : List ℕ) → drawn_reader R k s ≡ got d end → DrawnFacts R k d × (end ≡ [])
drawn-facts R k s d end e =
    let x1 = then-got (head_reader s) (from_head R k) d end (sym (drawn_stages R k s) ∙ e) in
    let h = x1.0 in
    let x0 = then-got (net_byte 5 is_head s) (λ b. give (head_of b)) h x1.1 x1.2 in
    let same : head_of x0.0 ≡ h = got-value (head_of x0.0) x0.1 h x1.1 x0.3 in
    let hi : between 1 most_inputs h.inputs ≡ true = ap (λ (g : Head). between 1 most_inputs g.inputs) (sym same) ∙ byte-got 4 5 is_head s x0.0 x0.1 x0.2 in
    let x2 = then-got (body_reader R k h.inputs x1.1) (from_body h.section) d end x1.3 in
    let x3 = then-got (section_reader h.section x2.0 x2.1) (λ section. at_end 8 (drawn x2.0 section)) d end x2.3 in
    let x4 = at_end-got 8 (drawn x2.0 x3.0) x3.1 d end x3.3 in
    let bytes = times-got (λ (b : ℕ). is_past b ≡ true) (cond h.section (size x2.0) 0) (net_byte 6 is_past) (byte-got 4 6 is_past) x2.1 x3.0 x3.1 x3.2 in
    let facts : DrawnFacts R k (drawn x2.0 x3.0) = record {
      net = body-facts R k h.inputs hi x1.1 x2.0 x2.1 x2.2;
      long = by h.section bytes.0;
      past = λ b m. leb-true b 7 (bytes.1 b m);
    } in
    (subst (DrawnFacts R k) x4.0 facts, x4.1)
  where
    by : (follows : Bool) {l n : ℕ} → l ≡ cond follows n 0 → (l ≡ 0) ⊎ (l ≡ n)
    by true p = inr p
    by false p = inl p

-- what the walk guarantees of the net, and no byte is left
pub walk-facts : (R : Rules) (k : ℕ) (s : List ℕ) (N : Net) (end : List ℕ) → net_reader R k s ≡ got N end → NetFacts R k N × (end ≡ [])
walk-facts R k s N end e =
    let x = then-got (drawn_reader R k s) net_of N end (sym (net_stages R k s) ∙ e) in
    let f = drawn-facts R k s x.0 x.1 x.2 in
    let left : x.1 ≡ end = cc x.3 in
    (subst (NetFacts R k) (got-value x.0.net x.1 N end x.3) f.0.net, sym left ∙ f.1)

module _ (R : Rules) (k : ℕ) (s : List ℕ) (N : Net) (end : List ℕ) (e : net_reader R k s ≡ got N end) where
  -- the gate with number v
  pub walk-gate : (v : ℕ) → IsGate N v → GateFacts k (size N) (gate N v)
  unfolding gate
  walk-gate v h =
      let low = h.low in
      let high = h.high in
      (walk-facts R k s N end e).0.gate (get_or N.gates (v - N.inputs) nothing) (in_get_or N.gates (v - N.inputs) nothing (omega arith))

  -- check 6, as far as it speaks of sources, and check 7 hold of the net that the walk gives
  pub walk-sound : Sound N
  walk-sound = record {
    pin = λ v h p m. ((walk-gate v h).pin p m).source;
    output = λ o m. ((walk-facts R k s N end e).0.output o m).source;
  }

  pub walk-fits : Fits N k
  walk-fits v h = (walk-gate v h).fits

  pub walk_ends : end ≡ []
  walk_ends = (walk-facts R k s N end e).1
