-- Laws of storing gates and outputs in the slices, one after the other.
use Rattle.std.specs.Prelude.{◌≡◌, refl, Bool, ℕ, ◌+◌, ◌-◌, ◌*◌, ◌≤◌, ◌<◌, length, get_or, drop, set}
use Rattle.std.proofs.Common.{sym, ap, ◌∙◌, zero-le, zero-add, arith, length-set, get_or-drop}
use Rattle.std.proofs.Math.Path.{ap₂}
use mathlib.Core.List.{List, [], ◌∷◌, ◌++◌}
use Rattle.std.proofs.Math.Seq.{get_or-set_same, get_or-set_other}
use borrow.Author.Count.{below_more}
use Rattle.sequences.specs.Listed.{listed_next, listed_same}
use Rattle.sequences.specs.Stored.{Stored}
use Rattle.net_model.specs.Net.{Gate, Pin}
use Rattle.net_model.specs.Arrays.{pins_in, gates_in, stride}
use Rattle.net_model.specs.ArrayLaws.{pin_at, gate_at, pins-listed, gates-listed}
use Rattle.net_model.specs.PackedNet.{sources_at, counts_at, outs_at, delays_at, packed_room}
use Rattle.net_model.specs.PackedNetLaws.{pins-same, gates-same}
use Rattle.net_bytes.specs.Reading.{times, got, refused}
use Rattle.net_bytes.specs.Walk.{gate_reader, output_reader}
use Rattle.net_bytes.specs.Readers.{behind, turn-none, turn_one, turn-stops, turn-ends}
use Rattle.net_rows.specs.declared.GateRow.{GateRow}
use Rattle.net_rows.specs.RowParts.{row_gate}
use Rattle.net_reader.specs.declared.NetSizes.{NetSizes}
use Rattle.net_reader.specs.NetStored.{gates_of, outputs_of, Narrow, GateAsked, GateStored, with_output, Below}

-- sources, counts, number of pins and table are stored
module _ (net ts : List ℕ) (G g : ℕ) (row : GateRow) (p : GateAsked net ts G g row) (mid new : List ℕ)
    (a : Stored net (sources_at G + stride * g) row.sources stride mid) (b : Stored mid (counts_at G + stride * g) row.counts stride new) where
  net' : List ℕ
  net' = set new g row.pins

  ts' : List ℕ
  ts' = set ts g row.table

  other : (i : ℕ) → ¬ (i ≡ g) → get_or net' i 0 ≡ get_or new i 0
  unfolding net'
  other i n = get_or-set_other new g i row.pins 0 n

  new-pins : get_or net' g 0 ≡ row.pins
  unfolding net'
  new-pins = get_or-set_same new g row.pins 0 (omega (arith, a.long, b.long, p.room, p.gate))

  new-table : get_or ts' g 0 ≡ row.table
  unfolding ts'
  new-table = get_or-set_same ts g row.table 0 (omega (arith, p.tabled, p.gate))

  old-pins : (i : ℕ) → i < g → get_or net' i 0 ≡ get_or net i 0
  old-pins i h = other i (omega arith) ∙ b.below i (omega (arith, h, p.gate)) ∙ a.below i (omega (arith, h, p.gate))

  old-table : (i : ℕ) → i < g → get_or ts' i 0 ≡ get_or ts i 0
  unfolding ts'
  old-table i h = get_or-set_other ts g i row.table 0 (omega arith)

  old-source : (m : ℕ) → m < stride * g → get_or net' (sources_at G + m) 0 ≡ get_or net (sources_at G + m) 0
  old-source m h =
      let q = p.gate in
      other (sources_at G + m) (omega arith) ∙ b.below (sources_at G + m) (omega arith) ∙ a.below (sources_at G + m) (omega arith)

  old-count : (m : ℕ) → m < stride * g → get_or net' (counts_at G + m) 0 ≡ get_or net (counts_at G + m) 0
  old-count m h =
      let q = p.gate in
      other (counts_at G + m) (omega arith) ∙ b.below (counts_at G + m) (omega arith) ∙ a.above (counts_at G + m) (omega arith)

  new-source : (m : ℕ) → m < stride → get_or (drop (sources_at G) net') (stride * g + m) 0 ≡ get_or row.sources m 0
  new-source m h =
      let q = p.gate in
      let at : sources_at G + (stride * g + m) ≡ sources_at G + stride * g + m = omega arith in
      get_or-drop (sources_at G) net' (stride * g + m) 0 ∙ other (sources_at G + (stride * g + m)) (omega arith) ∙ b.below (sources_at G + (stride * g + m)) (omega arith)
      ∙ ap (λ (i : ℕ). get_or mid i 0) at ∙ a.here m h

  new-count : (m : ℕ) → m < stride → get_or (drop (counts_at G) net') (stride * g + m) 0 ≡ get_or row.counts m 0
  new-count m h =
      let q = p.gate in
      let at : counts_at G + (stride * g + m) ≡ counts_at G + stride * g + m = omega arith in
      get_or-drop (counts_at G) net' (stride * g + m) 0 ∙ other (counts_at G + (stride * g + m)) (omega arith) ∙ ap (λ (i : ℕ). get_or new i 0) at ∙ b.here m h

  new-gate : gate_at net' (drop (sources_at G) net') (drop (counts_at G) net') ts' g ≡ row_gate row
  new-gate =
      let most = p.most in
      ap₂ (λ (x : List Pin) (y : ℕ). record { pins = x; table = y })
      (ap (pins_in (drop (sources_at G) net') (drop (counts_at G) net') (stride * g)) new-pins
      ∙ listed_same (pins-listed (drop (sources_at G) net') (drop (counts_at G) net')) (pins-listed row.sources row.counts) (stride * g) 0 row.pins
      (λ i h. ap₂ (λ (x y : ℕ). record { src = x; count = y }) (new-source i (omega arith)) (new-count i (omega arith)) ∙ ap (pin_at row.sources row.counts) (sym (zero-add i))))
      new-table

  pub gate-stored : GateStored net ts G g row (set new g row.pins) (set ts g row.table)
  unfolding net' ts'
  gate-stored = record {
    list = listed_next (gates-listed net' (drop (sources_at G) net') (drop (counts_at G) net') ts') g
        ∙ ap₂ (λ (l : List Gate) (x : Gate). l ++ (x ∷ [])) (gates-same G g net net' p.few old-pins old-source old-count ts ts' old-table) new-gate;
    few = below_more _ _ (λ i h. rw (old-pins i h) (p.few i h)) (rw new-pins p.most);
  }

-- g of the gates are read and stored
pub record GatesSoFar (wide : Bool) (s : List ℕ) (at k : ℕ) (z : NetSizes) (net ts : List ℕ) (next g : ℕ) : Type 0 where
  pub result : times z.gates (gate_reader wide k (z.inputs + z.gates)) (drop at s)
      ≡ behind (gates_of z.gates net ts g) (times (z.gates - g) (gate_reader wide k (z.inputs + z.gates)) (drop next s))
  pub most : g ≤ z.gates
  pub few : Narrow net g

module _ (wide : Bool) (s : List ℕ) (at k : ℕ) (z : NetSizes) (net ts : List ℕ) where
  pub gates-none : GatesSoFar wide s at k z net ts at 0
  unfolding gates_in
  gates-none = record {
    result = turn-none z.gates (gate_reader wide k (z.inputs + z.gates)) (drop at s);
    most = zero-le;
    few = λ i h. absurd (omega arith);
  }

  module _ (next g : ℕ) (so : GatesSoFar wide s at k z net ts next g) where
    pub gates-one : (row : GateRow) (after : ℕ) {net' ts' : List ℕ} → g < z.gates
        → gate_reader wide k (z.inputs + z.gates) (drop next s) ≡ got (row_gate row) (drop after s)
        → GateStored net ts z.gates g row net' ts' → GatesSoFar wide s at k z net' ts' after (g + 1)
    gates-one row after {net'} {ts'} h e st = record {
      result = turn_one z.gates g (gates_of z.gates net ts g) (gate_reader wide k (z.inputs + z.gates)) (drop next s) so.result (row_gate row) (drop after s)
          (gates_of z.gates net' ts' (g + 1)) h e st.list;
      most = omega arith;
      few = st.few;
    }

    pub gates-stop : {n : ℕ} → g < z.gates → gate_reader wide k (z.inputs + z.gates) (drop next s) ≡ refused n
        → times z.gates (gate_reader wide k (z.inputs + z.gates)) (drop at s) ≡ refused n
    gates-stop h e = turn-stops z.gates g (gates_of z.gates net ts g) (gate_reader wide k (z.inputs + z.gates)) (drop next s) so.result h e

    pub gates-all : z.gates ≤ g → times z.gates (gate_reader wide k (z.inputs + z.gates)) (drop at s) ≡ got (gates_of z.gates net ts z.gates) (drop next s)
    gates-all h =
        let most = so.most in
        let end : g ≡ z.gates = omega arith in
        turn-ends z.gates g (gates_of z.gates net ts g) (gate_reader wide k (z.inputs + z.gates)) (drop next s) so.result h
        ∙ ap (λ (n : ℕ). got (gates_of z.gates net ts n) (drop next s)) end

-- o of the outputs are read and stored
pub record OutputsSoFar (wide : Bool) (s : List ℕ) (at : ℕ) (z : NetSizes) (old net : List ℕ) (next o : ℕ) : Type 0 where
  pub result : times z.outputs (output_reader wide (z.inputs + z.gates)) (drop at s)
      ≡ behind (outputs_of z net o) (times (z.outputs - o) (output_reader wide (z.inputs + z.gates)) (drop next s))
  pub most : o ≤ z.outputs
  pub below : Below z old net
  pub long : length net ≡ length old

-- one more output
module _ (net : List ℕ) (z : NetSizes) (o source count : ℕ) (room : packed_room z.inputs z.gates z.outputs ≤ length net) (h : o < z.outputs) where
  abbrev a : ℕ
  a = outs_at z.inputs z.gates

  abbrev d : ℕ
  d = delays_at z.inputs z.gates z.outputs

  old-at : (i : ℕ) → ¬ (i ≡ a + o) → ¬ (i ≡ d + o) → get_or (with_output net z o source count) i 0 ≡ get_or net i 0
  old-at i m n = get_or-set_other (set net (a + o) source) (d + o) i count 0 n ∙ get_or-set_other net (a + o) i source 0 m

  new-out : get_or (with_output net z o source count) (a + o) 0 ≡ source
  new-out = get_or-set_other (set net (a + o) source) (d + o) (a + o) count 0 (omega arith) ∙ get_or-set_same net (a + o) source 0 (omega arith)

  new-delay : get_or (with_output net z o source count) (d + o) 0 ≡ count
  new-delay = get_or-set_same (set net (a + o) source) (d + o) count 0 (omega (arith, length-set net (a + o) source))

  output-stored : outputs_of z (with_output net z o source count) (o + 1) ≡ outputs_of z net o ++ (record { src = source; count = count } ∷ [])
  output-stored =
      let net' = with_output net z o source count in
      listed_next (pins-listed (drop a net') (drop d net')) o
      ∙ ap₂ (λ (l : List Pin) (x : Pin). l ++ (x ∷ []))
      (pins-same net net' a d 0 o (λ j l. old-at (a + (0 + j)) (omega arith) (omega arith)) (λ j l. old-at (d + (0 + j)) (omega arith) (omega arith)))
      (ap₂ (λ (x y : ℕ). record { src = x; count = y }) (get_or-drop a net' o 0 ∙ new-out) (get_or-drop d net' o 0 ∙ new-delay))

module _ (wide : Bool) (s : List ℕ) (at : ℕ) (z : NetSizes) (old : List ℕ) where
  pub outputs-none : OutputsSoFar wide s at z old old at 0
  unfolding pins_in
  outputs-none = record {
    result = turn-none z.outputs (output_reader wide (z.inputs + z.gates)) (drop at s);
    most = zero-le;
    below = λ i h. refl;
    long = refl;
  }

  module _ (net : List ℕ) (next o : ℕ) (so : OutputsSoFar wide s at z old net next o) where
    pub outputs-one : packed_room z.inputs z.gates z.outputs ≤ length old → (h : o < z.outputs) (source count after : ℕ)
        → output_reader wide (z.inputs + z.gates) (drop next s) ≡ got (record { src = source; count = count }) (drop after s)
        → OutputsSoFar wide s at z old (with_output net z o source count) after (o + 1)
    outputs-one room h source count after e =
        let a = outs_at z.inputs z.gates in
        let d = delays_at z.inputs z.gates z.outputs in
        record {
          result = turn_one z.outputs o (outputs_of z net o) (output_reader wide (z.inputs + z.gates)) (drop next s) so.result (record { src = source; count = count }) (drop after s)
              (outputs_of z (with_output net z o source count) (o + 1)) h e
              (output-stored net z o source count (omega (arith, so.long, room)) h);
          most = omega arith;
          below = λ i l. get_or-set_other (set net (a + o) source) (d + o) i count 0 (omega arith) ∙ get_or-set_other net (a + o) i source 0 (omega arith) ∙ so.below i l;
          long = length-set (set net (a + o) source) (d + o) count ∙ length-set net (a + o) source ∙ so.long;
        }

    pub outputs-stop : {n : ℕ} → o < z.outputs → output_reader wide (z.inputs + z.gates) (drop next s) ≡ refused n
        → times z.outputs (output_reader wide (z.inputs + z.gates)) (drop at s) ≡ refused n
    outputs-stop h e = turn-stops z.outputs o (outputs_of z net o) (output_reader wide (z.inputs + z.gates)) (drop next s) so.result h e

    pub outputs-all : z.outputs ≤ o → times z.outputs (output_reader wide (z.inputs + z.gates)) (drop at s) ≡ got (outputs_of z net z.outputs) (drop next s)
    outputs-all h =
        let most = so.most in
        let end : o ≡ z.outputs = omega arith in
        turn-ends z.outputs o (outputs_of z net o) (output_reader wide (z.inputs + z.gates)) (drop next s) so.result h ∙ ap (λ (n : ℕ). got (outputs_of z net n) (drop next s)) end
