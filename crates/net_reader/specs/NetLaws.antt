-- Laws of reading the head, the numbers of the body and the whole record, one for each way out.
use Rattle.std.specs.Prelude.{◌≡◌, refl, cond, ℕ, ◌+◌, ◌/◌, ◌%◌, ◌^◌, ◌≤◌, ◌<◌, leb, length, drop, Result, Ok, Err}
use Rattle.std.proofs.Common.{sym, ◌∙◌, arith, le-leb, eq-eqb, ne_eqb, drop_of_length-le}
use Rattle.std.proofs.Math.Path.{ap}
use mathlib.Core.List.{List, [], ◌++◌, append-nil}
use Rattle.std.proofs.Math.Decide.{dec_le}
use Rattle.std.proofs.lemmas.Bool.{lt-leb}
use Rattle.limits.specs.Limits.{most_outputs}
use Rattle.limits.specs.declared.Rules.{Rules}
use Rattle.refusals.specs.declared.Refusal.{Refusal}
use Rattle.refusals.specs.Refusals.{number_of}
use Rattle.net_model.specs.Net.{Net, Gate, Pin, size}
use Rattle.net_model.specs.Tables.{bit}
use Rattle.net_model.specs.Arrays.{net_in}
use Rattle.net_model.specs.PackedNet.{sources_at, counts_at}
use Rattle.net_model.specs.PackedNetLaws.{gates-same}
use Rattle.net_bytes.specs.Reading.{Result as Outcome, and_then, at_end, between, got, refused}
use Rattle.net_bytes.specs.Walk.{Head, Drawn, drawn, is_past, drawn_reader, net_reader, head_reader, body_reader, net_number}
use Rattle.net_bytes.specs.Readers.{then-goes, then-stops, byte-got, number-got}
use Rattle.net_bytes.specs.Sound.{between-true}
use Rattle.net_bytes.specs.Stages.{from_head, from_body, from_gates, from_sizes, from_gate_list, from_output_list, body_stages, drawn_stages, net_of, net_stages}
use Rattle.net_bytes.specs.SectionLaws.{times-bytes}
use Rattle.net_fields.specs.declared.Field.TheVariants.{Net as OfNet}
use Rattle.net_fields.specs.declared.NetField.TheVariants.{Outputs}
use Rattle.net_fields.specs.Fields.{field_byte}
use Rattle.net_fields.specs.FieldLaws.{end_done, end_over}
use Rattle.net_fields.specs.Outcomes.{onward}
use Rattle.net_section.specs.SectionRead.{pasts}
use Rattle.net_reader.specs.declared.NetSizes.{NetSizes}
use Rattle.net_reader.specs.ReadAnswer.{arrays_of}
use Rattle.net_reader.specs.NetStored.{gates_of, outputs_of, GatesRead, OutputsRead, SizesRead}

-- the numbers of the body, where G is tested as the rules say
module _ (R : Rules) (s : List ℕ) (at : ℕ) where
  pub gates-number-stops : {n : ℕ} → net_number R.wide 5 (between 1 R.gates) (drop at s) ≡ refused n
      → (k i : ℕ) → body_reader R k i (drop at s) ≡ refused n
  gates-number-stops e k i = body_stages R k i (drop at s) ∙ then-stops (from_gates R.wide k i) e

  module _ (g : ℕ) (t : List ℕ) (e : net_number R.wide 5 (between 1 R.gates) (drop at s) ≡ got g t) where
    pub outputs-number-stops : {n : ℕ} → field_byte (OfNet Outputs) t ≡ refused n → (k i : ℕ) → body_reader R k i (drop at s) ≡ refused n
    outputs-number-stops f k i = body_stages R k i (drop at s) ∙ then-goes (from_gates R.wide k i) e ∙ then-stops (from_sizes R.wide k i g) f

    pub sizes-go : (o behind : ℕ) → field_byte (OfNet Outputs) t ≡ got o (drop behind s)
        → SizesRead R s at (Ok (record { value = record { gates = g; outputs = o }; at = behind }))
    sizes-go o behind f =
        let few = (between-true 1 R.gates g (number-got R.wide 4 5 (between 1 R.gates) (drop at s) g t e)).1 in
        record {
          result = λ k i. body_stages R k i (drop at s) ∙ then-goes (from_gates R.wide k i) e ∙ then-goes (from_sizes R.wide k i g) f;
          gates = few;
          outputs = (between-true 1 most_outputs o (byte-got 4 5 (between 1 most_outputs) t o (drop behind s) f)).1;
        }

-- the whole body, behind its numbers
module _ (R : Rules) (k : ℕ) (s : List ℕ) (start at : ℕ) (z : NetSizes) (net ts : List ℕ)
    (e : body_reader R k z.inputs (drop start s) ≡ from_sizes R.wide k z.inputs z.gates z.outputs (drop at s)) where
  pub gates-refused : {n : Refusal} → GatesRead R.wide s at k z net ts (Err n) → body_reader R k z.inputs (drop start s) ≡ refused (number_of n)
  gates-refused gr = e ∙ then-stops (from_gate_list R.wide z.inputs z.gates z.outputs) gr.result

  module _ (mid : ℕ) (gr : GatesRead R.wide s at k z net ts (Ok mid)) (net' : List ℕ) (x : Result ℕ Refusal) (or : OutputsRead R.wide s mid z net net' x) where
    abbrev gs : List Gate
    gs = gates_of z.gates net ts z.gates

    -- the outputs leave the gates
    same-net : record { inputs = z.inputs; gates = gs; outputs = outputs_of z net' z.outputs } ≡ net_in (arrays_of z net' ts)
    unfolding net_in
    same-net = ap (λ (l : List Gate). record { inputs = z.inputs; gates = l; outputs = outputs_of z net' z.outputs })
        (sym (gates-same z.gates z.gates net net' gr.few (λ i h. or.below i (omega (arith, h))) (λ m h. or.below (sources_at z.gates + m) (omega (arith, h)))
        (λ m h. or.below (counts_at z.gates + m) (omega (arith, h))) ts ts (λ i h. refl)))

    listed : (x : Result ℕ Refusal) (os : List Pin)
        → and_then (onward (λ end. got os (drop end s)) x) (from_output_list z.inputs gs)
        ≡ onward (λ end. got (record { inputs = z.inputs; gates = gs; outputs = os }) (drop end s)) x
    listed (Ok end) os = refl
    listed (Err n) os = refl

    pub body-read : body_reader R k z.inputs (drop start s) ≡ onward (λ end. got (net_in (arrays_of z net' ts)) (drop end s)) x
    body-read =
        e ∙ then-goes (from_gate_list R.wide z.inputs z.gates z.outputs) gr.result
        ∙ ap (λ r. and_then r (from_output_list z.inputs gs)) or.result ∙ listed x (outputs_of z net' z.outputs)
        ∙ ap (λ (N : Net). onward (λ end. got N (drop end s)) x) same-net

-- bit 7 of a byte
pub high_bit : (b : ℕ) → b < 256 → leb 128 b ≡ bit b 7
high_bit b h = go (dec_le 128 b)
  where
    go : Dec (128 ≤ b) → leb 128 b ≡ bit b 7
    go (yes l) = le-leb 128 b l ∙ sym (eq-eqb (b / 2 ^ 7 % 2) 1 (omega arith))
    go (no n) = lt-leb 128 b (omega arith) ∙ sym (ne_eqb (b / 2 ^ 7 % 2) 1 (λ e. omega arith))

-- the whole record, behind its head
module _ (R : Rules) (k : ℕ) (s : List ℕ) where
  pub head-stops : {n : ℕ} → head_reader s ≡ refused n → drawn_reader R k s ≡ refused n
  head-stops e = drawn_stages R k s ∙ then-stops (from_head R k) e

  module _ (h : Head) (at : ℕ) (e : head_reader s ≡ got h (drop at s)) where
    pub body-stops : {n : ℕ} → body_reader R k h.inputs (drop at s) ≡ refused n → drawn_reader R k s ≡ refused n
    body-stops f = drawn_stages R k s ∙ then-goes (from_head R k) e ∙ then-stops (from_body h.section) f

    module _ (N : Net) (behind : ℕ) (f : body_reader R k h.inputs (drop at s) ≡ got N (drop behind s)) (n : ℕ) (long : n ≡ cond h.section (size N) 0) where
      body-goes : drawn_reader R k s ≡ and_then (pasts n (drop behind s)) (λ section. at_end 8 (drawn N section))
      body-goes =
          drawn_stages R k s ∙ then-goes (from_head R k) e ∙ then-goes (from_body h.section) f
          ∙ ap (λ (m : ℕ). and_then (pasts m (drop behind s)) (λ section. at_end 8 (drawn N section))) (sym long)

      pub section-stops : {m : ℕ} → pasts n (drop behind s) ≡ refused m → drawn_reader R k s ≡ refused m
      section-stops g = body-goes ∙ then-stops (λ section. at_end 8 (drawn N section)) g

      module _ (l : List ℕ) (end : ℕ) (g : pasts n (drop behind s) ≡ got l (drop end s)) where
        section-goes : drawn_reader R k s ≡ at_end 8 (drawn N l) (drop end s)
        section-goes = body-goes ∙ then-goes (λ section. at_end 8 (drawn N section)) g

        pub bytes-over : end < length s → drawn_reader R k s ≡ refused 8
        bytes-over b = section-goes ∙ end_over 8 (drawn N l) s end b

        -- no byte is left: the section is the rest of the record
        pub drawn-read : length s ≤ end → drawn_reader R k s ≡ got (drawn N (drop behind s)) []
        drawn-read b =
            section-goes ∙ end_done 8 (drawn N l) s end b
            ∙ ap (λ (m : List ℕ). got (drawn N m) []) (sym (times-bytes 4 6 is_past n (drop behind s) l (drop end s) g ∙ ap (λ (t : List ℕ). l ++ t) (drop_of_length-le s b) ∙ append-nil l))

-- the net alone
pub net-alone : (R : Rules) (k : ℕ) (s : List ℕ) (x : Outcome Drawn) → drawn_reader R k s ≡ x → net_reader R k s ≡ and_then x net_of
net-alone R k s x e = net_stages R k s ∙ ap (λ (r : Outcome Drawn). and_then r net_of) e
