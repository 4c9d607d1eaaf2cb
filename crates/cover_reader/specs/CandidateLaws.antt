-- Laws of reading a cover record, one for each way out.
use Rattle.std.specs.Prelude.{◌≡◌, refl, false, List, [], ℕ, ℤ, ◌+◌, ◌*◌, ◌≤◌, ◌<◌, length, drop, replicate, Ok, Err}
use Rattle.std.proofs.Common.{ap, ap₂, ◌∙◌, le_trans, arith}
use Rattle.std.proofs.lemmas.List.{length-replicate}
use Rattle.limits.specs.Courses.{Offered, is-long, is-short}
use Rattle.limits.specs.declared.Rules.{Rules}
use Rattle.limits.specs.Limits.{most_k, most_luts}
use Rattle.refusals.specs.declared.Refusal.{Refusal}
use Rattle.refusals.specs.declared.Refusal.TheVariants.{Layout}
use Rattle.refusals.specs.Refusals.{number_of}
use Rattle.net_model.specs.Net.{Net, size, nothing}
use Rattle.net_model.specs.Arrays.{stride}
use Rattle.net_bytes.specs.Reading.{and_then, got, refused}
use Rattle.net_bytes.specs.Readers.{then-goes, then-stops}
use Rattle.cover_records.specs.CoverBytes.{cover_reader, luts_reader}
use Rattle.cover_records.specs.Held.{Held, luts_in}
use Rattle.net_fields.specs.FieldLaws.{end_done, end_over}
use Rattle.cover_reader.specs.declared.Candidate.{Candidate}
use Rattle.cover_reader.specs.Reads.{held_in, CoverKept, CoverBroken}
use Rattle.cover_records.specs.CoverStages.{Front, front, front_reader, front_goes, front-stops, front_ranges, from_luts, from_front, cover_stages}
use Rattle.cover_reader.specs.LutsStored.{LutsRead}
use Rattle.cover_records.specs.CoverRefusals.{only-cover}
use Rattle.cover_reader.specs.CandidateFacts.{luts-facts, well-held}

-- what the rules that are offered have in common
record Usual (R : Rules) : Type 0 where
  one : R.wide ≡ false
  few : R.luts ≤ most_luts

usual : {R : Rules} → Offered R → Usual R
usual is-long = record { one = refl; few = omega arith }
usual is-short = record { one = refl; few = omega arith }

-- there is room for the LUTs of a front
pub front-few : {R : Rules} → Offered R → (s : List ℕ) (a : Front) (t : List ℕ) → front_reader R s ≡ got a t → a.luts ≤ most_luts
front-few {R} o s a t e = le_trans (front_ranges R s a t e).3 (usual o).few

-- some net has so many inputs and gates
some-net : (I G : ℕ) → (N : Net) × (N.inputs ≡ I) × (size N ≡ I + G)
some-net I G = (record { inputs = I; gates = replicate G nothing; outputs = [] }, refl, ap (λ (n : ℕ). I + n) (length-replicate G nothing))

module _ {R : Rules} (o : Offered R) (s : List ℕ) (I G k : ℕ) where
  -- the record is refused
  stop-cover : {j : Refusal} → ((N : Net) → N.inputs ≡ I → size N ≡ I + G → cover_reader R N k s ≡ refused (number_of j)) → CoverBroken R s I G k j
  stop-cover {j} e =
      let n = some-net I G in
      record {
        told = only-cover R n.0 k s (number_of j) (e n.0 n.1 n.2);
        broken = λ N i z. e N i z ∙ ap refused (only-cover R N k s (number_of j) (e N i z));
      }

  pub front-stopped : {j : Refusal} → front_reader R s ≡ refused (number_of j) → CoverBroken R s I G k j
  front-stopped e = stop-cover (λ N i z. cover_stages R N k s ∙ front-stops R (from_front R (size N) k N.inputs) s e)

  module _ (p n at : ℕ) (e : front_reader R s ≡ got (front p n) (drop at s)) (h : Held) where
    luts-at : (N : Net) → N.inputs ≡ I → size N ≡ I + G → cover_reader R N k s ≡ and_then (luts_reader R.wide (I + G) k n I (drop at s)) (from_luts p)
    luts-at N i z =
        cover_stages R N k s ∙ front_goes R (from_front R (size N) k N.inputs) s e
        ∙ ap₂ (λ (a b : ℕ). and_then (luts_reader R.wide a k n b (drop at s)) (from_luts p)) z i

    pub luts-stopped : {j : Refusal} → LutsRead R.wide s at (I + G) k I n h (Err j) → CoverBroken R s I G k j
    luts-stopped r = stop-cover (λ N i z. luts-at N i z ∙ then-stops (from_luts p) r.result)

    module _ (end : ℕ) (r : LutsRead R.wide s at (I + G) k I n h (Ok end)) where
      pub bytes-over : end < length s → CoverBroken R s I G k Layout
      bytes-over l = stop-cover (λ N i z. luts-at N i z ∙ then-goes (from_luts p) r.result ∙ end_over 13 (record { period = p; entries = luts_in h n }) s end l)

      pub cover-goes : length s ≤ end → k ≤ most_k
          → n ≤ length h.roots → n ≤ length h.sizes → stride * n ≤ length h.nodes → stride * n ≤ length h.backs → n ≤ length h.lags → n ≤ length h.tables
          → CoverKept R s I G k (record { period = p; luts = n }) h
      cover-goes l six lr ls ln lb ll lt =
          let range = front_ranges R s (front p n) (drop at s) e in
          record {
            read = λ N i z. luts-at N i z ∙ then-goes (from_luts p) r.result ∙ end_done 13 (record { period = p; entries = luts_in h n }) s end l;
            well = well-held (usual o).one I G k n h
                (luts-facts R.wide (I + G) k n I (drop at s) (luts_in h n) (drop end s) r.result) lr ls ln lb ll lt six r.small;
            low_period = range.0;
            high_period = range.1;
            few = range.3;
          }

-- equal arrays keep the same record
pub cover-same : {R : Rules} {s : List ℕ} {I G k : ℕ} {c : Candidate} (n : ℕ) {rows rows' : List ℕ} {lags lags' : List ℤ} {tables tables' : List ℕ} → rows ≡ rows' → lags ≡ lags' → tables ≡ tables'
    → CoverKept R s I G k c (held_in n rows' lags' tables') → CoverKept R s I G k c (held_in n rows lags tables)
cover-same n e f g h = rw (e, f, g) h
