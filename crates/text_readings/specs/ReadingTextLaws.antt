-- Laws of the reader's lines and of the places of cases.
use Rattle.std.specs.Prelude.{◌≡◌, List, ◌++◌, ℕ, ◌-◌, ◌<◌, take, drop, Ok}
use Rattle.std.proofs.Common.{sym, ◌∙◌, append_assoc, arith, length-take, length-drop, take_all}
use Rattle.std.proofs.Math.Path.{ap, ap₂}
use Rattle.std.proofs.Math.ListN.{length}
use Rattle.net_model.specs.Arrays.{net_in}
use Rattle.net_model.specs.ArrayLaws.{gates-net_in, inputs-net_in, outputs-net_in, length-pins_in}
use Rattle.limits.specs.Courses.{long}
use Rattle.net_bytes.specs.Reading.{refused}
use Rattle.net_bytes.specs.Walk.{net_reader}
use Rattle.cover_records.specs.Listing.{decimal, newline, refusal_text}
use Rattle.net_reader.specs.ReadAnswer.{arrays_of, result_of}
use Rattle.net_reader.specs.declared.NetSizes.{NetSizes}
use Rattle.cover_writer.specs.Writing.{Wrote}
use Rattle.text_digits.specs.PutLaws.{wrote_as}
use Rattle.inputs.specs.InputParts.{Behind}
use Rattle.text_readings.specs.ReadingText.{read_word, gap, sizes_text, reading_text}

pairs : (a b c d e f n : List ℕ) → (((a ++ b) ++ (c ++ d)) ++ (e ++ f)) ++ n ≡ a ++ b ++ c ++ d ++ e ++ f ++ n
pairs a b c d e f n = simp append_assoc

pub sizes-text : (inputs gates outputs : ℕ) → (((read_word ++ decimal inputs) ++ (gap ++ decimal gates)) ++ (gap ++ decimal outputs)) ++ newline ≡ sizes_text inputs gates outputs
unfolding sizes_text
sizes-text inputs gates outputs = pairs read_word (decimal inputs) gap (decimal gates) gap (decimal outputs) newline

module _ (k : ℕ) (net : List ℕ) where
  pub reading_refused : {n m c : ℕ} {before after : List ℕ} → net_reader long k net ≡ refused n → m ≡ n → Wrote (refusal_text m) before after c → Wrote (reading_text (net_reader long k net)) before after c
  unfolding reading_text
  reading_refused e d t = wrote_as (ap reading_text e ∙ ap refusal_text (sym d)) t

  pub reading_read : {c : ℕ} {before after : List ℕ} (z : NetSizes) (packed ts : List ℕ) → net_reader long k net ≡ result_of (Ok z) packed ts
      → Wrote (sizes_text z.inputs z.gates z.outputs) before after c → Wrote (reading_text (net_reader long k net)) before after c
  unfolding reading_text
  reading_read z packed ts e t =
      let a = arrays_of z packed ts in
      let o : length (net_in a).outputs ≡ a.outputs = ap length (outputs-net_in a) ∙ length-pins_in a.out_sources a.out_counts 0 a.outputs in
      wrote_as (ap reading_text e
      ∙ ap (λ (x : ℕ). sizes_text x (length (net_in a).gates) (length (net_in a).outputs)) (inputs-net_in a)
      ∙ ap₂ (sizes_text a.inputs) (gates-net_in a) o) t

-- the case's own bytes behind k and the length
pub case_net : (s : List ℕ) (at : ℕ) → Behind s 0 3 at → take (length s - at) (drop at s) ≡ drop 3 s
case_net s at b = let d = length-drop at s in take_all (length s - at) (drop at s) (omega arith) ∙ b.behind

pub case_text : {k k' : ℕ} {net net' : List ℕ} → k ≡ k' → net ≡ net' → reading_text (net_reader long k net) ≡ reading_text (net_reader long k' net')
case_text e f = ap₂ (λ (x : ℕ) (y : List ℕ). reading_text (net_reader long x y)) e f

-- a place behind lies further on
pub behind-further : (s : List ℕ) (at r : ℕ) → at < length s → Behind s at 3 r → at < r
behind-further s at r h b =
    let e = ap length b.before in
    let d = length-drop at s in
    let f = length-take (r - at) (drop at s) in
    let g = length-take 3 (drop at s) in
    omega arith
