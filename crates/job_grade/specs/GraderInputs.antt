-- Laws of the parts of the marking program's input, and of its answer.
use Rattle.std.specs.Prelude.{◌≡◌, refl, List, [], ◌∷◌, ℕ, zero, suc, ◌+◌, ◌-◌, ◌*◌, ◌≤◌, ◌<◌, length, get_or, take, drop, replicate}
use Rattle.std.proofs.Common.{sym, ap₂, subst, ◌∙◌, arith, zero-add, length-drop, drop_of_length-le, take_all, drop-drop}
use Rattle.std.proofs.Math.Path.{ap}
use Rattle.std.proofs.Math.Seq.{drop-length}
use Rattle.limits.specs.Limits.{scratch_area}
use Rattle.limits.specs.Courses.{long}
use Rattle.net_bytes.specs.Walk.{first, rest}
use Rattle.cover_records.specs.Listing.{refusal_text, excess_text}
use Rattle.cover_records.specs.Outcomes.{Answer, accepted, turned_back, MarkOutcome, mark_outcome}
use Rattle.cover_records.specs.Program.{answer_text, marking, marking_program}
use Rattle.net_bytes.specs.Places.{place-first, place-second}
use Rattle.inputs.specs.InputParts.{Behind}

pub place-high : (l : List ℕ) → get_or l 2 0 ≡ first (rest (rest l))
place-high [] = refl
place-high (a ∷ []) = refl
place-high (a ∷ b ∷ []) = refl
place-high (a ∷ b ∷ c ∷ l) = refl

place_rest : (l : List ℕ) → drop 3 l ≡ rest (rest (rest l))
place_rest [] = refl
place_rest (a ∷ []) = refl
place_rest (a ∷ b ∷ []) = refl
place_rest (a ∷ b ∷ c ∷ l) = refl

-- **the text of the parts is the program's**
pub graded_parts : (l net bytes : List ℕ) (k n at end : ℕ) → k ≡ get_or l 0 0 → n ≡ get_or l 1 0 + 256 * get_or l 2 0 → Behind l 0 3 at → Behind l at n end
    → net ≡ take (end - at) (drop at l) → bytes ≡ drop end l → marking_program l ≡ marking k net bytes
unfolding marking_program
graded_parts l net bytes k n at end e f b d g h =
    let q : drop at l ≡ rest (rest (rest l)) = b.behind ∙ place_rest l in
    let m : n ≡ first (rest l) + 256 * first (rest (rest l)) = f ∙ ap₂ (λ (x y : ℕ). x + 256 * y) (place-second l) (place-high l) in
    ap (λ (x : ℕ). marking x (take (first (rest l) + 256 * first (rest (rest l))) (rest (rest (rest l)))) (drop (first (rest l) + 256 * first (rest (rest l))) (rest (rest (rest l))))) (sym (e ∙ place-first l))
    ∙ ap₂ (λ (x : ℕ) (y : List ℕ). marking k (take x y) (drop x y)) (sym m) (sym q)
    ∙ ap₂ (marking k) (sym (g ∙ d.before)) (sym (h ∙ d.behind))

-- ---- the answer as text

module _ (net bytes : List ℕ) (k : ℕ) {s : List ℕ} {a : Answer} (e : mark_outcome long net k bytes (replicate scratch_area 0) ≡ record { answer = a; scratch = s }) where
  pub marking-excess : {n : ℕ} → a ≡ accepted n → marking k net bytes ≡ excess_text n
  unfolding marking
  marking-excess q = ap (λ (o : MarkOutcome). answer_text o.answer) e ∙ ap answer_text q

  pub marking-refused : {n : ℕ} → a ≡ turned_back n → marking k net bytes ≡ refusal_text n
  unfolding marking
  marking-refused q = ap (λ (o : MarkOutcome). answer_text o.answer) e ∙ ap answer_text q
