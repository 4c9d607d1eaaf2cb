-- The cover's text uses the labels of roots alone, so the arrays' text is the definition's.
use Rattle.std.specs.Prelude.{◌≡◌, refl, List, [], ◌∷◌, ◌++◌, ℕ, ◌≤◌, ℤ, length}
use Rattle.std.proofs.Common.{sym, ap₂, ◌∙◌}
use Rattle.std.proofs.Math.Path.{ap}
use Rattle.sequences.specs.Member.{◌∈◌, here, there}
use Rattle.net_model.specs.Net.{Net, IsGate}
use Rattle.net_model.specs.Checks.{Passed}
use Rattle.label_theory.specs.Labels.{plain, Reachable}
use Rattle.cover_theory.specs.Key.{Key, Entry, entries}
use Rattle.cover_period.specs.KeyOf.{key-labelled}
use Rattle.cover_period.specs.KeyUnique.{entries_unique, label_same}
use Rattle.cover_records.specs.Kept.{Kept, entries_in, label_at}
use Rattle.cover_records.specs.Listing.{decimal, register_count, period_word, luts_word, registers_word, newline, lut_line, lut_lines, cover_text, refusal_text}
use Rattle.cover_records.specs.Outcomes.{Mapped, mapped}
use Rattle.cover_records.specs.Program.{list_mapped}
use Rattle.job_plan.specs.Planned.{Covered}
use Rattle.job_plan.specs.Mapped.{mapped-none}
use Rattle.job_plan.specs.Mapped.{mapped-some}

-- labels that agree on the roots give the same lines
pub lines_agree : (label label' : ℕ → ℤ) (es : List Entry) → ((e : Entry) → e ∈ es → label e.root ≡ label' e.root) → lut_lines label es ≡ lut_lines label' es
unfolding lut_lines lut_line
lines_agree label label' [] h = refl
lines_agree label label' (e ∷ es) h =
    ap₂ (λ (l m : List ℕ). l ++ m) (ap (λ (z : ℤ). lut_line (λ (u : ℕ). z) e) (h e (here refl))) (lines_agree label label' es (λ x m. h x (there m)))

-- and the same text
pub text-agree : (N : Net) (φ : ℕ) (label label' : ℕ → ℤ) (es : List Entry) → ((e : Entry) → e ∈ es → label e.root ≡ label' e.root)
    → cover_text N φ label es ≡ cover_text N φ label' es
unfolding cover_text
text-agree N φ label label' es h =
    ap (λ (l : List ℕ). period_word ++ decimal φ ++ luts_word ++ decimal (length es) ++ registers_word ++ decimal (register_count N es) ++ newline ++ l) (lines_agree label label' es h)

module _ {N : Net} {k : ℕ} (P : Passed N k) where
  -- labels that agree on gates agree on a key's roots
  roots-agree : {φ : ℕ} (K : Key N k φ) (label : ℕ → ℤ) → ((v : ℕ) → IsGate N v → K.label v ≡ label v) → (e : Entry) → e ∈ entries K → K.label e.root ≡ label e.root
  roots-agree K label h e m = h e.root ((key-labelled K).gate e m)

  -- **the definition's text is the one of the arrays**
  pub listed-cover : (target : ℕ) {a : Kept} → Covered plain N k target a → list_mapped (mapped N k target P) ≡ cover_text N a.period (label_at a) (entries_in a)
  unfolding list_mapped
  listed-cover target {a} c =
      let f = mapped-some plain P target c in
      let agree = roots-agree f.key (label_at a) (λ v g. label_same P f.key c.key v g ∙ c.labels v g) in
      ap (λ (m : Mapped N k). list_mapped m) f.is
      ∙ text-agree N a.period f.key.label (label_at a) (entries f.key) agree
      ∙ ap (cover_text N a.period (label_at a)) (entries_unique P f.key c.key ∙ c.same)

  pub listed-none : (target : ℕ) → 1 ≤ target → ¬ Reachable N k target → list_mapped (mapped N k target P) ≡ refusal_text 12
  unfolding list_mapped
  listed-none target h n = ap (λ (m : Mapped N k). list_mapped m) (mapped-none plain P target h n)
