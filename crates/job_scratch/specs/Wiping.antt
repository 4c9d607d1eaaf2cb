-- Clearing, one byte at a time.
use Rattle.std.specs.Prelude.{◌≡◌, refl, List, [], ◌∷◌, ◌++◌, ℕ, zero, suc, ◌+◌, ◌<◌, length, set, drop, replicate}
use Rattle.std.proofs.Common.{sym, ap, ◌∙◌, subst, not-suc-le-zero, le_of_suc-le-suc, add-one}
use Rattle.cover_records.specs.Outcomes.{cleared}

-- the first i bytes are 0, the rest is as it was
abbrev pub Wiped : ℕ → List ℕ → List ℕ → Type 0
Wiped i s s' = s' ≡ cleared i s

pub wiped-none : (s : List ℕ) → Wiped 0 s s
unfolding cleared
wiped-none s = refl

step : (i : ℕ) (s : List ℕ) → i < length s → set (replicate i 0 ++ drop i s) i 0 ≡ replicate (suc i) 0 ++ drop (suc i) s
step i [] h = absurd (not-suc-le-zero h)
step zero (x ∷ s) h = refl
step (suc i) (x ∷ s) h = ap (λ (l : List ℕ). 0 ∷ l) (step i s (le_of_suc-le-suc h))

pub wiped-next : (i : ℕ) (s s' : List ℕ) → i < length s → Wiped i s s' → Wiped (i + 1) s (set s' i 0)
unfolding cleared
wiped-next i s s' h e = subst (λ (n : ℕ). set s' i 0 ≡ replicate n 0 ++ drop n s) (sym (add-one i)) (ap (λ (l : List ℕ). set l i 0) e ∙ step i s h)

pub wiped-at : (i j : ℕ) (s s' : List ℕ) → i ≡ j → Wiped i s s' → Wiped j s s'
wiped-at i j s s' e w = subst (λ (n : ℕ). Wiped n s s') e w
