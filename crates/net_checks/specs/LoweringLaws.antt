-- Laws of pins lowered, one place after the other.
use Rattle.std.specs.Prelude.{◌≡◌, refl, List, ℕ, ◌+◌, ◌-◌, ◌≤◌, ◌<◌, length, get_or, set}
use Rattle.std.proofs.Common.{sym, ap, ◌∙◌, not-suc-le-zero, arith, length-set, get_or-set_same, get_or-set_other}
use Rattle.std.proofs.Math.Decide.{ℕ_discrete}
use Rattle.net_checks.specs.Lowering.{Lowered}

pub lowered_none : (m : List ℕ) → Lowered m m 0
lowered_none m = record { size = refl; less = λ g h. absurd (not-suc-le-zero h); rest = λ g h. refl }

pub lowered-next : (m m' : List ℕ) (n : ℕ) → n < length m' → Lowered m m' n → Lowered m (set m' n (get_or m' n 0 - 1)) (n + 1)
lowered-next m m' n room l = record {
  size = length-set m' n (get_or m' n 0 - 1) ∙ l.size;
  less = λ g h. go g h (ℕ_discrete g n);
  rest = λ g h. get_or-set_other m' n g (get_or m' n 0 - 1) 0 (apart g h) ∙ l.rest g (omega arith);
}
  where
    apart : (g : ℕ) → n + 1 ≤ g → ¬ (g ≡ n)
    apart g h e = omega arith

    go : (g : ℕ) → g < n + 1 → Dec (g ≡ n) → get_or (set m' n (get_or m' n 0 - 1)) g 0 ≡ get_or m g 0 - 1
    go g h (yes e) = ap (λ (x : ℕ). get_or (set m' n (get_or m' n 0 - 1)) x 0) e ∙ get_or-set_same m' n (get_or m' n 0 - 1) 0 room ∙ ap (λ (x : ℕ). x - 1) (l.rest n (omega arith)) ∙ ap (λ (x : ℕ). get_or m x 0 - 1) (sym e)
    go g h (no d) = get_or-set_other m' n g (get_or m' n 0 - 1) 0 d ∙ l.less g (omega arith)

pub lowered-all : {m m' : List ℕ} {n k : ℕ} → n ≤ k → k ≤ n → Lowered m m' n → Lowered m m' k
lowered-all h k l = record { size = l.size; less = λ g a. l.less g (omega arith); rest = λ g a. l.rest g (omega arith) }
