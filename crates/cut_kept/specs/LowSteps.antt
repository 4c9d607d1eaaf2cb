-- A copy more that is low enough.
use Rattle.std.specs.Prelude.{◌≡◌, List, ℕ, ◌+◌, ◌/◌, ◌%◌, ℤ, get_or}
use Rattle.std.proofs.Common.{sym, subst, arith}
use Rattle.std.proofs.Math.Decide.{ℕ_discrete}
use Rattle.net_model.specs.Copies.{copy}
use Rattle.label_theory.specs.Labels.{Low}
use Rattle.cut_kept.specs.Keeping.{LowFrom}

pub low-more : (width : ℕ) (l : List ℕ) (at i φ : ℕ) (lab : ℕ → ℤ) (h : ℤ) → LowFrom width l at i φ lab h → Low φ lab h (copy (get_or l (at + i) 0 / width) (get_or l (at + i) 0 % width))
    → LowFrom width l at (i + 1) φ lab h
low-more width l at i φ lab h f z j p = go (ℕ_discrete j i)
  where
    go : Dec (j ≡ i) → Low φ lab h (copy (get_or l (at + j) 0 / width) (get_or l (at + j) 0 % width))
    go (yes e) = subst (λ (n : ℕ). Low φ lab h (copy (get_or l (at + n) 0 / width) (get_or l (at + n) 0 % width))) (sym e) z
    go (no n) = f j (omega (arith, p, n))
