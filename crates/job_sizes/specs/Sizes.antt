-- Definitions: checks 1, 2 and 3 under rules R, by the lengths of the areas; an area that may be lent.
use Rattle.std.specs.Prelude.{◌≡◌, cond, not, ◌||◌, ◌&&◌, ℕ, ◌≤◌, ltb, Result, Ok, Err}
use Rattle.limits.specs.Limits.{least_k}
use Rattle.limits.specs.declared.Rules.{Rules}
use Rattle.net_bytes.specs.Reading.{between}

-- the first of 1, 2 and 3 that fails, 0 if none does; mapSizes and markSizes are made of it
unfoldable pub sizes_of : Rules → ℕ → ℕ → ℕ → ℕ → ℕ
sizes_of R k target area scratch =
    cond (not (between least_k R.most k)) 1 (cond (ltb R.period target) 2 (cond (ltb area R.area || ltb scratch R.scratch) 3 0))

-- all three pass
pub record Fit (R : Rules) (k target area scratch : ℕ) : Type 0 where
  pub low : least_k ≤ k
  pub high : k ≤ R.most
  pub near : target ≤ R.period
  pub room : R.area ≤ area
  pub space : R.scratch ≤ scratch

-- the number where an area of this length is lent and has fewer bytes than it must, else 0
unfoldable pub lent_size : ℕ → ℕ → ℕ → ℕ
lent_size least number n = cond (ltb 0 n && ltb n least) number 0

-- an area that is not lent, or long enough
abbrev pub LentFits : ℕ → ℕ → Type 0
LentFits least n = ¬ (n ≡ 0) → least ≤ n

-- 0 where nothing is told, else the number of what is
abbrev pub code_by : {A E : Type 0} → (E → ℕ) → Result A E → ℕ
code_by number (Ok a) = 0
code_by number (Err e) = number e
