-- The reader of a cover record in stages: the same reader, each part with what comes behind it.
use Rattle.std.specs.Prelude.{◌≡◌, refl, Bool, List, ℕ, ◌≤◌}
use Rattle.std.proofs.Common.{sym, ap, ap₂, ◌∙◌}
use Rattle.limits.specs.declared.Rules.{Rules}
use Rattle.net_model.specs.Net.{Net, size}
use Rattle.cover_theory.specs.Key.{Entry}
use Rattle.net_bytes.specs.Reading.{Result, Reader, and_then, ◌>>=◌, give, at_end, between, got, refused}
use Rattle.net_bytes.specs.Readers.{got-value, then-got, then-goes, then-stops, number-got}
use Rattle.net_bytes.specs.Sound.{between-true}
use Rattle.cover_records.specs.CoverBytes.{Record, cover_number, luts_reader, lead_reader, behind_front, cover_reader}

-- ---- what stands before the LUTs

-- the period and the LUT count
pub record Front : Type 0 where
  pub period : ℕ
  pub luts : ℕ

abbrev pub front : ℕ → ℕ → Front
front period n = record { period = period; luts = n }

abbrev pub front_reader : Rules → Reader Front
front_reader R = behind_front R λ period n. give (front period n)

module _ {A : Type 0} (R : Rules) (f : ℕ → ℕ → Reader A) (s : List ℕ) where
  -- reading behind the front is reading the front, then the rest
  front-then : and_then (front_reader R s) (λ a. f a.period a.luts) ≡ behind_front R f s
  front-then = one (lead_reader R.wide s)
    where
      low : Reader ℕ
      low = cover_number R.wide (between 1 R.period)

      high : Reader ℕ
      high = cover_number R.wide (between 1 R.luts)

      three : (period : ℕ) (x : Result ℕ) → and_then (and_then x (λ n. give (front period n))) (λ a. f a.period a.luts) ≡ and_then x (f period)
      three period (got n t) = refl
      three period (refused n) = refl

      two : (x : Result ℕ) → and_then (and_then x (λ period. high >>= λ n. give (front period n))) (λ a. f a.period a.luts) ≡ and_then x (λ period. high >>= f period)
      two (got period t) = three period (high t)
      two (refused n) = refl

      one : (x : Result ℕ) → and_then (and_then x (λ lead. low >>= λ period. high >>= λ n. give (front period n))) (λ a. f a.period a.luts)
          ≡ and_then x (λ lead. low >>= λ period. high >>= f period)
      one (got lead t) = two (low t)
      one (refused n) = refl

  pub front_goes : {a : Front} {t : List ℕ} → front_reader R s ≡ got a t → behind_front R f s ≡ f a.period a.luts t
  front_goes e = sym front-then ∙ then-goes (λ a. f a.period a.luts) e

  pub front-stops : {n : ℕ} → front_reader R s ≡ refused n → behind_front R f s ≡ refused n
  front-stops e = sym front-then ∙ then-stops (λ a. f a.period a.luts) e

  -- where the rest was read, so was the front
  pub front-got : (b : A) (t : List ℕ) → behind_front R f s ≡ got b t → (a : Front) × (u : List ℕ) × (front_reader R s ≡ got a u) × (f a.period a.luts u ≡ got b t)
  front-got b t e = then-got (front_reader R s) (λ a. f a.period a.luts) b t (front-then ∙ e)

pub got-rest : {A : Type 0} (a : A) (s : List ℕ) (b : A) (t : List ℕ) → got a s ≡ got b t → s ≡ t
got-rest a s b t e = cc

-- the parts of a front that was read
pub front-parts : (R : Rules) (s : List ℕ) (a : Front) (t : List ℕ) → front_reader R s ≡ got a t
    → (lead : ℕ) × (s1 s2 : List ℕ) × (lead_reader R.wide s ≡ got lead s1) × (cover_number R.wide (between 1 R.period) s1 ≡ got a.period s2)
    × (cover_number R.wide (between 1 R.luts) s2 ≡ got a.luts t)
front-parts R s a t e =
    let x = then-got (lead_reader R.wide s) from_lead a t e in
    let y = then-got (low x.1) from_period a t x.3 in
    let z = then-got (high y.1) (λ n. give (front y.0 n)) a t y.3 in
    let is : ◌≡◌ {A = Front} (front y.0 z.0) a = got-value (front y.0 z.0) z.1 a t z.3 in
    let end : z.1 ≡ t = got-rest (front y.0 z.0) z.1 a t z.3 in
    (x.0, x.1, y.1, x.2, y.2 ∙ ap (λ (b : Front). got b.period y.1) is, z.2 ∙ ap₂ (λ (b : Front) (u : List ℕ). got b.luts u) is end)
  where
    low : Reader ℕ
    low = cover_number R.wide (between 1 R.period)

    high : Reader ℕ
    high = cover_number R.wide (between 1 R.luts)

    from_period : ℕ → Reader Front
    from_period period = high >>= λ n. give (front period n)

    from_lead : ℕ → Reader Front
    from_lead lead = low >>= from_period

-- are in their ranges
pub front_ranges : (R : Rules) (s : List ℕ) (a : Front) (t : List ℕ) → front_reader R s ≡ got a t
    → (1 ≤ a.period) × (a.period ≤ R.period) × (1 ≤ a.luts) × (a.luts ≤ R.luts)
front_ranges R s a t e =
    let x = front-parts R s a t e in
    let p = between-true 1 R.period a.period (number-got R.wide 13 13 (between 1 R.period) x.1 a.period x.2 x.4) in
    let n = between-true 1 R.luts a.luts (number-got R.wide 13 13 (between 1 R.luts) x.2 a.luts t x.5) in
    (p.0, p.1, n.0, n.1)

-- ---- the record

abbrev pub from_luts : ℕ → List Entry → Reader Record
from_luts period es = at_end 13 (record { period = period; entries = es })

abbrev pub from_front : Rules → ℕ → ℕ → ℕ → ℕ → ℕ → Reader Record
from_front R nodes k I period n = luts_reader R.wide nodes k n I >>= from_luts period

pub cover_stages : (R : Rules) (N : Net) (k : ℕ) (s : List ℕ) → cover_reader R N k s ≡ behind_front R (from_front R (size N) k N.inputs) s
unfolding cover_reader
cover_stages R N k s = refl
