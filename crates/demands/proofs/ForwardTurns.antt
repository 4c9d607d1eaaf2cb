-- Laws of E6's checks: whose turn comes first, and what fails.
use Rattle.std.specs.Prelude.{◌≡◌, refl, List, ◌⊎◌, ℕ, ◌*◌, ◌≤◌, ◌<◌, ltb, length}
use Rattle.std.proofs.Common.{sym, ap, ◌∙◌, inl, inr, arith, lt-ltb, ltb-true, ne_eqb}
use mathlib.Core.Bool.{Bool, true, false, cond, ◌&&◌}
use Rattle.std.proofs.Math.Decide.{ℕ_discrete, dec_le}
use Rattle.limits.specs.Limits.{contents_area, cover_area, loader_area, most_period, scratch_area}
use Rattle.net_model.specs.Net.{Net}
use Rattle.net_bytes.specs.Walk.{Drawn}
use Rattle.cover_theory.specs.Forward.{ForwardMet}
use Rattle.cover_records.specs.LoaderImage.{is_lent}
use Rattle.cover_records.specs.Outcomes.{fails}
use Rattle.demands.specs.TurnedBack.{IsNet, NetFails, Outside}
use Rattle.demands.proofs.OrderLaws.{net-range}
use Rattle.demands.specs.BenchRun.{IsDrawn}
use Rattle.demands.specs.ForwardMap.{ForwardCall, ForwardFails, turn, FirstInTurn, OfForward}

-- ---- turns

even : (m : ℕ) → ¬ (m ≡ 20) → turn m ≡ 2 * m
unfolding turn
even m n = ap (λ (b : Bool). cond b 7 (2 * m)) (ne_eqb m 20 n)

pub turn_20 : turn 20 ≡ 7
unfolding turn
turn_20 = refl

pub turn_low : (m : ℕ) → m < 20 → turn m ≡ 2 * m
turn_low m h = even m (λ e. omega arith)

pub turn-high : (m : ℕ) → 20 < m → turn m ≡ 2 * m
turn-high m h = even m (λ e. omega arith)

pub turn_one : (m n : ℕ) → turn m ≡ turn n → m ≡ n
turn_one m n e = go (ℕ_discrete m 20) (ℕ_discrete n 20)
  where
    go : Dec (m ≡ 20) → Dec (n ≡ 20) → m ≡ n
    go (yes p) (yes q) = p ∙ sym q
    go (no p) (no q) = omega (arith, even m p, even n q, e)
    go (yes p) (no q) = absurd (omega (arith, ap turn p, turn_20, even n q, e))
    go (no p) (yes q) = absurd (omega (arith, ap turn q, turn_20, even m p, e))

pub first_of : {Fails : ℕ → Type 0} {n : ℕ} → Fails n → ((m : ℕ) → Fails m → turn n ≤ turn m) → FirstInTurn Fails n
first_of f l = record { fails = f; none = λ m h g. let b = l m g in omega arith }

pub first_one : {Fails : ℕ → Type 0} {m n : ℕ} → FirstInTurn Fails m → FirstInTurn Fails n → m ≡ n
first_one {Fails} {m} {n} a b = go (dec_le (turn m) (turn n)) (dec_le (turn n) (turn m))
  where
    go : Dec (turn m ≤ turn n) → Dec (turn n ≤ turn m) → m ≡ n
    go (no h) y = absurd (a.none n (omega arith) b.fails)
    go (yes h) (no y) = absurd (b.none m (omega arith) a.fails)
    go (yes h) (yes y) = turn_one m n (omega arith)

-- ---- areas that are lent

pub both_true : (a b : Bool) → a && b ≡ true → (a ≡ true) × (b ≡ true)
both_true true b e = (refl, e)
both_true false b e = absurd (mathlib.Core.Bool.true≢false (sym e))

pub lent-short : (l : List ℕ) (n : ℕ) → is_lent l && ltb (length l) n ≡ true → (0 < length l) × (length l < n)
lent-short l n e = let t = both_true (is_lent l) (ltb (length l) n) e in (ltb-true 0 (length l) t.0, ltb-true (length l) n t.1)

pub short-lent : (l : List ℕ) (n : ℕ) → 0 < length l → length l < n → is_lent l && ltb (length l) n ≡ true
short-lent l n a b = rw (lt-ltb 0 (length l) a) (lt-ltb (length l) n b)

-- ---- what fails

module _ (c : ForwardCall) where
  abbrev pub Bad : ℕ → Type 0
  Bad = ForwardFails c

  abbrev pub Short : Type 0
  Short = (length c.area < cover_area) ⊎ (length c.scratch < scratch_area)

  pub least : (t : ℕ) → (Outside c.k → t ≤ 2) → (most_period < c.target → t ≤ 4) → (Short → t ≤ 6) → (0 < length c.contents → length c.contents < contents_area → t ≤ 6)
      → (0 < length c.loader → length c.loader < loader_area → t ≤ 7) → ((m : ℕ) → NetFails c.k c.net m → t ≤ 2 * m)
      → (0 < length c.contents → (d : Drawn) → IsDrawn c.k c.net d → length d.section ≡ 0 → t ≤ 42)
      → ((N : Net) → IsNet c.k c.net N → ¬ (c.target ≡ 0) → ¬ ForwardMet N c.k c.target → t ≤ 44) → (m : ℕ) → Bad m → t ≤ turn m
  least t a b s w l d e u m (ForwardFails.outside f q) = omega (arith, a f, turn_low m (omega arith))
  least t a b s w l d e u m (ForwardFails.above f q) = omega (arith, b f, turn_low m (omega arith))
  least t a b s w l d e u m (ForwardFails.room f q) = omega (arith, s (inl f), turn_low m (omega arith))
  least t a b s w l d e u m (ForwardFails.space f q) = omega (arith, s (inr f), turn_low m (omega arith))
  least t a b s w l d e u m (ForwardFails.of_net f) = let r = net-range c.k c.net m f in omega (arith, d m f, turn_low m (omega (arith, r.1)))
  least t a b s w l d e u m (ForwardFails.small f g q) = omega (arith, w f g, turn_low m (omega arith))
  least t a b s w l d e u m (ForwardFails.load f g q) = omega (arith, l f g, ap turn q, turn_20)
  least t a b s w l d e u m (ForwardFails.sectionless f x i z q) = omega (arith, e f x i z, turn-high m (omega arith))
  least t a b s w l d e u m (ForwardFails.unmet N i t' f q) = omega (arith, u N i t' f, turn-high m (omega arith))

  pub range : (n : ℕ) → Bad n → OfForward n
  range n (ForwardFails.outside f q) = inl (omega arith, omega arith)
  range n (ForwardFails.above f q) = inl (omega arith, omega arith)
  range n (ForwardFails.room f q) = inl (omega arith, omega arith)
  range n (ForwardFails.space f q) = inl (omega arith, omega arith)
  range n (ForwardFails.of_net f) = let r = net-range c.k c.net n f in inl (omega (arith, r.0), r.1)
  range n (ForwardFails.small f g q) = inl (omega arith, omega arith)
  range n (ForwardFails.load f g q) = inr (omega arith, omega arith)
  range n (ForwardFails.sectionless f x i z q) = inr (omega arith, omega arith)
  range n (ForwardFails.unmet N i t f q) = inr (omega arith, omega arith)

  -- no turn comes after 44
  pub turned : (n : ℕ) → Bad n → turn n ≤ 44
  turned n f = go (range n f) (ℕ_discrete n 20)
    where
      go : OfForward n → Dec (n ≡ 20) → turn n ≤ 44
      go r (yes e) = omega (arith, ap turn e, turn_20)
      go (inl r) (no m) = omega (arith, even n m, r.1)
      go (inr r) (no m) = omega (arith, even n m, r.1)

  pub none_of : ((m : ℕ) → Bad m → 45 ≤ turn m) → (m : ℕ) → ¬ Bad m
  none_of l m f = omega (arith, l m f, turned m f)
