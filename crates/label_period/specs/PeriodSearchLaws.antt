-- The least period by search: periods 1, 2, ... until one is reachable, or what is left by halves; the longest line of gates without registers is reachable.
use Rattle.std.specs.Prelude.{◌≡◌, refl, List, Bool, true, false, ◌⊎◌, ℕ, ◌+◌, ◌≤◌, ◌<◌, ℤ, length, get_or}
use Rattle.std.proofs.Common.{subst, inl, inr, le_trans, mul-le-mul_right, arith}
use Rattle.sequences.specs.Rising.{ℕ_cmp}
use Rattle.net_model.specs.Net.{Net}
use Rattle.net_model.specs.Arrays.{pins_in}
use Rattle.net_model.specs.Checks.{Passed}
use Rattle.label_theory.specs.Labels.{Mode, plain, ReachableIn}
use Rattle.cover_theory.specs.Covers.{LeastPeriod}
use Rattle.cover_period.specs.KeyOf.{key_of}
use Rattle.cover_period.specs.Joined.{key-met, key-suited, cover-reachable, reachable-met, met-reachable}
use Rattle.cover_period.specs.Period.{least_period_in, least-reached, none-smaller, least-some, lines_reach_in}
use Rattle.cut_circuit.specs.Circuit.{Circuit}
use Rattle.cut_circuit.specs.declared.Extent.{Extent}
use Rattle.signed.specs.Range.{label_in}
use Rattle.label_visit.specs.LabelVisits.{Suits, Ceilings}
use Rattle.label_lines.specs.Lines.{LongestTold}
use Rattle.label_sweep.specs.Sweeps.{Sized, Labelled}
use Rattle.label_period.specs.HalfSteps.{Either}
use Rattle.label_period.specs.PeriodSearch.{FirstReached, NoneBelow, Halved, Period}

-- ---- smaller periods ask less
pub sized-less : {s : Extent} {ls ls' : List ℤ} {os oc : List ℕ} {k n φ : ℕ} (ψ : ℕ) → ψ ≤ φ → length ls' ≡ length ls → Sized s ls os oc φ k n → Sized s ls' os oc ψ k n
sized-less {s} {oc = oc} ψ h e z = record {
  size = let a = z.size in omega arith;
  shift = let a = mul-le-mul_right s.width h in let b = z.shift in omega arith;
  period = let b = z.period in omega arith;
  least = z.least;
  limit = z.limit;
  fits = z.fits;
  sources = z.sources;
  counts = z.counts;
  node = z.node;
  count = λ i l. let a = mul-le-mul_right (get_or oc i 0) h in let b = z.count i l in omega arith;
}

pub ceilings-less : {C : Circuit} {tops : List ℕ} {φ : ℕ} (ψ : ℕ) → ψ ≤ φ → Ceilings C φ tops → Ceilings C ψ tops
ceilings-less {tops = tops} ψ h c = record { size = c.size; top = λ g l. let a = mul-le-mul_right (get_or tops g 0) h in let b = c.top g l in omega arith }

-- a period larger than a reachable one is reachable
reachable-more : {M : Mode} {N : Net} {k φ ψ : ℕ} → Passed N k → 1 ≤ ψ → ψ ≤ φ → ReachableIn M N k ψ → ReachableIn M N k φ
reachable-more P one le r =
    let K = key_of P r in
    cover-reachable P (le_trans one le) (key-met P one K).0 (λ i n h c. le_trans ((key-met P one K).1 i n h c) le) (key-suited P one K)

-- ---- the first period that is reachable
pub first-least : {N : Net} {k φ : ℕ} → Passed N k → FirstReached plain N k φ → LeastPeriod N k φ
first-least P f = record { positive = f.positive; met = reachable-met P f.positive f.reached; least = λ ψ a b m. f.least ψ a b (met-reachable P a m) }

pub first_unique : {M : Mode} {N : Net} {k φ : ℕ} (P : Passed N k) → FirstReached M N k φ → least_period_in P M ≡ φ
first_unique {M} {N} {k} {φ} P f = go (ℕ_cmp (least_period_in P M) φ)
  where
    go : (least_period_in P M < φ) ⊎ ((least_period_in P M ≡ φ) ⊎ (φ < least_period_in P M)) → least_period_in P M ≡ φ
    go (inl lt) = absurd (f.least (least_period_in P M) (least-some P M) lt (least-reached P M))
    go (inr (inl e)) = e
    go (inr (inr lt)) = absurd (none-smaller P M φ f.positive lt f.reached)

module _ {M : Mode} {C : Circuit} {k : ℕ} {tops os oc : List ℕ} {n : ℕ} where
  pub none_first : NoneBelow M C k tops os oc n 1
  none_first = record { below = λ ψ a b. absurd (omega (arith, a, b)) }

  -- **a period that is not reachable leaves out all up to it**
  pub none-next : {φ : ℕ} {ls : List ℤ} {b : Bool} → Labelled M C k φ tops os oc n ls b → b ≡ false → NoneBelow M C k tops os oc n (φ + 1)
  none-next l e = record { below = λ ψ a b N S P o r. l.none e N S o (reachable-more P a (omega arith) r) }

  -- the first that is reachable is the least period
  first : {φ : ℕ} → 1 ≤ φ → NoneBelow M C k tops os oc n φ → (N : Net) → Suits M C k tops N → (P : Passed N k) → N.outputs ≡ pins_in os oc 0 n → ReachableIn M N k φ → FirstReached M N k φ
  first one f N S P o r = record { positive = one; reached = r; least = λ ψ a b. f.below ψ a b N S P o }

  pub period-found : {φ : ℕ} {ls : List ℤ} {b : Bool} → 1 ≤ φ → φ ≤ C.gates → NoneBelow M C k tops os oc n φ → Labelled M C k φ tops os oc n ls b → b ≡ true → Period M C k tops os oc n ls φ
  period-found {ls = ls} one most f l e = record {
    positive = one;
    most = most;
    fine = l.fine;
    least = λ N S P o. let t = l.found e N S o in first one f N S P o (record { label = label_in ls; least = t.0; outputs = t.1 });
    labels = λ N S P o. l.found e N S o;
  }

  -- ---- by halves

  -- the longest line of gates without registers is reachable
  pub halved_first : {φ γ : ℕ} → 1 ≤ φ → NoneBelow M C k tops os oc n φ → LongestTold C φ γ → Halved M C k tops os oc n φ γ
  halved_first one f l = record {
    positive = one;
    order = l.least;
    most = l.most;
    none = f;
    reached = λ N S P o. let t = l.levels N S.holds S.loopless in lines_reach_in P t.0 _ t.1 M;
  }

  -- a period that is reachable is the new upper end
  pub halved_low : {low high φ : ℕ} {ls : List ℤ} {b : Bool} → Halved M C k tops os oc n low high → low ≤ φ → φ < high → Labelled M C k φ tops os oc n ls b → b ≡ true → Halved M C k tops os oc n low φ
  halved_low {ls = ls} h le lt l e = record {
    positive = h.positive;
    order = le;
    most = let m = h.most in omega arith;
    none = h.none;
    reached = λ N S P o. let t = l.found e N S o in record { label = label_in ls; least = t.0; outputs = t.1 };
  }

  -- behind one that is not the lower end stands
  pub halved_high : {low high φ : ℕ} {ls : List ℤ} {b : Bool} → Halved M C k tops os oc n low high → low ≤ φ → φ < high → Labelled M C k φ tops os oc n ls b → b ≡ false → Halved M C k tops os oc n (φ + 1) high
  halved_high h le lt l e = record { positive = omega arith; order = omega arith; most = h.most; none = none-next l e; reached = h.reached }

  pub halved_next : {low high φ low' high' : ℕ} {ls : List ℤ} {b : Bool} → Halved M C k tops os oc n low high → low ≤ φ → φ < high → Labelled M C k φ tops os oc n ls b
      → Either b low (φ + 1) low' → Either b φ high high' → Halved M C k tops os oc n low' high'
  halved_next {b = true} h le lt l x y = rw (x.0 refl, y.0 refl) (halved_low h le lt l refl)
  halved_next {b = false} h le lt l x y = rw (x.1 refl, y.1 refl) (halved_high h le lt l refl)

  pub halved_end : {low high : ℕ} → high ≤ low → Halved M C k tops os oc n low high → Halved M C k tops os oc n low low
  halved_end {low} {high} le h = subst (Halved M C k tops os oc n low) (let o = h.order in let e : high ≡ low = omega arith in e) h

  -- **what is left by halves is the least period**
  pub period-last : {φ : ℕ} {ls : List ℤ} {b : Bool} → Halved M C k tops os oc n φ φ → Labelled M C k φ tops os oc n ls b → Period M C k tops os oc n ls φ
  period-last {φ} {ls} {b} h l = go b refl
    where
      last : b ≡ false → (N : Net) → Suits M C k tops N → Passed N k → N.outputs ≡ pins_in os oc 0 n → ⊥
      last e N S P o = l.none e N S o (h.reached N S P o)

      go : (t : Bool) → b ≡ t → Period M C k tops os oc n ls φ
      go true e = period-found h.positive h.most h.none l e
      go false e = record { positive = h.positive; most = h.most; fine = l.fine; least = λ N S P o. absurd (last e N S P o); labels = λ N S P o. absurd (last e N S P o) }
