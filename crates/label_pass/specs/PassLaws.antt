-- Visits joined to sweeps, and sweeps one after another.
use Rattle.std.specs.Prelude.{◌≡◌, refl, Bool, true, false, List, Result, Ok, Err, ℕ, ◌+◌, ◌≤◌, ◌<◌, ℤ, get_or}
use Rattle.std.proofs.lemmas.Result.{IfOk-weaker, on_err_weaker}
use Rattle.std.proofs.Common.{sym, ap, ◌∙◌, subst, arith}
use Rattle.std.proofs.Math.Decide.{ℕ_discrete, dec_lt}
use Rattle.label_theory.specs.Labels.{Mode}
use Rattle.cut_circuit.specs.Circuit.{Circuit}
use Rattle.label_visit.specs.declared.PastCeiling.{PastCeiling}
use Rattle.label_visit.specs.LabelVisits.{Quiet, Fine, Visited}
use Rattle.label_visit.specs.BoundLaws.{kept_same, kept_then, kept-bounds}
use Rattle.label_pass.specs.Passes.{IfRose, QuietFrom, Sweep, SweepTold, Progress}

-- nothing stands behind all gates
pub quiet_none : (M : Mode) (δ : ℕ) (C : Circuit) (k φ : ℕ) (tops order : List ℕ) (ls : List ℤ) → QuietFrom M δ C k φ tops order ls C.gates
quiet_none M δ C k φ tops order ls i h m = absurd (omega (arith, h, m))

module _ {M : Mode} {δ : ℕ} {C : Circuit} {k φ : ℕ} {tops order : List ℕ} where
  pub sweep-none : {ls : List ℤ} {stop : ℕ} → Fine C ls → stop ≤ C.gates → QuietFrom M δ C k φ tops order ls stop → Sweep M δ C k φ tops order ls ls 0 stop 0
  sweep-none f l q = record {
    ends = l;
    place = omega arith;
    behind = omega arith;
    fine = f;
    keeps = kept_same _;
    same = λ e. refl;
    quiet = λ i h l'. absurd (omega (arith, l'));
    rest = q;
    less = omega arith;
    falls = λ e. absurd (omega (arith, e));
  }

  -- a gate whose label rose
  pub sweep-rise : {ls ls' ls'' : List ℤ} {n end last end' last' : ℕ} {e : Bool} → n < end → Sweep M δ C k φ tops order ls ls' n end last → Visited M δ C k φ tops ls' ls'' (get_or order n 0) (Ok e)
      → e ≡ true → last' ≡ n + 1 → end' ≡ C.gates → Sweep M δ C k φ tops order ls ls'' (n + 1) end' last'
  sweep-rise {n = n} {end} {last} {end'} {last'} l s v z a b = record {
    ends = omega arith;
    place = let h = s.ends in omega arith;
    behind = omega arith;
    fine = v.fine;
    keeps = kept_then s.keeps v.keeps;
    same = λ q. absurd (omega (arith, q, a));
    quiet = λ i h m. absurd (omega (arith, h, m, a));
    rest = λ i h m. absurd (omega (arith, h, m, b));
    less = let g = s.less in let h = v.less in omega arith;
    falls = λ q. let g = s.less in let h = v.falls (ap Ok z) in omega arith;
  }

  -- a gate at which nothing can change
  pub sweep-still : {ls ls' ls'' : List ℤ} {n end last end' last' : ℕ} {e : Bool} → n < end → Sweep M δ C k φ tops order ls ls' n end last → Visited M δ C k φ tops ls' ls'' (get_or order n 0) (Ok e)
      → e ≡ false → last' ≡ last → end' ≡ end → Sweep M δ C k φ tops order ls ls'' (n + 1) end' last'
  sweep-still {ls} {ls'} {ls''} {n} {end} {last} {end'} {last'} l s v z a b = record {
    ends = let h = s.ends in omega arith;
    place = omega arith;
    behind = let h = s.behind in omega arith;
    fine = v.fine;
    keeps = kept_then s.keeps v.keeps;
    same = λ q. v.same (ap Ok z) ∙ s.same (omega (arith, q, a));
    quiet = λ i h m. now-quiet i (quiet i (omega (arith, h, a)) m (ℕ_discrete i n));
    rest = λ i h m. now-quiet i (s.rest i (omega (arith, h, b)) m);
    less = let g = s.less in let h = v.less in omega arith;
    falls = λ q. let g = s.falls (omega (arith, q, a)) in let h = v.less in omega arith;
  }
    where
      now-quiet : (i : ℕ) → Quiet M δ C k φ tops ls' (get_or order i 0) → Quiet M δ C k φ tops ls'' (get_or order i 0)
      now-quiet i q = subst (λ (x : List ℤ). Quiet M δ C k φ tops x (get_or order i 0)) (sym (v.same (ap Ok z))) q

      quiet : (i : ℕ) → last ≤ i → i < n + 1 → Dec (i ≡ n) → Quiet M δ C k φ tops ls' (get_or order i 0)
      quiet i h m (yes q) = rw q (v.quiet (ap Ok z))
      quiet i h m (no q) = s.quiet i h (omega arith)

  -- one more gate
  pub sweep-next : {ls ls' ls'' : List ℤ} {n end last end' last' : ℕ} {e : Bool} → n < end → Sweep M δ C k φ tops order ls ls' n end last → Visited M δ C k φ tops ls' ls'' (get_or order n 0) (Ok e)
      → IfRose e (n + 1) last last' → IfRose e C.gates end end' → Sweep M δ C k φ tops order ls ls'' (n + 1) end' last'
  sweep-next {e = true} l s v a b = sweep-rise l s v refl (a.0 refl) (b.0 refl)
  sweep-next {e = false} l s v a b = sweep-still l s v refl (a.1 refl) (b.1 refl)

  -- the end of the sweep is reached
  pub swept_end : {ls ls' : List ℤ} {n end last : ℕ} → end ≤ n → Sweep M δ C k φ tops order ls ls' n end last → SweepTold M δ C k φ tops order ls ls' (Ok last)
  swept_end {ls} {ls'} {n} {end} {last} l s = record {
    progress = record {
      most = let a = s.ends in let b = s.place in let d = s.behind in omega arith;
      fine = s.fine;
      keeps = s.keeps;
      quiet = λ i m w. quiet i m w (dec_lt i end);
      less = s.less;
      falls = s.falls;
      refuted = tt;
    };
    same = λ h. s.same (cc);
  }
    where
      quiet : (i : ℕ) → last ≤ i → i < C.gates → Dec (i < end) → Quiet M δ C k φ tops ls' (get_or order i 0)
      quiet i m w (yes q) = s.quiet i m (omega arith)
      quiet i m w (no q) = s.rest i (omega arith) w

  -- a label would pass its ceiling
  pub swept-past : {ls ls' ls'' : List ℤ} {n end last g : ℕ} {e : PastCeiling} → Sweep M δ C k φ tops order ls ls' n end last → Visited M δ C k φ tops ls' ls'' g (Err e)
      → SweepTold M δ C k φ tops order ls ls'' (Err e)
  swept-past s v = record {
    progress = record {
      most = tt;
      fine = v.fine;
      keeps = kept_then s.keeps v.keeps;
      quiet = tt;
      less = let a = s.less in let b = v.less in omega arith;
      falls = tt;
      refuted = λ b. v.refuted (kept-bounds s.keeps b);
    };
    same = λ q. cc;
  }

  -- **sweeps one after another**
  pub progress-then : {ls ls' ls'' : List ℤ} {r t : Result ℕ PastCeiling} → Progress M δ C k φ tops order ls ls' r → Progress M δ C k φ tops order ls' ls'' t → Progress M δ C k φ tops order ls ls'' t
  progress-then {ls} {ls'} {ls''} {t = t} a b = record {
    most = b.most;
    fine = b.fine;
    keeps = kept_then a.keeps b.keeps;
    quiet = b.quiet;
    less = let x = a.less in let y = b.less in omega arith;
    falls = IfOk-weaker t _ _ (λ n f l. let x = a.less in let y = f l in omega arith) b.falls;
    refuted = on_err_weaker t (λ f c. f (kept-bounds a.keeps c)) b.refuted;
  }

  -- where the next sweep may end
  pub next-sweep : {ls ls' : List ℤ} {t : ℕ} → Progress M δ C k φ tops order ls ls' (Ok t) → (t ≤ C.gates) × QuietFrom M δ C k φ tops order ls' t
  next-sweep p = (p.most, p.quiet)
