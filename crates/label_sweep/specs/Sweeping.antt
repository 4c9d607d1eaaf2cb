-- Sweeps joined until nothing can change.
use Rattle.std.specs.Prelude.{◌≡◌, List, Ok, Err, ℕ, ◌+◌, ◌%◌, ◌≤◌, ◌<◌, min, ℤ}
use Rattle.std.proofs.Common.{subst, arith}
use Rattle.std.proofs.Math.Decide.{ℕ_discrete}
use Rattle.label_theory.specs.Labels.{Mode}
use Rattle.cut_circuit.specs.Circuit.{Circuit}
use Rattle.label_visit.specs.declared.PastCeiling.{PastCeiling}
use Rattle.label_visit.specs.LabelVisits.{Quiet, Fine, left}
use Rattle.label_visit.specs.BoundLaws.{kept-bounds}
use Rattle.label_pass.specs.Passes.{Progress}
use Rattle.label_pass.specs.PassLaws.{quiet_none}
use Rattle.label_sweep.specs.Sweeps.{Ordered, Swept, SettleTold}

-- what is left falls with each sweep that is followed by another, and the last one ends
pub fallen : {a b : ℕ} (r : ℕ) → r ≤ 2 → (q : ℕ) → q ≡ 1 → b ≤ a → (r ≡ 1 → b < a) → b + r % 2 < a + q % 2
fallen {a} {b} r h q e l f = go (ℕ_discrete r 1)
  where
    go : Dec (r ≡ 1) → b + r % 2 < a + q % 2
    go (yes z) = let d = f z in omega arith
    go (no z) = omega arith

module _ {M : Mode} {δ : ℕ} {C : Circuit} {k φ : ℕ} {tops order : List ℕ} where
  pub swept-first : {ls : List ℤ} → Fine C ls → Swept M δ C k φ tops order ls ls C.gates
  swept-first {ls} f = record { fine = f; bounds = λ b. b; place = omega arith; rest = quiet_none M δ C k φ tops order ls }

  pub swept-next : {ls ls' ls'' : List ℤ} {q r : ℕ} → Swept M δ C k φ tops order ls ls' q → Progress M δ C k φ tops order ls' ls'' (Ok r) → Swept M δ C k φ tops order ls ls'' r
  swept-next a s = record { fine = s.fine; bounds = λ b. kept-bounds s.keeps (a.bounds b); place = s.most; rest = s.quiet }

  -- **what is left falls with each sweep that is followed by another, and the last one ends**
  pub swept-falls : {ls ls' : List ℤ} {q r : ℕ} → 0 < q → Progress M δ C k φ tops order ls ls' (Ok r) → left C φ tops ls' C.gates + min r 1 < left C φ tops ls C.gates + min q 1
  swept-falls {ls} {ls'} {q} {r} h s = go (ℕ_discrete r 0)
    where
      go : Dec (r ≡ 0) → left C φ tops ls' C.gates + min r 1 < left C φ tops ls C.gates + min q 1
      go (yes z) = let a = s.less in omega arith
      go (no z) = let a = s.falls (omega arith) in omega arith

  -- **all gates are quiet after a sweep in which no label rose**
  pub swept_end : {ls ls' : List ℤ} {q : ℕ} → Ordered C order → Swept M δ C k φ tops order ls ls' q → q ≤ 0 → SettleTold M δ C k φ tops ls ls' (Ok tt)
  swept_end {ls} {ls'} o a h = record {
    fine = a.fine;
    bounds = a.bounds;
    quiet = λ g l. let t = o.all g l in subst (Quiet M δ C k φ tops ls') t.2 (a.rest t.0 (omega arith) t.1);
    refuted = tt;
  }

  pub swept-past : {ls ls' ls'' : List ℤ} {q : ℕ} {e : PastCeiling} → Swept M δ C k φ tops order ls ls' q → Progress M δ C k φ tops order ls' ls'' (Err e) → SettleTold M δ C k φ tops ls ls'' (Err e)
  swept-past a s = record { fine = s.fine; bounds = λ b. kept-bounds s.keeps (a.bounds b); quiet = tt; refuted = λ b. s.refuted (a.bounds b) }
