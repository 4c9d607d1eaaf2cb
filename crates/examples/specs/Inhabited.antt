-- Each notion that a theorem supposes has an example, so none of the statements is empty.
use Rattle.std.specs.Prelude.{◌≡◌, refl, Bool, false, List, [], ◌∷◌, ℕ, ◌≤◌, ◌<◌}
use Rattle.std.proofs.Common.{sym, subst, arith}
use Rattle.net_model.specs.Net.{Net, IsGate, gate}
use Rattle.net_model.specs.Checks.{Passed}
use Rattle.net_model.specs.Runs.{Run, gate_at}
use Rattle.net_model.specs.Tables.{apply, bit}
use Rattle.cone_theory.specs.ChecksDecided.{passed?}
use Rattle.label_theory.specs.Labels.{Reachable}
use Rattle.cover_theory.specs.Covers.{Met, LeastPeriod}
use Rattle.cover_period.specs.Joined.{key_meets, key-reachable}
use Rattle.cover_theory.specs.Key.{Key, entries}
use Rattle.cover_records.specs.CoverBytes.{Record}
use Rattle.demands.specs.Right.{RightRecord}
use Rattle.demands.proofs.Demand2.{key_right}
use Rattle.examples.specs.Plan.{given}
use Rattle.examples.specs.Nets.{net_a, net_c}
use Rattle.examples.specs.Marked.{marked_examples}

-- net A passed checks 6, 7, 9, 10 and 11 for k 3
pub passed-A : Passed net_a 3
unfolding passed? gate
passed-A = given (passed? net_a 3) tt

-- it has a written cover for target 1, so the target is reachable, some cover meets it, and it is the least period
pub key-A : Key net_a 3 1
key-A = marked_examples.A-k3.key

pub reachable-A : Reachable net_a 3 1
reachable-A = key-reachable passed-A (omega arith) key-A

pub met-A : Met net_a 3 1
met-A = key_meets passed-A (omega arith) key-A

pub least-A : LeastPeriod net_a 3 1
least-A = record { positive = omega arith; met = met-A; least = λ ψ h l. absurd (none ψ h l) }
  where
    none : (ψ : ℕ) → 1 ≤ ψ → ψ < 1 → ⊥
    none ψ h l = omega arith

-- the record of that cover is right
pub right-A : RightRecord net_a 3 (record { period = 1; entries = entries key-A })
right-A = key_right passed-A (omega arith) key-A

-- a run of net C: every value is 0
pub run-C : Run net_c (λ u t. false)
run-C = record { obeys = λ v t g f. at v t (only v g) }
  where
    only : (v : ℕ) → IsGate net_c v → v ≡ 2
    only v g = let l : 2 ≤ v = g.low in let h : v < 3 = g.high in omega arith

    at : (v t : ℕ) → v ≡ 2 → false ≡ gate_at net_c (λ u s. false) v t
    at v t e = subst (λ (x : ℕ). false ≡ gate_at net_c (λ u s. false) x t) (sym e) (unfold gate in refl)
