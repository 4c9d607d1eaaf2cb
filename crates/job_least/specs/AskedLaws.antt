-- From a net read and checked to the search for the least period, and back.
use Rattle.std.specs.Prelude.{◌≡◌, None, refl, List, ℕ, ◌+◌, ◌*◌, ℤ, pos, length, replicate}
use Rattle.std.proofs.Common.{ap, ◌∙◌}
use Rattle.std.proofs.lemmas.List.{length-replicate}
use Rattle.limits.specs.Limits.{most_pins, most_table}
use Rattle.net_model.specs.Arrays.{net_in}
use Rattle.net_reader.specs.ReadAnswer.{arrays_of}
use Rattle.net_reader.specs.declared.NetSizes.{NetSizes}
use Rattle.label_theory.specs.Labels.{plain}
use Rattle.cover_theory.specs.Covers.{LeastPeriod}
use Rattle.cut_circuit.specs.PinLinks.{LinkedIn}
use Rattle.cut_circuit.specs.declared.Extent.{Extent}
use Rattle.label_visit.specs.LabelVisits.{wiring, tops_in}
use Rattle.label_period.specs.PeriodSearchLaws.{first-least}
use Rattle.job_plan.specs.Counts.{ExtentOf}
use Rattle.job_plan.specs.Found.{PeriodAsked, Found}
use Rattle.label_sweep.specs.Sweeps.{outs_in, delays_in}
use Rattle.job_plan.specs.Planned.{Planning}
use Rattle.job_plan.specs.Ready.{planned-engine, planned-suits, planned-outputs}
use Rattle.job_least.specs.Asked.{LeastAsked, LeastTold}

module _ {k : ℕ} {z : NetSizes} {net ts : List ℕ} (p : Planning k 0 z net ts) {s : Extent} (x : ExtentOf z net k s) where
  pub plan_asked : LinkedIn (z.inputs + z.gates) z.gates net (most_pins * z.gates) → (t : List ℕ) → t ≡ replicate most_table 0 → LeastAsked s z.outputs net k t
  plan_asked linked t e = record {
    tables = ts;
    engine = planned-engine p x plain linked t e (replicate (s.inputs + s.gates) (pos 0))
        (length-replicate (s.inputs + s.gates) (pos 0) ∙ ap (λ (y : Extent). y.inputs + y.gates) x.is);
  }

  pub plan_told : {r : ℕ} → LeastTold s z.outputs net k r → LeastPeriod (net_in (arrays_of z net ts)) k r
  plan_told t = t.least (net_in (arrays_of z net ts)) (planned-suits p x plain) p.passed (planned-outputs p x)

-- labels of the same length are asked for in the same way
pub asked-labels : {s : Extent} {net : List ℕ} {ls : List ℤ} {tops order os oc : List ℕ} {n target k : ℕ} (ls' : List ℤ) → length ls' ≡ length ls
    → PeriodAsked s net ls tops order os oc n target k → PeriodAsked s net ls' tops order os oc n target k
asked-labels ls' e p = let z = p.sized in record {
  sized = record {
    size = e ∙ z.size;
    shift = z.shift;
    period = z.period;
    least = z.least;
    limit = z.limit;
    fits = z.fits;
    sources = z.sources;
    counts = z.counts;
    node = z.node;
    count = z.count;
  };
  ordered = p.ordered;
  ceilings = p.ceilings;
  some = p.some;
  few = p.few;
  near = p.near;
}

-- the least period found is told
pub period-told : {s : Extent} {n : ℕ} {net : List ℕ} {k : ℕ} {ls : List ℤ} {r : ℕ} → Found plain (wiring s net) k 0 (tops_in s net None) (outs_in s net) (delays_in s net n) n ls r → LeastTold s n net k r
period-told q = record { least = λ N S P o. first-least P (q.least refl N S P o) }
