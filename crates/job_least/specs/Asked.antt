-- Definitions: what the search for the least period alone asks and tells.
use Rattle.std.specs.Prelude.{◌≡◌, None, List, ℕ, ◌+◌, pos, replicate}
use Rattle.net_model.specs.Net.{Net}
use Rattle.net_model.specs.Arrays.{pins_in}
use Rattle.net_model.specs.Checks.{Passed}
use Rattle.label_theory.specs.Labels.{plain}
use Rattle.cover_theory.specs.Covers.{LeastPeriod}
use Rattle.cut_circuit.specs.declared.Extent.{Extent}
use Rattle.label_visit.specs.LabelVisits.{Suits, wiring, tops_in}
use Rattle.label_sweep.specs.Sweeps.{outs_in, delays_in}
use Rattle.job_plan.specs.Planned.{Engine}

-- the engine's table and a net's slice, with labels of 0 at first
pub record LeastAsked (s : Extent) (n : ℕ) (net : List ℕ) (k : ℕ) (t : List ℕ) : Type 0 where
  pub tables : List ℕ
  pub engine : Engine plain s n net tables k 0 t (replicate (s.inputs + s.gates) (pos 0))

-- r is the least period of every net that suits
pub record LeastTold (s : Extent) (n : ℕ) (net : List ℕ) (k r : ℕ) : Type 0 where
  pub least : (N : Net) → Suits plain (wiring s net) k (tops_in s net None) N → Passed N k → N.outputs ≡ pins_in (outs_in s net) (delays_in s net n) 0 n → LeastPeriod N k r
