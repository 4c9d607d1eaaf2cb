use mathlib.Core.Path.{refl, sym, ◌∙◌}
use Prim.Native.Nat.{◌+◌, ◌≤◌}
use native.Mathlib.Omega.{arith}
use lib.IntN.{pos}
use lib.ListN.{length, take, replicate, length-replicate}
use lib.Seq.{length-take-le}
use Rattle.limits.specs.Limits.{most_nodes}
use Rattle.label_period.specs.PeriodSearchLaws.{sized-less, ceilings-less}
use Rattle.job_plan.specs.Engines.{engine-rest}
use Rattle.job_plan.specs.FoundLaws.{found-least}
use Rattle.job_least.specs.AskedLaws.{asked-labels, period-told}
use Rattle.job_least.proofs.least_in.Goals as goal

pub least_period-requires : goal.least_period-requires
least_period-requires c = let start = c in
    let e = c.requires.engine in
    let a = c.args in
    let h : a.s.inputs + a.s.gates ≤ length (replicate most_nodes (pos 0)) = omega (arith, e.wires.inputs, e.wires.gates) in
    let l = length-take-le (a.s.inputs + a.s.gates) (replicate most_nodes (pos 0)) h in
    let p = asked-labels (take (a.s.inputs + a.s.gates) (replicate most_nodes (pos 0))) (l ∙ sym (length-replicate (a.s.inputs + a.s.gates) (pos 0))) e.period in
    record { at_rest = engine-rest e; outputs_in_bounds = e.parts; sized = (sized-less a.s.gates p.few refl p.sized, p.ordered, ceilings-less a.s.gates p.few p.ceilings, p.some) }

pub returns : goal.returns
returns c =
    let e = c.requires.engine in
    let q = c.least_period.ensures.period in
    period-told (found-least e.period.few refl q)
