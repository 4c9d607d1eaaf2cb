use Rattle.std.proofs.Common.{ℕ, ◌-◌, refl, rules, tests, pos}
use Rattle.std.specs.Prelude.{◌≤ℤ◌}
use Rattle.std.proofs.lemmas.Iterator.{cases_from_all, YieldsList-from_range}
use Rattle.signed.specs.Range.{label_in}
use Rattle.label_climb.specs.Ranges.{all_yes}
use Rattle.label_sweep.proofs.all_low.Goals as goal

pub returns-clause-yes : goal.returns-clause-yes
returns-clause-yes c =
    let a = c.args in
    let Low = λ (v : ℕ). label_in a.labels.now v ≤ℤ pos a.phi in
    let Else = λ (v : ℕ). Unit {0} in
    let h = cases_from_all _ _ _ Low Else c.all.ensures.ran (YieldsList-from_range a.from a.to (a.to - a.from) (cc) refl) (λ x q k. search (rules, tests)) (λ x q k. tt) in
    all_yes Low Else a.from a.to c.all.result h
