use Rattle.std.proofs.Common.{ℕ, ◌+◌, ◌-◌, ◌*◌, refl, rules, tests, get_or, pos}
use Rattle.std.specs.Prelude.{◌<ℤ◌}
use Rattle.std.proofs.lemmas.Iterator.{cases_from_any, YieldsList-from_range}
use Rattle.signed.specs.Range.{label_in}
use Rattle.label_visit.specs.LabelVisits.{tops_in}
use Rattle.label_climb.specs.Ranges.{any_yes}
use Rattle.label_climb.proofs.over.Goals as goal

pub returns : goal.returns
returns c =
    let a = c.args in
    let Above = λ (g : ℕ). pos (a.a.phi * get_or (tops_in a.s a.net.now a.a.cap) g 0) <ℤ label_in a.labels.now (a.s.inputs + g) in
    let Else = λ (g : ℕ). Unit {0} in
    let h = cases_from_any _ _ _ Above Else c.any.ensures.ran (YieldsList-from_range 0 a.s.gates (a.s.gates - 0) (cc) refl) (λ x q k. search (rules, tests)) (λ x q k. search (rules, tests)) in
    λ e. let w = any_yes Above Else 0 a.s.gates c.any.result h e in record { gate = w.0; is_gate = w.2; above = w.3 }
