use Rattle.std.proofs.Common.{ℕ, ◌-◌, refl, rules, tests}
use Rattle.std.proofs.lemmas.Iterator.{cases_from_all, YieldsList-from_range}
use Rattle.label_climb.specs.Ranges.{all_yes}
use Rattle.label_climb.specs.Trials.{RoseFurther}
use Rattle.label_climb.proofs.all_rose.Goals as goal

pub returns : goal.returns
returns c =
    let a = c.args in
    let Rose = λ (v : ℕ). RoseFurther a.old.now a.saved.now a.labels.now a.d v in
    let Else = λ (v : ℕ). Unit {0} in
    let h = cases_from_all _ _ _ Rose Else c.all.ensures.ran (YieldsList-from_range a.from a.to (a.to - a.from) (cc) refl) (λ x q k. search (rules, tests)) (λ x q k. tt) in
    λ e. record { at = all_yes Rose Else a.from a.to c.all.result h e }
