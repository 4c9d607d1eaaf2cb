use Rattle.std.proofs.Common.{sym, ap, ◌∙◌, ℕ, drop}
use Rattle.std.proofs.lemmas.Result.{err_from_is_err_and}
use Rattle.net_bytes.specs.Reading.{Reader}
use Rattle.cover_rows.specs.LutReadLaws.{count-stops, front_goes}
use Rattle.cover_rows.proofs.read_front.Goals as goal

pub returns-in_err-count : goal.returns-in_err-count
returns-in_err-count c =
    let a = c.args in
    let s = a.bytes.now in
    let x = c.in_ok-period in
    let period = ap (λ (m : Reader ℕ). m s) (sym (c.period_field.ensures a.rules.wide)) ∙ x.ensures.result in
    let t = drop x.period.at s in
    let count = ap (λ (m : Reader ℕ). m t) (sym (c.luts_field.ensures a.rules.wide)) ∙ c.in_err-count.ensures.result in
    let p = err_from_is_err_and c.from_residual-in_err-count.result c.from_residual-in_err-count.ensures.1 in
    rw (p.1, p.2) (count-stops c.requires s x.period.value t period count)

pub returns : goal.returns
returns c =
    let a = c.args in
    let s = a.bytes.now in
    let x = c.in_ok-period in
    let period = ap (λ (m : Reader ℕ). m s) (sym (c.period_field.ensures a.rules.wide)) ∙ x.ensures.result in
    let t = drop x.period.at s in
    let y = c.in_ok-count in
    let count = ap (λ (m : Reader ℕ). m t) (sym (c.luts_field.ensures a.rules.wide)) ∙ y.ensures.result in
    front_goes c.requires s x.period.value t period y.count.value (drop y.count.at s) count
