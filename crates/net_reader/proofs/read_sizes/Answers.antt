use Rattle.std.proofs.Common.{sym, ap, ◌∙◌, ℕ, drop}
use Rattle.std.proofs.lemmas.Result.{err_from_is_err_and}
use Rattle.net_bytes.specs.Reading.{Reader}
use Rattle.net_reader.specs.NetLaws.{gates-number-stops, outputs-number-stops, sizes-go}
use Rattle.net_reader.proofs.read_sizes.Goals as goal

pub returns-in_err-gates : goal.returns-in_err-gates
returns-in_err-gates c =
    let a = c.args in
    let s = a.bytes.now in
    let is = ap (λ (m : Reader ℕ). m (drop a.at s)) (sym (c.gates_field-field.ensures a.rules.wide)) ∙ c.in_err-gates.ensures.result in
    let p = err_from_is_err_and c.from_residual.result c.from_residual.ensures.1 in
    rw (p.1, p.2) (record { result = gates-number-stops a.rules s a.at is; gates = tt; outputs = tt })

pub returns-in_err-outputs : goal.returns-in_err-outputs
returns-in_err-outputs c =
    let a = c.args in
    let s = a.bytes.now in
    let g = c.in_ok-gates.gates in
    let is = ap (λ (m : Reader ℕ). m (drop a.at s)) (sym (c.gates_field-field.ensures a.rules.wide)) ∙ c.in_ok-gates.ensures.result in
    let p = err_from_is_err_and c.from_residual-in_err-outputs.result c.from_residual-in_err-outputs.ensures.1 in
    rw (p.1, p.2) (record { result = outputs-number-stops a.rules s a.at g.value (drop g.at s) is c.in_err-outputs.ensures; gates = tt; outputs = tt })

pub returns : goal.returns
returns c =
    let a = c.args in
    let s = a.bytes.now in
    let g = c.in_ok-gates.gates in
    let is = ap (λ (m : Reader ℕ). m (drop a.at s)) (sym (c.gates_field-field.ensures a.rules.wide)) ∙ c.in_ok-gates.ensures.result in
    let o = c.in_ok-outputs in
    rw c.from.ensures (sizes-go a.rules s a.at g.value (drop g.at s) is o.outputs.value o.outputs.at o.ensures)
