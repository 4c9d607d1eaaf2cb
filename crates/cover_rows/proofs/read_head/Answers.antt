use Rattle.std.proofs.Common.{ap, ◌∙◌, ℕ, ◌^◌, drop}
use Rattle.std.proofs.lemmas.Result.{err_from_is_err_and}
use Rattle.cover_rows.specs.LutReadLaws.{size-stops, map-stops, head-goes}
use Rattle.cover_rows.proofs.read_head.Goals as goal

pub returns-in_err-size : goal.returns-in_err-size
returns-in_err-size c =
    let a = c.args in
    let p = err_from_is_err_and c.from_residual.result c.from_residual.ensures.1 in
    rw (p.1, p.2) (record { result = size-stops a.bytes.now a.at a.k c.in_err-size.ensures; few = tt })

pub returns-in_err-map : goal.returns-in_err-map
returns-in_err-map c =
    let a = c.args in
    let s = a.bytes.now in
    let z = c.in_ok-size in
    let p = err_from_is_err_and c.from_residual-in_err-map.result c.from_residual-in_err-map.ensures.1 in
    rw (p.1, p.2)
    (record {
      result = map-stops s a.at a.k z.size.value (drop z.size.at s) z.ensures c.power.result (c.power.ensures ∙ ap (λ (e : ℕ). 2 ^ e) c.from-n.ensures) c.in_err-map.ensures;
      few = tt;
    })

pub returns : goal.returns
returns c =
    let a = c.args in
    let s = a.bytes.now in
    let z = c.in_ok-size in
    let x = c.in_ok-map in
    rw c.from-n.ensures
    (head-goes s a.at a.k z.size.value (drop z.size.at s) z.ensures c.power.result (c.power.ensures ∙ ap (λ (e : ℕ). 2 ^ e) c.from-n.ensures)
    x.map.value x.map.at x.ensures c.requires)
