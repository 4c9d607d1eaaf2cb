use Rattle.std.proofs.Common.{refl, ap, ◌∙◌, arith, take, drop}
use Rattle.std.proofs.lemmas.Result.{err_from_is_err_and}
use lib.Count.{ones-le}
use Rattle.limits.specs.Limits.{most_pins}
use Rattle.net_model.specs.Net.{Gate}
use Rattle.net_bytes.specs.Reading.{got}
use Rattle.net_rows.specs.GateLaws.{counts-stop, table-stops, lists-go, made-whole}
use Rattle.net_rows.proofs.read_lists.Goals as goal

pub table_bytes-b-requires : goal.table_bytes-b-requires
table_bytes-b-requires c = omega (arith, c.count_of-m.ensures.is, ones-le most_pins c.args.maps.pins c.requires)

pub returns-in_err-counts : goal.returns-in_err-counts
returns-in_err-counts c =
    let a = c.args in
    let s = a.bytes.now in
    let m = c.count_of-m in
    let x = c.in_ok-sources in
    let k = c.count_of-r in
    let p = err_from_is_err_and c.from_residual-in_err-counts.result c.from_residual-in_err-counts.ensures.1 in
    rw (p.1, p.2)
    (counts-stop a.rules.wide a.nodes a.maps.pins a.maps.registers m.result k.result _ m.ensures.is k.ensures.is refl (drop a.at s)
    (take m.result x.field-0.value) (drop x.field-0.at s) x.ensures.result c.in_err-counts.ensures.result)

pub returns-in_err-table : goal.returns-in_err-table
returns-in_err-table c =
    let a = c.args in
    let s = a.bytes.now in
    let m = c.count_of-m in
    let x = c.in_ok-sources in
    let k = c.count_of-r in
    let y = c.in_ok-counts in
    let b = c.table_bytes-b in
    let p = err_from_is_err_and c.from_residual-in_err-table.result c.from_residual-in_err-table.ensures.1 in
    rw (p.1, p.2)
    (table-stops a.rules.wide a.nodes a.maps.pins a.maps.registers m.result k.result b.result m.ensures.is k.ensures.is b.ensures.is (drop a.at s)
    (take m.result x.field-0.value) (drop x.field-0.at s) x.ensures.result
    (take k.result y.field-0.value) (drop y.field-0.at s) y.ensures.result c.in_err-table.ensures.result)

pub returns : goal.returns
returns c =
    let a = c.args in
    let s = a.bytes.now in
    let m = c.count_of-m in
    let x = c.in_ok-sources in
    let k = c.count_of-r in
    let y = c.in_ok-counts in
    let b = c.table_bytes-b in
    let z = c.in_ok-table in
    lists-go a.rules.wide a.nodes a.maps.pins a.maps.registers m.result k.result b.result m.ensures.is k.ensures.is b.ensures.is (drop a.at s)
    (take m.result x.field-0.value) (drop x.field-0.at s) x.ensures.result
    (take k.result y.field-0.value) (drop y.field-0.at s) y.ensures.result
    (take b.result z.field-0.value) (drop z.field-0.at s) z.ensures.result
    ∙ ap (λ (g : Gate). got g (drop z.field-0.at s))
    (made-whole a.maps.pins a.maps.registers m.result k.result b.result x.field-0.value y.field-0.value z.field-0.value
    x.ensures.values.spare y.ensures.values.spare z.ensures.values.spare)
