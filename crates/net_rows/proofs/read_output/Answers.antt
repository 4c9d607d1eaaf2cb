use Rattle.std.proofs.Common.{get_or, take, drop}
use Rattle.std.proofs.lemmas.Result.{err_from_is_err_and}
use Rattle.net_fields.specs.FieldListLaws.{first_taken}
use Rattle.net_rows.specs.OutputLaws.{out-map-stops, out-source-stops, delays-stop, out-goes}
use Rattle.net_rows.proofs.read_output.Goals as goal

pub returns-in_err-map : goal.returns-in_err-map
returns-in_err-map c =
    let a = c.args in
    let p = err_from_is_err_and c.from_residual.result c.from_residual.ensures.1 in
    rw (p.1, p.2) (out-map-stops a.rules.wide a.nodes (drop a.at a.bytes.now) c.in_err-map.ensures)

pub returns-in_err-source : goal.returns-in_err-source
returns-in_err-source c =
    let a = c.args in
    let s = a.bytes.now in
    let m = c.in_ok-map in
    let p = err_from_is_err_and c.from_residual-in_err-source.result c.from_residual-in_err-source.ensures.1 in
    rw (p.1, p.2) (out-source-stops a.rules.wide a.nodes (drop a.at s) m.map.value (drop m.map.at s) m.ensures c.in_err-source.ensures.result)

pub returns-in_err-counts : goal.returns-in_err-counts
returns-in_err-counts c =
    let a = c.args in
    let s = a.bytes.now in
    let m = c.in_ok-map in
    let n = c.in_ok-source in
    let p = err_from_is_err_and c.from_residual-in_err-counts.result c.from_residual-in_err-counts.ensures.1 in
    let items = rw c.from-m.ensures at c.in_err-counts.ensures in
    rw (p.1, p.2) (delays-stop a.rules.wide a.nodes (drop a.at s) m.map.value (drop m.map.at s) m.ensures n.source.value (drop n.source.at s) n.ensures.result items.result)

pub returns : goal.returns
returns c =
    let a = c.args in
    let s = a.bytes.now in
    let m = c.in_ok-map in
    let n = c.in_ok-source in
    let x = c.in_ok-counts.counts in
    let items = rw c.from-m.ensures at c.in_ok-counts.ensures in
    out-goes a.rules.wide a.nodes (drop a.at s) m.map.value (drop m.map.at s) m.ensures n.source.value (drop n.source.at s) n.ensures.result
    (get_or x.value 0 0) (take m.map.value x.value) (drop x.at s) (first_taken m.map.value x.value items.values.spare) items.result
