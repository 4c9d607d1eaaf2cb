use Rattle.std.proofs.Common.{ap, ◌∙◌, arith, drop}
use lib.Count.{ones-le}
use Rattle.limits.specs.Limits.{most_pins}
use Rattle.net_model.specs.Net.{Gate}
use Rattle.net_bytes.specs.Reading.{got}
use Rattle.net_rows.specs.GateLaws.{made_row}
use Rattle.net_rows.proofs.read_gate.Goals as goal

pub returns : goal.returns
returns c =
    let a = c.args in
    let m = c.in_ok-maps in
    let p = m.field-0.value in
    let l = c.in_ok-lists in
    let v = l.field-0.value in
    record {
      result = m.ensures.result a.rules.wide a.nodes ∙ l.ensures
          ∙ ap (λ (g : Gate). got g (drop l.field-0.at a.bytes.now))
          (made_row p.pins p.registers v.sources v.counts v.table c.spread-counts.result c.count_of.result c.number.result
          c.spread-counts.ensures c.count_of.ensures.is c.number.ensures);
      most = omega (arith, c.count_of.ensures.is, ones-le most_pins p.pins m.ensures.small);
    }
