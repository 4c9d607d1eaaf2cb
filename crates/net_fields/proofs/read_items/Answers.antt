use Rattle.limits.specs.Limits.{most_items}
use Rattle.net_bytes.specs.Items.{items_none, items_one, items_stop, items_all, items_spare}
use Rattle.net_fields.specs.Fields.{field_byte}
use Rattle.std.proofs.lemmas.Result.{err_from_is_err_and}
use Rattle.net_fields.proofs.read_items.Goals as goal

pub loop-i-init : goal.loop-i-init
loop-i-init c = let a = c.args in items_none most_items (field_byte a.field) a.bytes.now a.at a.n

pub returns-in_err-item : goal.returns-in_err-item
returns-in_err-item c =
    let a = c.args in
    let l = c.loop-i in
    let p = err_from_is_err_and c.from_residual.result c.from_residual.ensures.1 in
    rw (p.1, p.2)
    (record {
      result = items_stop most_items (field_byte a.field) a.bytes.now a.at a.n l.values l.next l.i l.invariant c.loop-i-test.true c.in_err-item.ensures;
      values = tt;
    })

pub loop-i-preserved : goal.loop-i-preserved
loop-i-preserved c =
    let a = c.args in
    let l = c.loop-i in
    let b = c.in_ok-item in
    items_one most_items (field_byte a.field) a.bytes.now a.at a.n l.values l.next l.i l.invariant c.loop-i-test.true c.requires b.item.value b.item.at b.ensures

pub returns : goal.returns
returns c =
    let a = c.args in
    let l = c.loop-i in
    record {
      result = items_all most_items (field_byte a.field) a.bytes.now a.at a.n l.values l.next l.i l.invariant c.loop-i-test.false;
      values = record {
        spare = items_spare most_items (field_byte a.field) a.bytes.now a.at a.n l.values l.next l.i l.invariant;
        long = l.invariant.long;
      };
    }
