use native.Mathlib.Omega.{arith}
use Rattle.limits.specs.Limits.{most_items}
use Rattle.net_bytes.specs.Items.{items_none, items_one, items_stop, items_all, items_spare}
use Rattle.net_fields.specs.Fields.{field_number}
use Rattle.net_fields.specs.FieldListLaws.{small-none, small-set}
use Rattle.std.proofs.lemmas.Result.{err_from_is_err_and}
use Rattle.net_fields.proofs.read_numbers.Goals as goal

pub loop-i-init : goal.loop-i-init
loop-i-init c = let a = c.args in record { read = items_none most_items (field_number a.two a.field) a.bytes.now a.at a.n; small = small-none a.two most_items }

pub returns-in_err-number : goal.returns-in_err-number
returns-in_err-number c =
    let a = c.args in
    let l = c.loop-i in
    let p = err_from_is_err_and c.from_residual.result c.from_residual.ensures.1 in
    rw (p.1, p.2)
    (record {
      result = items_stop most_items (field_number a.two a.field) a.bytes.now a.at a.n l.values l.next l.i l.invariant.read c.loop-i-test.true c.in_err-number.ensures.result;
      values = tt;
      small = tt;
    })

pub loop-i-preserved : goal.loop-i-preserved
loop-i-preserved c =
    let a = c.args in
    let l = c.loop-i in
    let b = c.in_ok-number in
    let m = l.invariant.read.most in
    let long = l.invariant.read.long in
    record {
      read = items_one most_items (field_number a.two a.field) a.bytes.now a.at a.n l.values l.next l.i l.invariant.read c.loop-i-test.true c.requires b.number.value b.number.at b.ensures.result;
      small = small-set a.two l.values l.i b.number.value (omega arith) l.invariant.small b.ensures.small;
    }

pub returns : goal.returns
returns c =
    let a = c.args in
    let l = c.loop-i in
    record {
      result = items_all most_items (field_number a.two a.field) a.bytes.now a.at a.n l.values l.next l.i l.invariant.read c.loop-i-test.false;
      values = record {
        spare = items_spare most_items (field_number a.two a.field) a.bytes.now a.at a.n l.values l.next l.i l.invariant.read;
        long = l.invariant.read.long;
      };
      small = l.invariant.small;
    }
