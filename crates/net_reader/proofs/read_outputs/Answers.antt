use Rattle.std.proofs.lemmas.Result.{err_from_is_err_and}
use Rattle.net_reader.specs.NetStoreLaws.{outputs-none, outputs-one, outputs-stop, outputs-all}
use Rattle.net_reader.proofs.read_outputs.Goals as goal

pub loop-o-init : goal.loop-o-init
loop-o-init c = outputs-none c.args.rules.wide c.args.bytes.now c.args.at c.args.s c.args.net.now

pub returns-in_err-row : goal.returns-in_err-row
returns-in_err-row c =
    let a = c.args in
    let l = c.loop-o in
    let p = err_from_is_err_and c.from_residual.result c.from_residual.ensures.1 in
    rw (p.1, p.2)
    (record {
      result = outputs-stop a.rules.wide a.bytes.now a.at a.s a.net.now l.net l.next l.o l.invariant c.loop-o-test.true c.in_err-row.ensures;
      below = l.invariant.below;
    })

pub loop-o-preserved : goal.loop-o-preserved
loop-o-preserved c =
    let a = c.args in
    let l = c.loop-o in
    let r = c.in_ok-row in
    rw (c.store_output.ensures, c.from.ensures)
    (outputs-one a.rules.wide a.bytes.now a.at a.s a.net.now l.net l.next l.o l.invariant c.requires c.loop-o-test.true
    r.row.value.source r.row.value.count r.row.at r.ensures)

pub returns : goal.returns
returns c =
    let a = c.args in
    let l = c.loop-o in
    record {
      result = outputs-all a.rules.wide a.bytes.now a.at a.s a.net.now l.net l.next l.o l.invariant c.loop-o-test.false;
      below = l.invariant.below;
    }
