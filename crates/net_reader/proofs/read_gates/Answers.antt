use Rattle.std.proofs.Common.{arith}
use Rattle.std.proofs.lemmas.Result.{err_from_is_err_and}
use Rattle.net_reader.specs.NetStoreLaws.{gates-none, gates-one, gates-stop, gates-all}
use Rattle.net_reader.proofs.read_gates.Goals as goal

pub loop-g-init : goal.loop-g-init
loop-g-init c =
    let a = c.args in
    gates-none a.rules.wide a.bytes.now a.at a.k a.s a.net.now a.tables.now

pub returns-in_err-row : goal.returns-in_err-row
returns-in_err-row c =
    let a = c.args in
    let l = c.loop-g in
    let p = err_from_is_err_and c.from_residual.result c.from_residual.ensures.1 in
    rw (p.1, p.2)
    (record {
      result = gates-stop a.rules.wide a.bytes.now a.at a.k a.s l.net l.tables l.next l.g l.invariant c.loop-g-test.true c.in_err-row.ensures.result;
      few = tt;
    })

pub loop-g-preserved : goal.loop-g-preserved
loop-g-preserved c =
    let a = c.args in
    let l = c.loop-g in
    let r = c.in_ok-row in
    gates-one a.rules.wide a.bytes.now a.at a.k a.s l.net l.tables l.next l.g l.invariant r.row.value r.row.at c.loop-g-test.true r.ensures.result c.store_gate.ensures

pub returns : goal.returns
returns c =
    let a = c.args in
    let l = c.loop-g in
    let most = l.invariant.most in
    record {
      result = gates-all a.rules.wide a.bytes.now a.at a.k a.s l.net l.tables l.next l.g l.invariant c.loop-g-test.false;
      few = λ i h. l.invariant.few i (omega (arith, h, c.loop-g-test.false, most));
    }
