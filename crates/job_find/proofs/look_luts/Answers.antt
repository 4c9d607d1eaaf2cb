use Rattle.std.proofs.Common.{sym, ap, drop, arith}
use Rattle.std.proofs.lemmas.Result.{err_from_is_err_and}
use Rattle.cover_rows.specs.LutParts.{row_entry}
use Rattle.job_find.specs.RootLookup.{told}
use Rattle.job_find.specs.LookSteps.{looked_none, looked_one, looked_at, looked_beyond, looked_all, root-stops, body-stops}
use Rattle.job_find.proofs.look_luts.Goals as goal

pub loop-i-init : goal.loop-i-init
loop-i-init c = let a = c.args in looked_none a.two a.bytes.now a.g a.n a.at

pub returns-in_err-root : goal.returns-in_err-root
returns-in_err-root c =
    let a = c.args in
    let l = c.loop-i in
    let p = err_from_is_err_and c.from_residual.result c.from_residual.ensures.1 in
    rw p.1 (sym (ap told (root-stops a.two a.bytes.now a.g a.n a.at l.next l.least l._i l.invariant c.loop-i-test.true c.in_err-root.ensures.result)))

pub returns-then-r-g : goal.returns-then-r-g
returns-then-r-g c =
    let a = c.args in
    let s = a.bytes.now in
    let l = c.loop-i in
    let m = c.in_ok-root in
    sym (ap told (looked_at a.two s a.g a.n a.at l.next l.least l._i l.invariant c.loop-i-test.true m.root.value (drop m.root.at s) m.ensures.result (omega arith)))

pub returns-then-g-r : goal.returns-then-g-r
returns-then-g-r c =
    let a = c.args in
    let s = a.bytes.now in
    let l = c.loop-i in
    let m = c.in_ok-root in
    sym (ap told (looked_beyond a.two s a.g a.n a.at l.next l.least l._i l.invariant c.loop-i-test.true m.root.value (drop m.root.at s) m.ensures.result (omega arith)))

pub returns-in_err-body : goal.returns-in_err-body
returns-in_err-body c =
    let a = c.args in
    let s = a.bytes.now in
    let l = c.loop-i in
    let m = c.in_ok-root in
    let p = err_from_is_err_and c.from_residual-in_err-body.result c.from_residual-in_err-body.ensures.1 in
    let other = c.if-r-g.false in
    rw p.1
    (sym (ap told (body-stops a.two s a.g a.n a.at l.next l.least l._i l.invariant c.loop-i-test.true m.root.value (drop m.root.at s) m.ensures.result (omega arith)
    c.in_err-body.ensures.result)))

pub loop-i-preserved : goal.loop-i-preserved
loop-i-preserved c =
    let a = c.args in
    let s = a.bytes.now in
    let l = c.loop-i in
    let m = c.in_ok-root in
    let b = c.in_ok-body in
    let other = c.if-r-g.false in
    looked_one a.two s a.g a.n a.at l.next l.least l._i l.invariant c.loop-i-test.true m.root.value (drop m.root.at s) m.ensures.result (omega arith)
    (row_entry b.body.value) b.body.at _ b.ensures.result (omega arith)

pub returns : goal.returns
returns c =
    let a = c.args in
    let l = c.loop-i in
    sym (ap told (looked_all a.two a.bytes.now a.g a.n a.at l.next l.least l._i l.invariant c.loop-i-test.false))
