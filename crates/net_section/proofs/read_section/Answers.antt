use Rattle.std.proofs.lemmas.Result.{err_from_is_err_and}
use Rattle.net_section.specs.SectionReadLaws.{pasts-none, pasts-one, pasts-stop, pasts-all}
use Rattle.net_section.proofs.read_section.Goals as goal

pub loop-i-init : goal.loop-i-init
loop-i-init c = pasts-none c.args.bytes.now c.args.at c.args.n

pub returns-in_err-past : goal.returns-in_err-past
returns-in_err-past c =
    let a = c.args in
    let p = err_from_is_err_and c.from_residual.result c.from_residual.ensures.1 in
    rw (p.1, p.2) (pasts-stop a.bytes.now a.at a.n c.loop-i.invariant c.loop-i-test.true c.in_err-past.ensures)

pub loop-i-preserved : goal.loop-i-preserved
loop-i-preserved c =
    let a = c.args in
    let r = c.in_ok-past in
    pasts-one a.bytes.now a.at a.n c.loop-i.invariant c.loop-i-test.true r.past.value r.past.at r.ensures

pub returns : goal.returns
returns c =
    let a = c.args in
    (c.loop-i.invariant.done, pasts-all a.bytes.now a.at a.n c.loop-i.invariant c.loop-i-test.false)
