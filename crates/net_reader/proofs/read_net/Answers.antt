use Rattle.std.proofs.lemmas.Result.{err_from_is_err_and}
use Rattle.net_reader.specs.NetLaws.{net-alone}
use Rattle.net_reader.proofs.read_net.Goals as goal

pub returns-in_err-drawn : goal.returns-in_err-drawn
returns-in_err-drawn c =
    let a = c.args in
    let p = err_from_is_err_and c.from_residual.result c.from_residual.ensures.1 in
    rw (p.1, p.2) (net-alone a.rules a.k a.bytes.now _ c.in_err-drawn.ensures)

pub returns : goal.returns
returns c = let a = c.args in net-alone a.rules a.k a.bytes.now _ c.in_ok-drawn.ensures
